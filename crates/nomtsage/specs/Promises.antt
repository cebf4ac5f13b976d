-- What an engine promises of each exchange, beside what its application does.
use Rattle.std.specs.Prelude.{List, Option}
use Rattle.asgi_types.specs.declared.end_kind.EndKind.{EndKind}
use Rattle.asgi_types.specs.declared.incoming.Incoming.{Incoming}
use Rattle.asgi_types.specs.declared.outgoing.Outgoing.{Outgoing}
use Rattle.asgi_types.specs.declared.scope.Scope.{Scope}
use Rattle.asgi_apps.specs.Promises.{Promise}

-- whatever is so by the one promise is so by the other
pub record PromisesWithin (one other : Promise) : Type 0 where
  pub within : (scope : Scope) (heard : List Incoming) (said : List Outgoing) (ended : Option EndKind) → one scope heard said ended → other scope heard said ended
