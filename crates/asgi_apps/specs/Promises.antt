-- What an application promises.
use Rattle.std.specs.Prelude.{List, Option}
use Rattle.asgi_types.specs.declared.end_kind.EndKind.{EndKind}
use Rattle.asgi_types.specs.declared.incoming.Incoming.{Incoming}
use Rattle.asgi_types.specs.declared.outgoing.Outgoing.{Outgoing}
use Rattle.asgi_types.specs.declared.scope.Scope.{Scope}

-- Of a scope: which events it may have sent after those that it got, and how its task ended, if it did.
abbrev pub Promise : Type 1
Promise = Scope → List Incoming → List Outgoing → Option EndKind → Type 0
