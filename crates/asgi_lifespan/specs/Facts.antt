-- The scope of a lifespan task, and what takes the place of the facts of a request there.
use Rattle.std.specs.Prelude.{[]}
use Rattle.asgi_types.specs.Plain.{plain_request}
use Rattle.asgi_types.specs.declared.facts.Facts.{Facts}
use Rattle.asgi_types.specs.declared.scope.Kind.TheVariants as kind
use Rattle.asgi_types.specs.declared.scope.Scope.{Scope}
use Rattle.asgi_types.specs.declared.scope.Scope.TheVariants.{Lifespan}

-- "Scope": the versions of ASGI and of this format, and a state with nothing in it
abbrev pub lifespan_scope : Scope
lifespan_scope = Lifespan (record { asgi = kind.Lifespan; state = [] })

-- there is no request
abbrev pub no_request : Facts
no_request = plain_request
