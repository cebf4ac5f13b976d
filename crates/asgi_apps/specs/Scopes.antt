-- The kind of a scope (ASGI, connection scope).
use Rattle.asgi_types.specs.declared.scope.Kind.{Kind}
use Rattle.asgi_types.specs.declared.scope.Kind.TheVariants as kind
use Rattle.asgi_types.specs.declared.scope.Scope.{Scope}
use Rattle.asgi_types.specs.declared.scope.Scope.TheVariants.{Http, WebSocket, Lifespan}

abbrev pub kind_of : Scope → Kind
kind_of (Http scope) = kind.Http
kind_of (WebSocket scope) = kind.WebSocket
kind_of (Lifespan scope) = kind.Lifespan
