-- The versions in a scope, and a scope with the parts that its connection knows.
use Rattle.std.specs.Prelude.{ℕ, List, Option, codes}
use Rattle.asgi_types.specs.declared.scope.Kind.{Kind}
use Rattle.asgi_types.specs.declared.scope.Kind.TheVariants as kind
use Rattle.asgi_types.specs.declared.scope.Peer.{Peer}
use Rattle.asgi_types.specs.declared.scope.Scope.{Scope}
use Rattle.asgi_types.specs.declared.scope.Scope.TheVariants.{Http, WebSocket, Lifespan}
use Rattle.asgi_types.specs.declared.state.StateValue.{StateValue}

-- the version of the message format
abbrev pub spec_version_of : Kind → List ℕ
spec_version_of kind.Http = codes "2.4"
spec_version_of kind.WebSocket = codes "2.4"
spec_version_of kind.Lifespan = codes "2.0"

-- the scope with this client, this server and this state
abbrev pub scope_with : Scope → Option Peer → Option Peer → List (List ℕ × StateValue) → Scope
scope_with (Http s) client server state = Http (record s { client = client; server = server; state = state })
scope_with (WebSocket s) client server state = WebSocket (record s { client = client; server = server; state = state })
scope_with (Lifespan s) client server state = Lifespan (record s { state = state })
