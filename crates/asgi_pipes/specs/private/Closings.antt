-- What is received at once after an event that passed: words of private functions alone.
use Rattle.std.specs.Prelude.{Bool, [], Option, Some, None, if◌then◌else◌}
use Rattle.asgi_types.specs.declared.incoming.Incoming.{Incoming}
use Rattle.asgi_types.specs.declared.incoming.Incoming.TheVariants.{HttpDisconnect, WsDisconnect}
use Rattle.asgi_types.specs.declared.outgoing.Outgoing.{Outgoing}
use Rattle.asgi_types.specs.declared.scope.Kind.{Kind}
use Rattle.asgi_types.specs.declared.scope.Kind.TheVariants.{Http, WebSocket, Lifespan}
use Rattle.asgi_pipes.specs.Disconnects.{code_of}

-- after an event that has closed its scope
abbrev pub own_after : Kind → Bool → Outgoing → Option Incoming
own_after Http is_open event = Some HttpDisconnect
own_after WebSocket is_open event = Some (WsDisconnect (code_of is_open (Some event)) [])
own_after Lifespan is_open event = None

-- nothing, if it has not
abbrev pub at_once_after : (is_closed : Bool) → Kind → Bool → Outgoing → Option Incoming
at_once_after is_closed kind is_open event = if is_closed then own_after kind is_open event else None
