-- Nothing was sent or received yet.
use Rattle.std.proofs.Common.{◌≡◌, [], None, inl, refl}
use Rattle.asgi_types.specs.declared.scope.Kind.{Kind}
use Rattle.asgi_types.specs.declared.scope.Kind.TheVariants.{Http, WebSocket, Lifespan}
use Rattle.asgi_types.specs.declared.incoming.Incoming.TheVariants.{HttpDisconnect}
use Rattle.asgi_pipes.specs.Disconnects.{answer_at_once, HearsUntil, Hears}

pub nothing_at_once : (kind : Kind) → None ≡ answer_at_once kind [] []
nothing_at_once Http = refl
nothing_at_once WebSocket = refl
nothing_at_once Lifespan = refl

until : (kind : Kind) → HearsUntil kind [] [] []
until kind = record { events = []; times = 0; disconnect = HttpDisconnect; in_order = refl; no_other = refl; cause = inl (refl, refl) }

pub hears_nothing : (kind : Kind) → Hears kind [] [] []
hears_nothing Http = until Http
hears_nothing WebSocket = until WebSocket
hears_nothing Lifespan = refl
