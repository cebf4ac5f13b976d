-- Laws of what is received, over every list.
use Rattle.std.specs.Prelude.{◌≡◌, ◌≢◌, ℕ, ◌-◌, true, List, ◌∷◌, ◌++◌, Some, is_some, replicate}
use Rattle.asgi_types.specs.declared.scope.Kind.{Kind}
use Rattle.asgi_types.specs.declared.scope.Kind.TheVariants.{Lifespan}
use Rattle.asgi_types.specs.declared.incoming.Incoming.{Incoming}
use Rattle.asgi_types.specs.declared.outgoing.Outgoing.{Outgoing}
use Rattle.asgi_protocol.specs.Shapes.{is_closed}
use Rattle.asgi_pipes.specs.Disconnects.{Hears, answer_at_once, own_disconnect, first_disconnect, disconnect_in}
use Rattle.asgi_pipes.specs.declared.plain_conn.PlainConn.{PlainConn}
use Rattle.asgi_pipes.specs.declared.plain_app.PlainApp.{PlainApp}
use Rattle.asgi_pipes.specs.Boxes.{put_by}
use Rattle.asgi_pipes.specs.Items.{items_of}
use Rattle.asgi_pipes.specs.PlainPairs.{IsPlainPair}
use Rattle.asgi_pipes.specs.Queues.{KeepsOrder, open_places}

-- what is received is a beginning of what was offered, and then equal disconnects
abbrev pub HeardIsOfferedInOrder : Type 0
HeardIsOfferedInOrder = (kind : Kind) (said : List Outgoing) (places count : ℕ) (offered pulled heard : List Incoming)
    → KeepsOrder places offered pulled count → Hears kind said pulled heard
    → (events : List Incoming) × (unheard : List Incoming) × (times : ℕ) × (disconnect : Incoming)
    × (offered ≡ events ++ unheard) × (heard ≡ events ++ replicate times disconnect)
    × (disconnect_in disconnect ≡ Some disconnect)

-- after the application's own closing event nothing but its disconnect is received
abbrev pub ClosedScopeHearsItsDisconnect : Type 0
ClosedScopeHearsItsDisconnect = (kind : Kind) (said : List Outgoing) (heard : List Incoming)
    → kind ≢ Lifespan → is_closed kind said ≡ true → answer_at_once kind said heard ≡ Some (own_disconnect kind said)

-- a received disconnect is received again, whatever waits in the queue
abbrev pub DisconnectIsHeardAgain : Type 0
DisconnectIsHeardAgain = (kind : Kind) (said : List Outgoing) (pulled heard : List Incoming) (disconnect : Incoming)
    → kind ≢ Lifespan → Hears kind said pulled heard → first_disconnect heard ≡ Some disconnect
    → answer_at_once kind said heard ≡ Some disconnect

-- after a received disconnect only equal ones follow
abbrev pub OnlyEqualDisconnectsFollow : Type 0
OnlyEqualDisconnectsFollow = (kind : Kind) (said : List Outgoing) (pulled before after : List Incoming) (event : Incoming)
    → kind ≢ Lifespan → disconnect_in event ≡ Some event → Hears kind said pulled (before ++ event ∷ after)
    → (times : ℕ) × (after ≡ replicate times event)

-- what was received is available even if it is known only to exist, since it has one reading
abbrev pub HeardHasOneReading : Type 0
HeardHasOneReading = (kind : Kind) (said : List Outgoing) (pulled heard : List Incoming)
    → ∥ Hears kind said pulled heard ∥₁ → Hears kind said pulled heard

-- the ends of a plain pair keep both orders at any moment: the reserved place holds only the disconnect or the end
abbrev pub PlainPairsKeepOrder : Type 0
PlainPairsKeepOrder = (conn : PlainConn) (app : PlainApp) → IsPlainPair conn app
    → ((left_in : ℕ) × KeepsOrder (open_places (conn.out.places - 1) conn.broken) (put_by conn.out) app.inn.taken.items left_in)
    × ((left_out : ℕ) × KeepsOrder (open_places (conn.out.places - 1) (is_some app.state.value.ended)) (items_of app.state.value.said.items app.state.value.ended) conn.inn.taken.items left_out)
