-- Words of examples: the steps of an exchange, each with one of its conditions left out. No promise is stated by these words.
use Rattle.std.specs.Prelude.{Bool, List, [], ◌∷◌, ◌++◌, Option, Some, is_none, if◌then◌else◌}
use Rattle.asgi_types.specs.declared.outgoing.Outgoing.{Outgoing}
use Rattle.asgi_protocol.specs.Verdicts.{verdict_on}
use Rattle.asgi_protocol.specs.Passing.{is_pass, passes}
use Rattle.asgi_pipes.specs.declared.items.OutItem.{OutItem}
use Rattle.asgi_pipes.specs.declared.items.OutItem.TheVariants.{Event}
use Rattle.asgi_pipes.specs.Disconnects.{has_disconnect}
use Rattle.asgi_exchange.specs.Examples.{session_facts}
use Rattle.asgi_exchange.specs.Exchange.{Exchange}
use Rattle.asgi_exchange.specs.Items.{end_of}
use Rattle.asgi_ws.specs.declared.messages.Msg.{Msg}
use Rattle.asgi_exchange.specs.Session.{Output}
use Rattle.asgi_exchange.specs.Steps.{next_of, offer_this, break_this, take_this}
use Rattle.asgi_exchange.specs.Views.{Break, ByInput, ConnView, AppView, World, said_of}
use Rattle.asgi_exchange.specs.WebSocket.{web_socket}

-- ---- the connection's steps

-- Arrive, also after a break by the input that was not over
abbrev pub arrive_ever : {A W : Type 0} → ConnView A W → List A → ConnView A W
arrive_ever conn piece = record conn { arrived = conn.arrived ++ piece }

-- Offer, also after a break
abbrev pub offer_ever : {A W : Type 0} → Exchange A W → ConnView A W → (has_place : Bool) → ConnView A W
offer_ever x conn has_place = if has_place then offer_this conn (next_of (x.due conn.arrived) conn.offered) else conn

-- Break, also after a break
abbrev pub break_ever : {A W : Type 0} → Exchange A W → ConnView A W → Break → ConnView A W
break_ever x conn cause = break_this x conn cause

-- Break by the input, also if more is due
abbrev pub break_early : {A W : Type 0} → Exchange A W → ConnView A W → ConnView A W
break_early x conn =
    if is_none conn.broken
    then (if is_none (end_of conn.got) then record conn { offered = conn.offered ++ x.input_disconnect conn.arrived ∷ []; broken = Some ByInput } else conn)
    else conn

-- Take, also after the end
abbrev pub take_ever : {A W : Type 0} → ConnView A W → (next : Option OutItem) → ConnView A W
take_ever conn next = take_this conn next

-- ---- the application's steps

-- Say, whether the event passes or not
abbrev pub say_unjudged : AppView → Outgoing → (has_place : Bool) → AppView
say_unjudged app event has_place = if is_none (end_of app.put) then (if has_place then record app { put = app.put ++ Event event ∷ [] } else app) else app

-- Say, whether a disconnect was received or not
abbrev pub say_unheard : {A W : Type 0} → Exchange A W → AppView → Outgoing → (has_place : Bool) → AppView
say_unheard x app event has_place =
    if is_none (end_of app.put)
    then (if has_place then (if passes x.kind x.facts (said_of app) event then record app { put = app.put ++ Event event ∷ [] } else app) else app)
    else app

-- Say, also after the end
abbrev pub say_ever : {A W : Type 0} → Exchange A W → AppView → Outgoing → (has_place : Bool) → AppView
say_ever x app event has_place =
    if has_place then (if is_pass (verdict_on x.kind x.facts (said_of app) (has_disconnect app.heard) event) then record app { put = app.put ++ Event event ∷ [] } else app) else app

-- ---- worlds

-- the world after such a step
abbrev pub with_conn : {A W : Type 0} → World A W → (ConnView A W → ConnView A W) → World A W
with_conn w step = record w { conn = step w.conn }

abbrev pub with_app : {A W : Type 0} → World A W → (AppView → AppView) → World A W
with_app w step = record w { app = step w.app }

-- a session, with no text for its handshake
abbrev pub bare_session : Exchange Msg Output
bare_session = web_socket (λ subprotocol headers. []) session_facts 16
