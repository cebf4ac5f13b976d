-- The steps of an exchange: each is a function of one half's view, and of what its queue returns. A step whose condition fails
-- changes nothing.
use Rattle.std.specs.Prelude.{ℕ, Bool, true, false, not, List, [], ◌∷◌, ◌++◌, length, take, drop, slice_get, Option, Some, None, is_none, if◌then◌else◌, nat_lt}
use Rattle.asgi_types.specs.declared.incoming.Incoming.{Incoming}
use Rattle.asgi_types.specs.declared.outgoing.Outgoing.{Outgoing}
use Rattle.asgi_protocol.specs.Verdicts.{verdict_on}
use Rattle.asgi_protocol.specs.Passing.{is_pass}
use Rattle.asgi_types.specs.declared.end_kind.EndKind.{EndKind}
use Rattle.asgi_pipes.specs.declared.items.OutItem.{OutItem}
use Rattle.asgi_pipes.specs.declared.items.OutItem.TheVariants.{Event, Ended}
use Rattle.asgi_pipes.specs.Disconnects.{has_disconnect, answer_at_once}
use Rattle.asgi_exchange.specs.Items.{end_of}
use Rattle.asgi_exchange.specs.Exchange.{Exchange, cut_disconnect}
use Rattle.asgi_exchange.specs.Views.{Break, ByInput, ByCut, ConnView, AppView, said_of, output}

-- the item of `all` that comes after as many as `before` has, if there is one
abbrev pub next_of : {B : Type 0} → List B → List B → Option B
next_of all before = slice_get all (length before)

abbrev pub is_by_input : Option Break → Bool
is_by_input (Some ByInput) = true
is_by_input _ = false

abbrev pub is_by_cut : Option Break → Bool
is_by_cut (Some ByCut) = true
is_by_cut _ = false

-- ---- the connection's steps

-- Arrive: more arrived; after a break by the input only if the input was over.
abbrev pub arrive : {A W : Type 0} → Exchange A W → ConnView A W → List A → ConnView A W
arrive x conn piece =
    if is_by_input conn.broken
    then (if x.is_over conn.arrived then record conn { arrived = conn.arrived ++ piece } else conn)
    else record conn { arrived = conn.arrived ++ piece }

-- Offer: the next event that is due is offered, if a place is free and there was no break.
abbrev pub offer_this : {A W : Type 0} → ConnView A W → Option Incoming → ConnView A W
offer_this conn None = conn
offer_this conn (Some event) = record conn { offered = conn.offered ++ event ∷ [] }

abbrev pub offer : {A W : Type 0} → Exchange A W → ConnView A W → (has_place : Bool) → ConnView A W
offer x conn has_place =
    if is_none conn.broken then (if has_place then offer_this conn (next_of (x.due conn.arrived) conn.offered) else conn) else conn

-- Break: one disconnect is offered, once; by the input only after all that is due, and before the end was taken.
abbrev pub break_this : {A W : Type 0} → Exchange A W → ConnView A W → Break → ConnView A W
break_this x conn ByInput =
    if nat_lt (length conn.offered) (length (x.due conn.arrived)) then conn
    else (if is_none (end_of conn.got) then record conn { offered = conn.offered ++ x.input_disconnect conn.arrived ∷ []; broken = Some ByInput } else conn)
break_this x conn ByCut = record conn { offered = conn.offered ++ cut_disconnect x.kind ∷ []; broken = Some ByCut }

abbrev pub break_off : {A W : Type 0} → Exchange A W → ConnView A W → Break → ConnView A W
break_off x conn cause = if is_none conn.broken then break_this x conn cause else conn

-- Take: the next item of the queue is taken; nothing after the end.
abbrev pub take_this : {A W : Type 0} → ConnView A W → Option OutItem → ConnView A W
take_this conn None = conn
take_this conn (Some (Event event)) = record conn { got = conn.got ++ Event event ∷ [] }
take_this conn (Some (Ended kind)) = record conn { got = conn.got ++ Ended kind ∷ []; broken_first = not (is_none conn.broken) }

abbrev pub take_next : {A W : Type 0} → ConnView A W → (next : Option OutItem) → ConnView A W
take_next conn next = if is_none (end_of conn.got) then take_this conn next else conn

-- Write: k more of the output were written, or as many as there are; none once the connection was cut short.
abbrev pub write : {A W : Type 0} → Exchange A W → ConnView A W → ℕ → ConnView A W
write x conn k = if is_by_cut conn.broken then conn else record conn { written = conn.written ++ take k (drop (length conn.written) (output x conn)) }

-- ---- the application's steps

-- Hear: after the application's own closing event its disconnect, and a received disconnect again; else the next of the queue.
abbrev pub pull_this : AppView → Option Incoming → AppView
pull_this app None = app
pull_this app (Some event) = record app { pulled = app.pulled ++ event ∷ []; heard = app.heard ++ event ∷ [] }

abbrev pub hear_this : AppView → (at_once : Option Incoming) → (next : Option Incoming) → AppView
hear_this app (Some disconnect) next = record app { heard = app.heard ++ disconnect ∷ [] }
hear_this app None next = pull_this app next

abbrev pub hear : {A W : Type 0} → Exchange A W → AppView → (next : Option Incoming) → AppView
hear x app next = hear_this app (answer_at_once x.kind (said_of app) app.heard) next

-- Say: an event that passes is sent, if a place is free and the task has not ended.
abbrev pub say : {A W : Type 0} → Exchange A W → AppView → Outgoing → (has_place : Bool) → AppView
say x app event has_place =
    if is_none (end_of app.put)
    then (if has_place then (if is_pass (verdict_on x.kind x.facts (said_of app) (has_disconnect app.heard) event) then record app { put = app.put ++ Event event ∷ [] } else app) else app)
    else app

-- End: the end of the task follows all that was sent, once.
abbrev pub finish : AppView → EndKind → AppView
finish app kind = if is_none (end_of app.put) then record app { put = app.put ++ Ended kind ∷ [] } else app
