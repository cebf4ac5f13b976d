-- The lists of a session grow with what is received, and with each answer.
use Rattle.std.proofs.Common.{◌≡◌, Bool, true, false, List, [], ◌∷◌, ◌++◌, Option, Some, None, refl, ap, sym, ◌∙◌, subst, append-nil, append_assoc}
use Rattle.std.specs.Prelude.{◌||◌, map}
use Rattle.std.specs.List.{list_any}
use Rattle.asgi_types.specs.declared.incoming.Payload.{Payload}
use Rattle.asgi_types.specs.declared.incoming.Incoming.{Incoming}
use Rattle.asgi_types.specs.declared.incoming.Incoming.TheVariants.{HttpRequest, HttpDisconnect, WsConnect, WsReceive, WsDisconnect, LifespanStartup, LifespanShutdown}
use Rattle.asgi_types.specs.declared.outgoing.Outgoing.{Outgoing}
use Rattle.asgi_apps.specs.WsEchoing.{is_connect}
use Rattle.asgi_apps.proofs.WsEchoLemmas.{connect-append}
use Rattle.asgi_talks.specs.declared.answer.Answer.{Answer}
use Rattle.asgi_talks.specs.declared.opened.Opened.{Opened}
use Rattle.asgi_talks.specs.Answering.{answer_events, events_of, opening_events, session_after}
use Rattle.asgi_talks.specs.Sessions.{Answered, Given, Replied, Unasked, answer_in, but_last, due, due_before, messages_of, payloads_of}

-- ---- "Connect"

neither_is : (a b : Bool) → a ≡ false → b ≡ false → (a || b) ≡ false
neither_is true b h k = absurd (cc)
neither_is false b h k = k

first_is : (a b : Bool) → a ≡ true → (a || b) ≡ true
first_is true b h = refl
first_is false b h = absurd (cc)

last_is : (a : Bool) → (a || true) ≡ true
last_is true = refl
last_is false = refl

pub unconnected-append : (heard : List Incoming) (event : Incoming) → list_any is_connect heard ≡ false → is_connect event ≡ false
    → list_any is_connect (heard ++ event ∷ []) ≡ false
unconnected-append heard event h e = connect-append heard event ∙ neither_is (list_any is_connect heard) (is_connect event) h e

pub open-append : (heard : List Incoming) (event : Incoming) → list_any is_connect heard ≡ true → list_any is_connect (heard ++ event ∷ []) ≡ true
open-append heard event h = connect-append heard event ∙ first_is (list_any is_connect heard) (is_connect event) h

pub opens-append : (heard : List Incoming) → list_any is_connect (heard ++ WsConnect ∷ []) ≡ true
opens-append heard = connect-append heard WsConnect ∙ last_is (list_any is_connect heard)

-- ---- messages

payloads-append : (heard : List Incoming) (event : Incoming) → payloads_of (heard ++ event ∷ []) ≡ payloads_of heard ++ payloads_of (event ∷ [])
payloads-append [] event = refl
payloads-append (HttpRequest b m ∷ heard) event = payloads-append heard event
payloads-append (HttpDisconnect ∷ heard) event = payloads-append heard event
payloads-append (WsConnect ∷ heard) event = payloads-append heard event
payloads-append (WsReceive p ∷ heard) event = ap (λ (l : List Payload). p ∷ l) (payloads-append heard event)
payloads-append (WsDisconnect c r ∷ heard) event = payloads-append heard event
payloads-append (LifespanStartup ∷ heard) event = payloads-append heard event
payloads-append (LifespanShutdown ∷ heard) event = payloads-append heard event

-- one more event of an open session
pub messages-append : (heard : List Incoming) (event : Incoming) → list_any is_connect heard ≡ true
    → messages_of (heard ++ event ∷ []) ≡ messages_of heard ++ payloads_of (event ∷ [])
messages-append [] event h = absurd (cc)
messages-append (HttpRequest b m ∷ heard) event h = messages-append heard event h
messages-append (HttpDisconnect ∷ heard) event h = messages-append heard event h
messages-append (WsConnect ∷ heard) event h = payloads-append heard event
messages-append (WsReceive p ∷ heard) event h = messages-append heard event h
messages-append (WsDisconnect c r ∷ heard) event h = messages-append heard event h
messages-append (LifespanStartup ∷ heard) event h = messages-append heard event h
messages-append (LifespanShutdown ∷ heard) event h = messages-append heard event h

-- an open session has no messages yet
pub messages-opens : (heard : List Incoming) → list_any is_connect heard ≡ false → messages_of (heard ++ WsConnect ∷ []) ≡ []
messages-opens [] h = refl
messages-opens (HttpRequest b m ∷ heard) h = messages-opens heard h
messages-opens (HttpDisconnect ∷ heard) h = messages-opens heard h
messages-opens (WsConnect ∷ heard) h = absurd (cc)
messages-opens (WsReceive p ∷ heard) h = messages-opens heard h
messages-opens (WsDisconnect c r ∷ heard) h = messages-opens heard h
messages-opens (LifespanStartup ∷ heard) h = messages-opens heard h
messages-opens (LifespanShutdown ∷ heard) h = messages-opens heard h

-- ---- turns

module _ {S : Type 0} (answers : S → Payload → S → Answer → Type 0) (tells : S → S → Answer → Type 0) (session : S) (next : S) (answer : Answer) where
  -- one more message was answered
  pub answered-append : (given : List Given) (messages : List Payload) (before : Option S) (message : Payload) → Answered answers tells given messages before (Some session)
      → answers session message next answer
      → Answered answers tells (given ++ Replied answer ∷ []) (messages ++ message ∷ []) before (session_after answer next)
  answered-append [] messages before message each allowed =
      subst (λ (l : List Payload). Answered answers tells (Replied answer ∷ []) (l ++ message ∷ []) before (session_after answer next)) (sym each.0)
      (subst (λ (b : Option S). Answered answers tells (Replied answer ∷ []) (message ∷ []) b (session_after answer next)) each.1 (next, allowed, (refl, refl)))
  answered-append (Replied a ∷ given) (m ∷ messages) (Some s) message each allowed =
      (each.0, each.1, answered-append given messages (session_after a each.0) message each.2 allowed)
  answered-append (Replied a ∷ given) (m ∷ messages) None message each allowed = absurd each
  answered-append (Replied a ∷ given) [] before message each allowed = absurd each
  answered-append (Unasked a ∷ given) messages (Some s) message each allowed =
      (each.0, each.1, answered-append given messages (session_after a each.0) message each.2 allowed)
  answered-append (Unasked a ∷ given) messages None message each allowed = absurd each

  -- something more was said unasked
  pub told-append : (given : List Given) (messages : List Payload) (before : Option S) → Answered answers tells given messages before (Some session)
      → tells session next answer → Answered answers tells (given ++ Unasked answer ∷ []) messages before (session_after answer next)
  told-append [] messages before each allowed =
      subst (λ (b : Option S). Answered answers tells (Unasked answer ∷ []) messages b (session_after answer next)) each.1 (next, allowed, (each.0, refl))
  told-append (Replied a ∷ given) (m ∷ messages) (Some s) each allowed =
      (each.0, each.1, told-append given messages (session_after a each.0) each.2 allowed)
  told-append (Replied a ∷ given) (m ∷ messages) None each allowed = absurd each
  told-append (Replied a ∷ given) [] before each allowed = absurd each
  told-append (Unasked a ∷ given) messages (Some s) each allowed =
      (each.0, each.1, told-append given messages (session_after a each.0) each.2 allowed)
  told-append (Unasked a ∷ given) messages None each allowed = absurd each

events-append : (given : List Given) (turn : Given) → events_of (map answer_in (given ++ turn ∷ [])) ≡ events_of (map answer_in given) ++ answer_events (answer_in turn)
events-append [] turn = append-nil (answer_events (answer_in turn))
events-append (x ∷ given) turn =
    ap (λ (l : List Outgoing). answer_events (answer_in x) ++ l) (events-append given turn)
    ∙ sym (append_assoc (answer_events (answer_in x)) (events_of (map answer_in given)) (answer_events (answer_in turn)))

but_last-append : (given : List Given) (turn : Given) → but_last (given ++ turn ∷ []) ≡ given
but_last-append [] turn = refl
but_last-append (x ∷ []) turn = refl
but_last-append (x ∷ y ∷ given) turn = ap (λ (l : List Given). x ∷ l) (but_last-append (y ∷ given) turn)

module _ {S : Type 0} (opened : Opened S) where
  pub due-append : (given : List Given) (turn : Given) → due opened (given ++ turn ∷ []) ≡ due opened given ++ answer_events (answer_in turn)
  due-append given turn =
      ap (λ (l : List Outgoing). opening_events opened ++ l) (events-append given turn)
      ∙ sym (append_assoc (opening_events opened) (events_of (map answer_in given)) (answer_events (answer_in turn)))

  -- all before the last turn is what was due without it
  pub due_before-append : (given : List Given) (turn : Given) → due_before opened (given ++ turn ∷ []) ≡ due opened given
  due_before-append [] turn = refl
  due_before-append (x ∷ given) turn = ap (λ (l : List Given). due opened l) (but_last-append (x ∷ given) turn)
