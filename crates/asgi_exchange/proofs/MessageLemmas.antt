-- What a message of the message layer means for a session: the event that is due, or the end of the input.
use Rattle.std.proofs.Common.{◌≡◌, ℕ, true, false, List, [], ◌∷◌, ◌++◌, Option, Some, None, refl, ap, sym, ◌∙◌, append-nil}
use Rattle.std.specs.List.{flat_map}
use Rattle.std.proofs.lemmas.List.Concat.{flat_map-append}
use Rattle.asgi_types.specs.declared.facts.Facts.{Facts}
use Rattle.asgi_types.specs.declared.incoming.Incoming.{Incoming}
use Rattle.asgi_types.specs.declared.incoming.Incoming.TheVariants.{WsConnect, WsDisconnect}
use Rattle.asgi_exchange.specs.Items.{end_of}
use Rattle.asgi_ws.specs.declared.messages.Msg.{Msg}
use Rattle.asgi_ws.specs.declared.messages.Msg.TheVariants.{Text, Bytes, Ping, Pong, Close}
use Rattle.asgi_exchange.specs.Messages.{events_in, before_close, first_close, has_close, session_events, disconnect_of, session_disconnect}
use Rattle.asgi_exchange.specs.Session.{Output, Handshake}
use Rattle.asgi_exchange.specs.Steps.{is_by_input, arrive, offer, break_off}
use Rattle.asgi_exchange.specs.Views.{ConnView, ByInput}
use Rattle.asgi_exchange.specs.WebSocket.{web_socket}
use Rattle.asgi_exchange.proofs.ResultLemmas.{break_is_offered, next_is_offered}

-- ---- messages with no close

before_more : (messages more : List Msg) → has_close messages ≡ false → before_close (messages ++ more) ≡ messages ++ before_close more
before_more [] more h = refl
before_more (Text text ∷ messages) more h = ap (λ w. Text text ∷ w) (before_more messages more h)
before_more (Bytes bytes ∷ messages) more h = ap (λ w. Bytes bytes ∷ w) (before_more messages more h)
before_more (Ping ∷ messages) more h = ap (λ w. Ping ∷ w) (before_more messages more h)
before_more (Pong ∷ messages) more h = ap (λ w. Pong ∷ w) (before_more messages more h)
before_more (Close close ∷ messages) more h = absurd (cc (h))

before_all : (messages : List Msg) → has_close messages ≡ false → before_close messages ≡ messages
before_all messages h = ap before_close (sym (append-nil messages)) ∙ before_more messages [] h ∙ append-nil messages

first_more : (messages more : List Msg) → has_close messages ≡ false → first_close (messages ++ more) ≡ first_close more
first_more [] more h = refl
first_more (Text text ∷ messages) more h = first_more messages more h
first_more (Bytes bytes ∷ messages) more h = first_more messages more h
first_more (Ping ∷ messages) more h = first_more messages more h
first_more (Pong ∷ messages) more h = first_more messages more h
first_more (Close close ∷ messages) more h = absurd (cc (h))

-- ---- one more message

alone : (message : Msg) → flat_map events_in (before_close (message ∷ [])) ≡ events_in message
alone (Text text) = refl
alone (Bytes bytes) = refl
alone Ping = refl
alone Pong = refl
alone (Close close) = refl

pub events_grow : (messages : List Msg) (message : Msg) → has_close messages ≡ false → session_events (messages ++ message ∷ []) ≡ session_events messages ++ events_in message
events_grow messages message h =
    ap (λ w. WsConnect ∷ flat_map events_in w) (before_more messages (message ∷ []) h)
    ∙ ap (λ w. WsConnect ∷ w) (flat_map-append events_in messages (before_close (message ∷ [])))
    ∙ ap (λ w. WsConnect ∷ (flat_map events_in messages ++ w)) (alone message)
    ∙ ap (λ w. WsConnect ∷ (flat_map events_in w ++ events_in message)) (sym (before_all messages h))

pub close_is_heard : (messages : List Msg) (close : Option (ℕ × List ℕ)) → has_close messages ≡ false → session_disconnect (messages ++ Close close ∷ []) ≡ disconnect_of (Some close)
close_is_heard messages close h = ap disconnect_of (first_more messages (Close close ∷ []) h)

pub none_is_heard : (messages : List Msg) → has_close messages ≡ false → session_disconnect messages ≡ WsDisconnect 1006 []
none_is_heard messages h = ap (λ w. session_disconnect w) (sym (append-nil messages)) ∙ ap disconnect_of (first_more messages [] h)

-- ---- steps

module _ (handshake : Handshake) (facts : Facts) (ring : ℕ) (conn : ConnView Msg Output) where
  pub message_arrives : (message : Msg) → is_by_input conn.broken ≡ false
      → arrive (web_socket handshake facts ring) conn (message ∷ []) ≡ record conn { arrived = conn.arrived ++ message ∷ [] }
  message_arrives message b = rw b refl

  pub message_is_offered : (message : Msg) (event : Incoming) (arrived : List Msg) → has_close arrived ≡ false → events_in message ≡ event ∷ []
      → conn.arrived ≡ arrived ++ message ∷ [] → conn.offered ≡ session_events arrived → conn.broken ≡ None
      → offer (web_socket handshake facts ring) conn true ≡ record conn { offered = conn.offered ++ event ∷ [] }
  message_is_offered message event arrived h e is all b =
      next_is_offered (web_socket handshake facts ring) conn event [] b
      (append-nil (conn.offered ++ event ∷ []) ∙ ap (λ w. w ++ event ∷ []) all ∙ ap (λ w. session_events arrived ++ w) (sym e) ∙ sym (events_grow arrived message h)
      ∙ ap session_events (sym is))

  pub session_breaks : conn.offered ≡ session_events conn.arrived → conn.broken ≡ None → end_of conn.got ≡ None
      → break_off (web_socket handshake facts ring) conn ByInput ≡ record conn { offered = conn.offered ++ session_disconnect conn.arrived ∷ []; broken = Some ByInput }
  session_breaks all b e = break_is_offered (web_socket handshake facts ring) conn b e all
