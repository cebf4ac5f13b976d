-- What every exchange keeps, in the words of a session.
use Rattle.std.proofs.Common.{◌≡◌, ℕ, Bool, List, ◌++◌, ◌⊎◌, inl, inr, Option, Some, None, refl, ap, ◌∙◌}
use Rattle.asgi_types.specs.declared.end_kind.EndKind.{EndKind}
use Rattle.asgi_types.specs.declared.facts.Facts.{Facts}
use Rattle.asgi_types.specs.declared.incoming.Incoming.{Incoming}
use Rattle.asgi_types.specs.declared.outgoing.Outgoing.{Outgoing}
use Rattle.asgi_exchange.specs.Heard.{Cause, Closed, Input, Cut}
use Rattle.asgi_exchange.specs.Keeps.{IsExchange}
use Rattle.asgi_ws.specs.declared.messages.Msg.{Msg}
use Rattle.asgi_exchange.specs.Session.{Output, Handshake, session_output}
use Rattle.asgi_exchange.specs.SessionExchange.{HasSessionCause, IsSessionExchange}
use Rattle.asgi_exchange.specs.ExchangeTexts.{ending_after}
use Rattle.asgi_exchange.specs.Views.{World, added_by, taken_of}
use Rattle.asgi_exchange.specs.Items.{end_of}
use Rattle.asgi_exchange.specs.WebSocket.{web_socket}

has_cause : (handshake : Handshake) (facts : Facts) (ring : ℕ) (w : World Msg Output) (events : List Incoming) (disconnect : Incoming)
    → Cause (web_socket handshake facts ring) w events disconnect → HasSessionCause w events disconnect
has_cause handshake facts ring w events _ (Closed c d) = inl (c, d)
has_cause handshake facts ring w events _ (Input b e d) = inr (inl (b, e, d))
has_cause handshake facts ring w events _ (Cut b d) = inr (inr (b, d))

cause_of : (handshake : Handshake) (facts : Facts) (ring : ℕ) (w : World Msg Output) (events : List Incoming) (times : ℕ) (heard : Incoming)
    → (times ≡ 0) ⊎ Cause (web_socket handshake facts ring) w events heard → (times ≡ 0) ⊎ HasSessionCause w events heard
cause_of handshake facts ring w events times heard (inl none) = inl none
cause_of handshake facts ring w events times heard (inr c) = inr (has_cause handshake facts ring w events heard c)

ending_is : (handshake : Handshake) (facts : Facts) (ring : ℕ) (events : List Outgoing) (ended : Option EndKind) (broken : Bool) (messages : List Msg)
    → added_by (web_socket handshake facts ring) events ended broken messages ≡ ending_after facts events ended broken
ending_is handshake facts ring events None broken messages = refl
ending_is handshake facts ring events (Some kind) broken messages = refl

pub in_words : (handshake : Handshake) (facts : Facts) (ring : ℕ) (w : World Msg Output) → IsExchange (web_socket handshake facts ring) w → IsSessionExchange handshake facts w
in_words handshake facts ring w x =
    let h = x.heard in
    record {
      events = h.events;
      times = h.times;
      disconnect = h.disconnect;
      heard = h.in_order;
      due = h.due;
      cause = cause_of handshake facts ring w h.events h.times h.disconnect h.cause;
      lawful = x.lawful;
      taken = x.taken;
      closed = x.closed;
      ended = x.ended;
      end_is = x.end_is;
      written = (
        x.written.0,
        x.written.1 ∙ ap (λ text. session_output handshake facts (taken_of w.conn) ++ text)
            (ending_is handshake facts ring (taken_of w.conn) (end_of w.conn.got) w.conn.broken_first w.conn.arrived),
      );
    }
