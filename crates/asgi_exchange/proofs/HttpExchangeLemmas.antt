-- An exchange over HTTP, in the words of the standards.
use Rattle.std.proofs.Common.{◌≡◌, ℕ, List, ◌++◌, ◌⊎◌, inl, inr, refl, ap, ◌∙◌, Option, Some, None, replicate, append-nil}
use mathlib.Core.List.{IsPrefix}
use Rattle.asgi_types.specs.declared.facts.Facts.{Facts}
use Rattle.asgi_types.specs.declared.incoming.Incoming.{Incoming}
use Rattle.asgi_types.specs.declared.incoming.Incoming.TheVariants.{HttpDisconnect}
use Rattle.asgi_types.specs.declared.limits.Limits.{Limits}
use Rattle.asgi_request.specs.BodyOf.{body_events, body_state}
use Rattle.asgi_request.proofs.BodyOfLemmas.{body_is_read}
use Rattle.asgi_response.specs.Response.{response_text}
use Rattle.asgi_types.specs.declared.end_kind.EndKind.{EndKind}
use Rattle.asgi_exchange.specs.Heard.{Cause, Closed, Input, Cut, HearsDue}
use Rattle.asgi_exchange.specs.Http.{http}
use Rattle.asgi_exchange.specs.ExchangeTexts.{input_of}
use Rattle.asgi_exchange.specs.HttpExchange.{HasCause, IsHttpExchange}
use Rattle.asgi_exchange.specs.ExchangeTexts.{text_of}
use Rattle.asgi_exchange.specs.Items.{end_of}
use Rattle.asgi_exchange.specs.Keeps.{IsExchange}
use Rattle.asgi_exchange.specs.Views.{World, taken_of, output}

module _ (limits : Limits) (facts : Facts) (w : World ℕ ℕ) where
  causes : (first : List Incoming) (d : Incoming) → Cause (http limits facts) w first d → (d ≡ HttpDisconnect) × HasCause w (body_events limits facts.framing w.conn.arrived) first
  causes first d (Closed c e) = (e, inl c)
  causes first d (Input b all e) = (e, inr (inl (b, all)))
  causes first d (Cut b e) = (e, inr (inr b))

  record Heard : Type 0 where
    pub first : List Incoming
    pub times : ℕ
    pub heard_is : w.app.heard ≡ first ++ replicate times HttpDisconnect
    pub due : IsPrefix first (body_events limits facts.framing w.conn.arrived)
    pub cause : (times ≡ 0) ⊎ HasCause w (body_events limits facts.framing w.conn.arrived) first

  heard_by : HearsDue (http limits facts) w → Heard
  heard_by h = by h.cause
    where
      by : (h.times ≡ 0) ⊎ Cause (http limits facts) w h.events h.disconnect → Heard
      by (inl none) = record {
        first = h.events;
        times = 0;
        heard_is = h.in_order ∙ ap (λ (k : ℕ). h.events ++ replicate k h.disconnect) none;
        due = h.due;
        cause = inl refl;
      }
      by (inr c) =
          let x = causes h.events h.disconnect c in
          record { first = h.events; times = h.times; heard_is = h.in_order ∙ ap (λ (d : Incoming). h.events ++ replicate h.times d) x.0; due = h.due; cause = inr x.1 }

  text_is : output (http limits facts) w.conn ≡ text_of facts (taken_of w.conn) (end_of w.conn.got) (input_of (body_state limits facts.framing w.conn.arrived))
  text_is = by (end_of w.conn.got) refl
    where
      by : (o : Option EndKind) → end_of w.conn.got ≡ o → output (http limits facts) w.conn ≡ text_of facts (taken_of w.conn) (end_of w.conn.got) (input_of (body_state limits facts.framing w.conn.arrived))
      by None e = rw e (append-nil (response_text facts (taken_of w.conn)))
      by (Some kind) e = rw e refl

  pub in_words : IsExchange (http limits facts) w → IsHttpExchange limits facts w
  in_words x =
      let h = heard_by x.heard in
      record {
        events = body_events limits facts.framing w.conn.arrived;
        state = body_state limits facts.framing w.conn.arrived;
        body = body_is_read limits facts.framing w.conn.arrived;
        first = h.first;
        times = h.times;
        heard = h.heard_is;
        due = h.due;
        cause = h.cause;
        lawful = x.lawful;
        taken = x.taken;
        closed = x.closed;
        ended = x.ended;
        end_is = x.end_is;
        written = (x.written.0, x.written.1 ∙ text_is);
      }
