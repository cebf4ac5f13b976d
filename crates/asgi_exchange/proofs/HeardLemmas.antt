-- What was received is a beginning of what was due, and then equal disconnects with their cause.
use Rattle.std.proofs.Common.{◌≡◌, ◌<◌, ◌⊎◌, true, inl, inr, List, [], ◌∷◌, ◌++◌, Option, Some, None, replicate, refl, ap, sym, ◌∙◌, subst, append-nil}
use mathlib.Core.List.{IsPrefix}
use Rattle.asgi_types.specs.declared.scope.Kind.{Kind}
use Rattle.asgi_types.specs.declared.scope.Kind.TheVariants.{Http, WebSocket, Lifespan}
use Rattle.asgi_types.specs.declared.incoming.Incoming.{Incoming}
use Rattle.asgi_protocol.specs.Verdicts.{is_disconnect}
use Rattle.asgi_protocol.proofs.LawLemmas.{tests_agree}
use Rattle.asgi_pipes.specs.Disconnects as pipes
use Rattle.asgi_pipes.specs.Disconnects.{disconnect_in, or_else, first_disconnect, HearsUntil, Hears}
use Rattle.asgi_pipes.proofs.DisconnectLemmas.{or_else_first_none, or_else_second_none, first-append, none_heard}
use Rattle.asgi_exchange.specs.Exchange.{Exchange, IsSteady, cut_disconnect}
use Rattle.asgi_exchange.specs.Halves.{IsOffered}
use Rattle.asgi_exchange.specs.Heard.{Cause, Closed, Input, Cut, HearsDue}
use Rattle.asgi_exchange.specs.Views.{Break, ByInput, ByCut, World, said_of}
use Rattle.asgi_exchange.proofs.ListLemmas.{prefix_one_more, last_same}
use Rattle.asgi_pipes.proofs.PrefixLemmas.{prefix_trans, prefix_self}

-- ---- lists with no disconnect

none_front : (p q : List Incoming) → first_disconnect (p ++ q) ≡ None → first_disconnect p ≡ None
none_front [] q h = refl
none_front (e ∷ p) q h =
    ap (λ (o : Option Incoming). or_else o (first_disconnect p)) (or_else_first_none (disconnect_in e) (first_disconnect (p ++ q)) h)
    ∙ none_front p q (or_else_second_none (disconnect_in e) (first_disconnect (p ++ q)) h)

none_begins : (p q : List Incoming) → IsPrefix p q → first_disconnect q ≡ None → first_disconnect p ≡ None
none_begins p q h e = none_front p h.0 (ap first_disconnect h.1 ∙ e)

none_last : (p : List Incoming) (d : Incoming) → disconnect_in d ≡ Some d → first_disconnect (p ++ d ∷ []) ≡ None → ⊥
none_last p d one h =
    let none : disconnect_in d ≡ None = or_else_second_none (first_disconnect p) (disconnect_in d) (sym (first-append p d) ∙ h) in
    cc (none, one)

is_in : (d : Incoming) → is_disconnect d ≡ true → disconnect_in d ≡ Some d
is_in d h = rw h refl

cut_is_one : (kind : Kind) → is_disconnect (cut_disconnect kind) ≡ true
cut_is_one Http = refl
cut_is_one WebSocket = refl
cut_is_one Lifespan = refl

module _ {A W : Type 0} (x : Exchange A W) (s : IsSteady x) (w : World A W) where
  -- what came off the queue is a beginning of what was due, or such a beginning and the disconnect of the break
  record After (pulled : List Incoming) : Type 0 where
    pub events : List Incoming
    pub disconnect : Incoming
    pub is_one : is_disconnect disconnect ≡ true
    pub in_order : pulled ≡ events ++ disconnect ∷ []
    pub due : IsPrefix events (x.due w.conn.arrived)
    pub cause : Cause x w events disconnect

  splits : (pulled : List Incoming) (broken : Option Break) → w.conn.broken ≡ broken → IsOffered x w.conn.arrived w.conn.offered broken
      → IsPrefix pulled w.conn.offered → IsPrefix pulled (x.due w.conn.arrived) ⊎ After pulled
  splits pulled None b o p = inl (prefix_trans pulled w.conn.offered (x.due w.conn.arrived) p o)
  splits pulled (Some ByInput) b o p =
      let disconnect : Incoming = x.input_disconnect w.conn.arrived in
      elim (prefix_one_more pulled (x.due w.conn.arrived) disconnect (p.0, p.1 ∙ o)) [
        | inl r ↦ inl r
        | inr e ↦ inr (
            record {
              events = x.due w.conn.arrived;
              disconnect = disconnect;
              is_one = s.input_disconnect_is_one w.conn.arrived;
              in_order = e;
              due = prefix_self (x.due w.conn.arrived);
              cause = Input b refl refl;
            }
            )
      ]
  splits pulled (Some ByCut) b o p =
      elim (prefix_one_more pulled o.0 (cut_disconnect x.kind) (p.0, p.1 ∙ o.2)) [
        | inl r ↦ inl (prefix_trans pulled o.0 (x.due w.conn.arrived) r o.1)
        | inr e ↦ inr (
            record { events = o.0; disconnect = cut_disconnect x.kind; is_one = cut_is_one x.kind; in_order = e; due = o.1; cause = Cut b refl }
            )
      ]

  -- nothing was received but what came off the queue
  all_came : (pulled : List Incoming) → w.app.heard ≡ pulled → IsPrefix pulled (x.due w.conn.arrived) ⊎ After pulled → HearsDue x w
  all_came pulled e (inl p) =
      record { events = pulled; times = 0; disconnect = cut_disconnect x.kind; in_order = e ∙ sym (append-nil pulled); due = p; cause = inl refl }
  all_came pulled e (inr b) =
      record { events = b.events; times = 1; disconnect = b.disconnect; in_order = e ∙ b.in_order; due = b.due; cause = inr b.cause }

  until : (pulled : List Incoming) → HearsUntil x.kind (said_of w.app) pulled w.app.heard → IsPrefix pulled (x.due w.conn.arrived) ⊎ After pulled → HearsDue x w
  until pulled h split = by h.cause split
    where
      by : ((h.times ≡ 0) × (pulled ≡ h.events)) ⊎ ((0 < h.times) × pipes.Cause x.kind (said_of w.app) h.events pulled h.disconnect)
          → IsPrefix pulled (x.due w.conn.arrived) ⊎ After pulled → HearsDue x w
      by (inl came) split = all_came pulled (none_heard h.events w.app.heard h.times h.disconnect h.in_order came.0 ∙ sym came.1) split
      by (inr (some_, inl own)) (inl p) = record {
        events = h.events;
        times = h.times;
        disconnect = h.disconnect;
        in_order = h.in_order;
        due = (p.0, ap (λ (l : List Incoming). l ++ p.0) (sym own.2) ∙ p.1);
        cause = inr (Closed ((tests_agree.closed x.kind (said_of w.app)).0 own.0) own.1);
      }
      by (inr (some_, inl own)) (inr b) =
          absurd (none_last b.events b.disconnect (is_in b.disconnect b.is_one) (ap first_disconnect (sym b.in_order ∙ own.2) ∙ h.no_other))
      by (inr (some_, inr came)) (inl p) =
          absurd (
          none_last h.events h.disconnect came.1
          (ap first_disconnect (sym came.2) ∙ none_begins pulled (x.due w.conn.arrived) p (s.due_is_no_disconnect w.conn.arrived)))
      by (inr (some_, inr came)) (inr b) =
          let same = last_same b.events h.events b.disconnect h.disconnect (sym b.in_order ∙ came.2) in
          record {
            events = b.events;
            times = h.times;
            disconnect = b.disconnect;
            in_order = h.in_order ∙ ap (λ (l : List Incoming). l ++ replicate h.times h.disconnect) (sym same.0) ∙ ap (λ (d : Incoming). b.events ++ replicate h.times d) (sym same.1);
            due = b.due;
            cause = inr b.cause;
          }

  pub heard_is_due : (pulled : List Incoming) → Hears x.kind (said_of w.app) pulled w.app.heard → IsOffered x w.conn.arrived w.conn.offered w.conn.broken
      → IsPrefix pulled w.conn.offered → HearsDue x w
  heard_is_due pulled h o p = by x.kind refl h
    where
      by : (kind : Kind) → x.kind ≡ kind → Hears kind (said_of w.app) pulled w.app.heard → HearsDue x w
      by Http e h = until pulled (subst (λ (k : Kind). HearsUntil k (said_of w.app) pulled w.app.heard) (sym e) h) (splits pulled w.conn.broken refl o p)
      by WebSocket e h = until pulled (subst (λ (k : Kind). HearsUntil k (said_of w.app) pulled w.app.heard) (sym e) h) (splits pulled w.conn.broken refl o p)
      by Lifespan e h = all_came pulled h (splits pulled w.conn.broken refl o p)
