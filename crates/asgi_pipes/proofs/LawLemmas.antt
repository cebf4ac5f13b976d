-- What was received is a beginning of what was offered, and then equal disconnects.
use Rattle.std.proofs.Common.{◌≡◌, ℕ, true, false, inl, inr, List, [], ◌∷◌, ◌++◌, Some, None, replicate, suc, zero, refl, sym, ap, ◌∙◌, append_assoc, append-nil}
use Rattle.std.specs.Prelude.{if◌then◌else◌}
use Rattle.asgi_types.specs.declared.scope.Kind.{Kind}
use Rattle.asgi_types.specs.declared.scope.Kind.TheVariants.{Http, WebSocket, Lifespan}
use Rattle.asgi_types.specs.declared.incoming.Incoming.{Incoming}
use Rattle.asgi_types.specs.declared.incoming.Incoming.TheVariants.{HttpDisconnect}
use Rattle.asgi_types.specs.declared.outgoing.Outgoing.{Outgoing}
use Rattle.asgi_protocol.specs.Shapes.{is_closed}
use Rattle.asgi_pipes.specs.Disconnects.{disconnect_in, first_disconnect, own_disconnect, HearsUntil}
use Rattle.asgi_pipes.specs.Queues.{KeepsOrder}
use Rattle.asgi_pipes.specs.Laws.{HeardIsOfferedInOrder, ClosedScopeHearsItsDisconnect, DisconnectIsHeardAgain, OnlyEqualDisconnectsFollow}
use Rattle.asgi_pipes.proofs.DisconnectLemmas.{first_until, or_else_first_none, or_else_second_none, decide, none_heard}

pub own_is : (kind : Kind) (said : List Outgoing) → disconnect_in (own_disconnect kind said) ≡ Some (own_disconnect kind said)
own_is Http said = refl
own_is WebSocket said = refl
own_is Lifespan said = refl

abbrev InOrder : List Incoming → List Incoming → Type 0
InOrder offered heard =
    (events : List Incoming) × (unheard : List Incoming) × (times : ℕ) × (disconnect : Incoming)
    × (offered ≡ events ++ unheard) × (heard ≡ events ++ replicate times disconnect)
    × (disconnect_in disconnect ≡ Some disconnect)

in_order_until : (kind : Kind) (said : List Outgoing) (places count : ℕ) (offered pulled heard : List Incoming)
    → KeepsOrder places offered pulled count → HearsUntil kind said pulled heard → InOrder offered heard
in_order_until kind said places count offered pulled heard order h = elim h.cause [
  | inl none ↦ (
    h.events,
    order.0,
    0,
    HttpDisconnect,
    order.1 ∙ ap (λ (l : List Incoming). l ++ order.0) none.1,
    none_heard h.events heard h.times h.disconnect h.in_order none.0 ∙ sym (append-nil h.events),
    refl,
  )
  | inr (pos, inl own) ↦ (
    h.events,
    order.0,
    h.times,
    h.disconnect,
    order.1 ∙ ap (λ (l : List Incoming). l ++ order.0) own.2,
    h.in_order,
    rw own.1 (own_is kind said),
  )
  | inr (pos, inr came) ↦ (
    h.events,
    h.disconnect ∷ order.0,
    h.times,
    h.disconnect,
    order.1 ∙ ap (λ (l : List Incoming). l ++ order.0) came.2 ∙ append_assoc h.events (h.disconnect ∷ []) order.0,
    h.in_order,
    came.1,
  )
]

pub in_order : HeardIsOfferedInOrder
in_order Http said places count offered pulled heard order h = in_order_until Http said places count offered pulled heard order h
in_order WebSocket said places count offered pulled heard order h = in_order_until WebSocket said places count offered pulled heard order h
in_order Lifespan said places count offered pulled heard order h =
    (pulled, order.0, 0, HttpDisconnect, order.1, h ∙ sym (append-nil pulled), refl)

pub closed_hears : ClosedScopeHearsItsDisconnect
closed_hears Http said heard other closed = rw closed refl
closed_hears WebSocket said heard other closed = rw closed refl
closed_hears Lifespan said heard other closed = absurd (other refl)

again_until : (kind : Kind) (said : List Outgoing) (pulled heard : List Incoming) (d : Incoming)
    → HearsUntil kind said pulled heard → first_disconnect heard ≡ Some d
    → (if is_closed kind said then Some (own_disconnect kind said) else first_disconnect heard) ≡ Some d
again_until kind said pulled heard d h first = elim (decide (is_closed kind said)) [
  | inr open_is ↦ rw open_is first
  | inl closed ↦ elim h.cause [
    | inl none ↦
        let clash : None ≡ Some d = sym (ap first_disconnect (none_heard h.events heard h.times h.disconnect h.in_order none.0) ∙ h.no_other) ∙ first in
        absurd (cc)
    | inr (pos, inl own) ↦
        let is : disconnect_in h.disconnect ≡ Some h.disconnect = rw own.1 (own_is kind said) in
        let found : first_disconnect heard ≡ Some h.disconnect = ap first_disconnect h.in_order ∙ first_until h.events h.times h.disconnect h.no_other pos is in
        rw closed (ap (λ (x : Incoming). Some x) (sym own.1) ∙ sym found ∙ first)
    | inr (pos, inr came) ↦ let clash : true ≡ false = sym closed ∙ came.0 in absurd (cc)
  ]
]

pub heard_again : DisconnectIsHeardAgain
heard_again Http said pulled heard d other h first = again_until Http said pulled heard d h first
heard_again WebSocket said pulled heard d other h first = again_until WebSocket said pulled heard d h first
heard_again Lifespan said pulled heard d other h first = absurd (other refl)

after_equal : (before after : List Incoming) (times : ℕ) (d event : Incoming) → before ++ event ∷ after ≡ replicate times d
    → (n : ℕ) × (after ≡ replicate n event)
after_equal [] after zero d event is = absurd (cc)
after_equal [] after (suc m) d event is =
    let head : event ≡ d = cc in
    let tail : after ≡ replicate m d = cc in
    (m, tail ∙ ap (λ (x : Incoming). replicate m x) (sym head))
after_equal (x ∷ before) after zero d event is = absurd (cc)
after_equal (x ∷ before) after (suc m) d event is =
    let tail : before ++ event ∷ after ≡ replicate m d = cc in after_equal before after m d event tail

after_events : (events before after : List Incoming) (times : ℕ) (d event : Incoming) → first_disconnect events ≡ None → disconnect_in event ≡ Some event
    → before ++ event ∷ after ≡ events ++ replicate times d → (n : ℕ) × (after ≡ replicate n event)
after_events [] before after times d event none is same = after_equal before after times d event same
after_events (y ∷ events) [] after times d event none is same =
    let head : event ≡ y = cc in
    let clash : Some event ≡ None = sym is ∙ ap disconnect_in head ∙ or_else_first_none (disconnect_in y) (first_disconnect events) none in
    absurd (cc)
after_events (y ∷ events) (x ∷ before) after times d event none is same =
    let tail : before ++ event ∷ after ≡ events ++ replicate times d = cc in
    after_events events before after times d event (or_else_second_none (disconnect_in y) (first_disconnect events) none) is tail

pub only_equal : OnlyEqualDisconnectsFollow
only_equal Http said pulled before after event other is h = after_events h.events before after h.times h.disconnect event h.no_other is h.in_order
only_equal WebSocket said pulled before after event other is h = after_events h.events before after h.times h.disconnect event h.no_other is h.in_order
only_equal Lifespan said pulled before after event other is h = absurd (other refl)
