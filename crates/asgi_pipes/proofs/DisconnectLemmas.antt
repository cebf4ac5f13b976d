-- One more event after those that were received.
use Rattle.std.proofs.Common.{◌≡◌, ℕ, ◌+◌, ◌<◌, Bool, true, false, ◌⊎◌, inl, inr, List, [], ◌∷◌, ◌++◌, Option, Some, None, replicate, suc, zero, refl, sym, ap, ◌∙◌, append_assoc, append-nil, arith}
use Rattle.std.specs.Prelude.{◌||◌, if◌then◌else◌, is_some}
use Rattle.std.proofs.lemmas.List.{replicate_more}
use Rattle.asgi_types.specs.declared.scope.Kind.{Kind}
use Rattle.asgi_types.specs.declared.scope.Kind.TheVariants.{Http, WebSocket, Lifespan}
use Rattle.asgi_types.specs.declared.incoming.Incoming.{Incoming}
use Rattle.asgi_types.specs.declared.incoming.Incoming.TheVariants.{HttpRequest, HttpDisconnect, WsConnect, WsReceive, WsDisconnect, LifespanStartup, LifespanShutdown}
use Rattle.asgi_types.specs.declared.outgoing.Outgoing.{Outgoing}
use Rattle.asgi_protocol.specs.Shapes.{is_closed}
use Rattle.asgi_protocol.specs.Verdicts.{is_disconnect}
use Rattle.asgi_pipes.specs.Disconnects.{disconnect_in, or_else, first_disconnect, has_disconnect, own_disconnect, answer_at_once, repeated_in, HearsUntil, Hears}

or_else_none : (a : Option Incoming) → or_else a None ≡ a
or_else_none (Some x) = refl
or_else_none None = refl

or_else_assoc : (a b c : Option Incoming) → or_else a (or_else b c) ≡ or_else (or_else a b) c
or_else_assoc (Some x) b c = refl
or_else_assoc None b c = refl

pub or_else_first_none : (a b : Option Incoming) → or_else a b ≡ None → a ≡ None
or_else_first_none (Some x) b h = absurd (cc)
or_else_first_none None b h = refl

pub or_else_second_none : (a b : Option Incoming) → or_else a b ≡ None → b ≡ None
or_else_second_none (Some x) b h = absurd (cc)
or_else_second_none None b h = h

pub first-append : (xs : List Incoming) (e : Incoming) → first_disconnect (xs ++ e ∷ []) ≡ or_else (first_disconnect xs) (disconnect_in e)
first-append [] e = or_else_none (disconnect_in e)
first-append (x ∷ xs) e = ap (or_else (disconnect_in x)) (first-append xs e) ∙ or_else_assoc (disconnect_in x) (first_disconnect xs) (disconnect_in e)

in_is : (e : Incoming) → is_some (disconnect_in e) ≡ is_disconnect e
in_is (HttpRequest body more_body) = refl
in_is HttpDisconnect = refl
in_is WsConnect = refl
in_is (WsReceive payload) = refl
in_is (WsDisconnect code reason) = refl
in_is LifespanStartup = refl
in_is LifespanShutdown = refl

some_or_else : (a b : Option Incoming) → is_some (or_else a b) ≡ (is_some a || is_some b)
some_or_else (Some x) b = refl
some_or_else None b = refl

pub has-append : (xs : List Incoming) (e : Incoming) → has_disconnect (xs ++ e ∷ []) ≡ (has_disconnect xs || is_disconnect e)
has-append xs e =
    ap is_some (first-append xs e) ∙ some_or_else (first_disconnect xs) (disconnect_in e) ∙ ap (λ (b : Bool). has_disconnect xs || b) (in_is e)

-- a disconnect after events that have none
pub first_until : (events : List Incoming) (n : ℕ) (d : Incoming) → first_disconnect events ≡ None → 0 < n → disconnect_in d ≡ Some d
    → first_disconnect (events ++ replicate n d) ≡ Some d
first_until [] zero d none pos is = absurd (omega (arith, pos))
first_until [] (suc n) d none pos is = ap (λ (o : Option Incoming). or_else o (first_disconnect (replicate n d))) is
first_until (x ∷ xs) n d none pos is =
    let first : disconnect_in x ≡ None = or_else_first_none (disconnect_in x) (first_disconnect xs) none in
    let rest : first_disconnect xs ≡ None = or_else_second_none (disconnect_in x) (first_disconnect xs) none in
    ap (λ (o : Option Incoming). or_else o (first_disconnect (xs ++ replicate n d))) first ∙ first_until xs n d rest pos is

-- what is at once there stays so
again_of : (closed : Bool) (own : Incoming) (heard : List Incoming) (e : Incoming)
    → (if closed then Some own else first_disconnect heard) ≡ Some e
    → (if closed then Some own else first_disconnect (heard ++ e ∷ [])) ≡ Some e
again_of true own heard e is = is
again_of false own heard e is = first-append heard e ∙ ap (λ (o : Option Incoming). or_else o (disconnect_in e)) is

pub answer_again : (kind : Kind) (said : List Outgoing) (heard : List Incoming) (e : Incoming)
    → answer_at_once kind said heard ≡ Some e → answer_at_once kind said (heard ++ e ∷ []) ≡ Some e
answer_again Http said heard e is = again_of (is_closed Http said) (own_disconnect Http said) heard e is
answer_again WebSocket said heard e is = again_of (is_closed WebSocket said) (own_disconnect WebSocket said) heard e is
answer_again Lifespan said heard e is = absurd (cc)

-- and after an event from the queue it is that event's
next_of : (closed : Bool) (own : Incoming) (heard : List Incoming) (e : Incoming)
    → (if closed then Some own else first_disconnect heard) ≡ None
    → (if closed then Some own else first_disconnect (heard ++ e ∷ [])) ≡ disconnect_in e
next_of true own heard e is = absurd (cc)
next_of false own heard e is = first-append heard e ∙ ap (λ (o : Option Incoming). or_else o (disconnect_in e)) is

pub answer_next : (kind : Kind) (said : List Outgoing) (heard : List Incoming) (e : Incoming)
    → answer_at_once kind said heard ≡ None → answer_at_once kind said (heard ++ e ∷ []) ≡ repeated_in kind e
answer_next Http said heard e is = next_of (is_closed Http said) (own_disconnect Http said) heard e is
answer_next WebSocket said heard e is = next_of (is_closed WebSocket said) (own_disconnect WebSocket said) heard e is
answer_next Lifespan said heard e is = refl

-- the tests of a scope in which the result is not that of a lifespan
answer_open : (kind : Kind) (said : List Outgoing) (heard : List Incoming) (o : Option Incoming)
    → is_closed kind said ≡ false → (if is_closed kind said then Some (own_disconnect kind said) else first_disconnect heard) ≡ o → first_disconnect heard ≡ o
answer_open kind said heard o open_is is = rw open_is at is

answer_closed : (kind : Kind) (said : List Outgoing) (heard : List Incoming) (o : Option Incoming)
    → is_closed kind said ≡ true → (if is_closed kind said then Some (own_disconnect kind said) else first_disconnect heard) ≡ o → Some (own_disconnect kind said) ≡ o
answer_closed kind said heard o closed is = rw closed at is

pub some_inj : (a b : Incoming) → Some a ≡ Some b → a ≡ b
some_inj a b h = cc

pub decide : (b : Bool) → (b ≡ true) ⊎ (b ≡ false)
decide true = inl refl
decide false = inr refl

pub none_heard : (events heard : List Incoming) (times : ℕ) (d : Incoming) → heard ≡ events ++ replicate times d → times ≡ 0 → heard ≡ events
none_heard events heard times d is none = is ∙ ap (λ (n : ℕ). events ++ replicate n d) none ∙ append-nil events

one_more : (events heard : List Incoming) (times : ℕ) (d e : Incoming) → heard ≡ events ++ replicate times d → e ≡ d
    → heard ++ e ∷ [] ≡ events ++ replicate (times + 1) d
one_more events heard times d e is same =
    ap (λ (l : List Incoming). l ++ e ∷ []) is ∙ ap (λ (x : Incoming). (events ++ replicate times d) ++ x ∷ []) same
    ∙ append_assoc events (replicate times d) (d ∷ []) ∙ ap (λ (l : List Incoming). events ++ l) (replicate_more times d)

again_until : (kind : Kind) (said : List Outgoing) (pulled heard : List Incoming) (e : Incoming)
    → (if is_closed kind said then Some (own_disconnect kind said) else first_disconnect heard) ≡ Some e
    → HearsUntil kind said pulled heard → HearsUntil kind said pulled (heard ++ e ∷ [])
again_until kind said pulled heard e is h = elim h.cause [
  | inl none ↦
      let all : heard ≡ h.events = none_heard h.events heard h.times h.disconnect h.in_order none.0 in
      elim (decide (is_closed kind said)) [
        | inl closed ↦ record {
          events = h.events;
          times = 1;
          disconnect = e;
          in_order = ap (λ (l : List Incoming). l ++ e ∷ []) all;
          no_other = h.no_other;
          cause = inr (omega arith, inl (closed, sym (some_inj _ _ (answer_closed kind said heard (Some e) closed is)), none.1));
        }
        | inr open_is ↦
            let clash : None ≡ Some e = sym (ap first_disconnect all ∙ h.no_other) ∙ answer_open kind said heard (Some e) open_is is in
            absurd (cc)
      ]
  | inr (pos, inl own) ↦
      let same : e ≡ h.disconnect = sym (some_inj _ _ (answer_closed kind said heard (Some e) own.0 is)) ∙ sym own.1 in
      record {
        events = h.events;
        times = h.times + 1;
        disconnect = h.disconnect;
        in_order = one_more h.events heard h.times h.disconnect e h.in_order same;
        no_other = h.no_other;
        cause = inr (omega arith, inl own);
      }
  | inr (pos, inr came) ↦
      let first : first_disconnect heard ≡ Some h.disconnect = ap first_disconnect h.in_order ∙ first_until h.events h.times h.disconnect h.no_other pos came.1 in
      let same : e ≡ h.disconnect = some_inj _ _ (sym (answer_open kind said heard (Some e) came.0 is) ∙ first) in
      record {
        events = h.events;
        times = h.times + 1;
        disconnect = h.disconnect;
        in_order = one_more h.events heard h.times h.disconnect e h.in_order same;
        no_other = h.no_other;
        cause = inr (omega arith, inr came);
      }
]

pub hears_again : (kind : Kind) (said : List Outgoing) (pulled heard : List Incoming) (e : Incoming)
    → answer_at_once kind said heard ≡ Some e → Hears kind said pulled heard → Hears kind said pulled (heard ++ e ∷ [])
hears_again Http said pulled heard e is h = again_until Http said pulled heard e is h
hears_again WebSocket said pulled heard e is h = again_until WebSocket said pulled heard e is h
hears_again Lifespan said pulled heard e is h = absurd (cc)

-- if nothing is there at once, no disconnect was received
quiet : (kind : Kind) (said : List Outgoing) (heard : List Incoming)
    → (if is_closed kind said then Some (own_disconnect kind said) else first_disconnect heard) ≡ None
    → (is_closed kind said ≡ false) × (first_disconnect heard ≡ None)
quiet kind said heard is = elim (decide (is_closed kind said)) [
  | inl closed ↦
      let clash : Some (own_disconnect kind said) ≡ None = answer_closed kind said heard None closed is in
      absurd (cc)
  | inr open_is ↦ (open_is, answer_open kind said heard None open_is is)
]

-- all that was received came through the queue
pub came_through : (kind : Kind) (said : List Outgoing) (pulled heard : List Incoming) (h : HearsUntil kind said pulled heard)
    → is_closed kind said ≡ false → first_disconnect heard ≡ None → (h.times ≡ 0) × (pulled ≡ h.events)
came_through kind said pulled heard h open_is none = elim h.cause [
  | inl came ↦ came
  | inr (pos, inl own) ↦ let clash : true ≡ false = sym own.0 ∙ open_is in absurd (cc)
  | inr (pos, inr came) ↦
      let clash : Some h.disconnect ≡ None = sym (ap first_disconnect h.in_order ∙ first_until h.events h.times h.disconnect h.no_other pos came.1) ∙ none in
      absurd (cc)
]

next_until : (kind : Kind) (said : List Outgoing) (pulled heard : List Incoming) (e : Incoming)
    → is_closed kind said ≡ false → first_disconnect heard ≡ None
    → HearsUntil kind said pulled heard → HearsUntil kind said (pulled ++ e ∷ []) (heard ++ e ∷ [])
next_until kind said pulled heard e open_is none h =
    let came = came_through kind said pulled heard h open_is none in
    let all : heard ≡ h.events = none_heard h.events heard h.times h.disconnect h.in_order came.0 in
    elim (sort e) [
      | inl other ↦ record {
        events = h.events ++ e ∷ [];
        times = 0;
        disconnect = e;
        in_order = ap (λ (l : List Incoming). l ++ e ∷ []) all ∙ sym (append-nil (h.events ++ e ∷ []));
        no_other = first-append h.events e ∙ ap (λ (o : Option Incoming). or_else o (disconnect_in e)) h.no_other ∙ other;
        cause = inl (refl, ap (λ (l : List Incoming). l ++ e ∷ []) came.1);
      }
      | inr is ↦ record {
        events = h.events;
        times = 1;
        disconnect = e;
        in_order = ap (λ (l : List Incoming). l ++ e ∷ []) all;
        no_other = h.no_other;
        cause = inr (omega arith, inr (open_is, is, ap (λ (l : List Incoming). l ++ e ∷ []) came.1));
      }
    ]
  where
    sort : (e : Incoming) → (disconnect_in e ≡ None) ⊎ (disconnect_in e ≡ Some e)
    sort (HttpRequest body more_body) = inl refl
    sort HttpDisconnect = inr refl
    sort WsConnect = inl refl
    sort (WsReceive payload) = inl refl
    sort (WsDisconnect code reason) = inr refl
    sort LifespanStartup = inl refl
    sort LifespanShutdown = inl refl

pub hears_next : (kind : Kind) (said : List Outgoing) (pulled heard : List Incoming) (e : Incoming)
    → answer_at_once kind said heard ≡ None → Hears kind said pulled heard → Hears kind said (pulled ++ e ∷ []) (heard ++ e ∷ [])
hears_next Http said pulled heard e is h = let q = quiet Http said heard is in next_until Http said pulled heard e q.0 q.1 h
hears_next WebSocket said pulled heard e is h = let q = quiet WebSocket said heard is in next_until WebSocket said pulled heard e q.0 q.1 h
hears_next Lifespan said pulled heard e is h = ap (λ (l : List Incoming). l ++ e ∷ []) h

-- an event that passes closes no scope that has received a disconnect
said_until : (kind : Kind) (said more : List Outgoing) (pulled heard : List Incoming)
    → is_closed kind said ≡ false → first_disconnect heard ≡ None
    → HearsUntil kind said pulled heard → HearsUntil kind more pulled heard
said_until kind said more pulled heard open_is none h =
    let came = came_through kind said pulled heard h open_is none in
    record { events = h.events; times = h.times; disconnect = h.disconnect; in_order = h.in_order; no_other = h.no_other; cause = inl came }

pub hears_said : (kind : Kind) (said more : List Outgoing) (pulled heard : List Incoming)
    → is_closed kind said ≡ false → first_disconnect heard ≡ None
    → Hears kind said pulled heard → Hears kind more pulled heard
hears_said Http said more pulled heard open_is none h = said_until Http said more pulled heard open_is none h
hears_said WebSocket said more pulled heard open_is none h = said_until WebSocket said more pulled heard open_is none h
hears_said Lifespan said more pulled heard open_is none h = h
