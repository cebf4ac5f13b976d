-- What was received has one reading, so that it is available even if it is known only to exist.
use Rattle.std.proofs.Common.{◌≡◌, ℕ, ◌+◌, ◌-◌, ◌<◌, true, false, ◌⊎◌, inl, inr, List, [], ◌∷◌, ◌++◌, Option, Some, None, length, replicate, suc, zero, refl, sym, ap, ◌∙◌, append-nil, arith, length-append}
use Rattle.std.proofs.Math.Logic.{∥∥₁_elim, ∥∥₁_map}
use Rattle.std.proofs.lemmas.List.{length-replicate}
use denote.Struct.Props.{props}
use Rattle.asgi_types.specs.declared.scope.Kind.{Kind}
use Rattle.asgi_types.specs.declared.scope.Kind.TheVariants.{Http, WebSocket, Lifespan}
use Rattle.asgi_types.specs.declared.incoming.Incoming.{Incoming}
use Rattle.asgi_types.specs.declared.incoming.Incoming.TheVariants.{HttpDisconnect}
use Rattle.asgi_types.specs.declared.outgoing.Outgoing.{Outgoing}
use Rattle.asgi_types.specs.declared.facts.Facts.{Facts}
use Rattle.asgi_protocol.specs.Lawful.{IsLawful}
use Rattle.asgi_protocol.specs.Rules.{MeetsRules}
use Rattle.asgi_protocol.specs.Shapes.{is_closed}
use Rattle.asgi_protocol.proofs.WordLemmas.{word_from_beginning, test_of_beginning}
use Rattle.asgi_pipes.specs.Disconnects.{disconnect_in, first_disconnect, own_disconnect, Cause, HearsUntil, Hears}
use Rattle.asgi_pipes.proofs.DisconnectLemmas.{first_until, or_else_first_none, or_else_second_none, decide, some_inj, none_heard}
use Rattle.asgi_pipes.proofs.LawLemmas.{own_is}

-- the events before the first disconnect
abbrev keep : Option Incoming → Incoming → List Incoming → List Incoming
keep None event events = event ∷ events
keep (Some first) event events = []

abbrev before : List Incoming → List Incoming
before [] = []
before (event ∷ events) = keep (disconnect_in event) event (before events)

before_until : (events : List Incoming) (n : ℕ) (d : Incoming) → first_disconnect events ≡ None → 0 < n → disconnect_in d ≡ Some d
    → before (events ++ replicate n d) ≡ events
before_until [] zero d none pos is = absurd (omega (arith, pos))
before_until [] (suc n) d none pos is = ap (λ (o : Option Incoming). keep o d (before (replicate n d))) is
before_until (x ∷ xs) n d none pos is =
    let first : disconnect_in x ≡ None = or_else_first_none (disconnect_in x) (first_disconnect xs) none in
    let rest : first_disconnect xs ≡ None = or_else_second_none (disconnect_in x) (first_disconnect xs) none in
    ap (λ (o : Option Incoming). keep o x (before (xs ++ replicate n d))) first ∙ ap (λ (l : List Incoming). x ∷ l) (before_until xs n d rest pos is)

module _ (kind : Kind) (said : List Outgoing) (pulled heard : List Incoming) where
  is_cause : (events : List Incoming) (d : Incoming) → Cause kind said events pulled d → disconnect_in d ≡ Some d
  is_cause events d (inl own) = rw own.1 (own_is kind said)
  is_cause events d (inr came) = came.1

  all_came : first_disconnect heard ≡ None → HearsUntil kind said pulled heard → pulled ≡ heard
  all_came none h = elim h.cause [
    | inl came ↦ came.1 ∙ sym (none_heard h.events heard h.times h.disconnect h.in_order came.0)
    | inr (pos, cause) ↦
        let is = is_cause h.events h.disconnect cause in
        let clash : Some h.disconnect ≡ None = sym (ap first_disconnect h.in_order ∙ first_until h.events h.times h.disconnect h.no_other pos is) ∙ none in
        absurd (cc)
  ]

  -- the one reading
  record Had (events : List Incoming) (d : Incoming) : Type 0 where
    pub in_order : heard ≡ events ++ replicate (length heard - length events) d
    pub no_other : first_disconnect events ≡ None
    pub pos : 0 < length heard - length events
    pub cause : Cause kind said events pulled d

  had : (d : Incoming) → first_disconnect heard ≡ Some d → HearsUntil kind said pulled heard → Had (before heard) d
  had d first h = elim h.cause [
    | inl none ↦
        let clash : None ≡ Some d = sym (ap first_disconnect (none_heard h.events heard h.times h.disconnect h.in_order none.0) ∙ h.no_other) ∙ first in
        absurd (cc)
    | inr (pos, cause) ↦
        let is = is_cause h.events h.disconnect cause in
        let same : h.disconnect ≡ d = some_inj _ _ (sym (ap first_disconnect h.in_order ∙ first_until h.events h.times h.disconnect h.no_other pos is) ∙ first) in
        let events : before heard ≡ h.events = ap before h.in_order ∙ before_until h.events h.times h.disconnect h.no_other pos is in
        let long : length heard ≡ length h.events + h.times =
        ap length h.in_order ∙ length-append h.events (replicate h.times h.disconnect) ∙ ap (λ (n : ℕ). length h.events + n) (length-replicate h.times h.disconnect) in
        let count : h.times ≡ length heard - length h.events = omega (arith, long) in
        let more : 0 < length heard - length h.events = omega (arith, long, pos) in
        let all : Had h.events h.disconnect = record {
          in_order = h.in_order ∙ ap (λ (n : ℕ). h.events ++ replicate n h.disconnect) count;
          no_other = h.no_other;
          pos = more;
          cause = cause;
        } in
        rw (events, sym same) all
  ]

  own_part : (events : List Incoming) (d : Incoming) → is_closed kind said ≡ true → Cause kind said events pulled d → (d ≡ own_disconnect kind said) × (pulled ≡ events)
  own_part events d closed (inl own) = (own.1, own.2)
  own_part events d closed (inr came) = let clash : true ≡ false = sym closed ∙ came.0 in absurd (cc)

  came_part : (events : List Incoming) (d : Incoming) → is_closed kind said ≡ false → Cause kind said events pulled d → (disconnect_in d ≡ Some d) × (pulled ≡ events ++ d ∷ [])
  came_part events d open_is (inl own) = let clash : true ≡ false = sym own.0 ∙ open_is in absurd (cc)
  came_part events d open_is (inr came) = (came.1, came.2)

  was_none : first_disconnect heard ≡ None → ∥ HearsUntil kind said pulled heard ∥₁ → HearsUntil kind said pulled heard
  was_none none t = record {
    events = heard;
    times = 0;
    disconnect = HttpDisconnect;
    in_order = sym (append-nil heard);
    no_other = none;
    cause = inl (refl, ∥∥₁_elim t (Prim.hlevel props) (all_came none));
  }

  was_some : (d : Incoming) → first_disconnect heard ≡ Some d → ∥ HearsUntil kind said pulled heard ∥₁ → HearsUntil kind said pulled heard
  was_some d first t =
      let why : Cause kind said (before heard) pulled d = elim (decide (is_closed kind said)) [
        | inl closed ↦ let own = ∥∥₁_elim t (Prim.hlevel props) (λ h. own_part (before heard) d closed (had d first h).cause) in inl (closed, own.0, own.1)
        | inr open_is ↦ let came = ∥∥₁_elim t (Prim.hlevel props) (λ h. came_part (before heard) d open_is (had d first h).cause) in inr (open_is, came.0, came.1)
      ] in
      record {
        events = before heard;
        times = length heard - length (before heard);
        disconnect = d;
        in_order = ∥∥₁_elim t (Prim.hlevel props) (λ h. (had d first h).in_order);
        no_other = ∥∥₁_elim t (Prim.hlevel props) (λ h. (had d first h).no_other);
        cause = inr (∥∥₁_elim t (Prim.hlevel props) (λ h. (had d first h).pos), why);
      }

  some_or_none : (o : Option Incoming) → (o ≡ None) ⊎ ((d : Incoming) × (o ≡ Some d))
  some_or_none None = inl refl
  some_or_none (Some d) = inr (d, refl)

  was : ∥ HearsUntil kind said pulled heard ∥₁ → HearsUntil kind said pulled heard
  was t = elim (some_or_none (first_disconnect heard)) [
    | inl none ↦ was_none none t
    | inr found ↦ was_some found.0 found.1 t
  ]

pub hears_was : (kind : Kind) (said : List Outgoing) (pulled heard : List Incoming) → ∥ Hears kind said pulled heard ∥₁ → Hears kind said pulled heard
hears_was Http said pulled heard t = was Http said pulled heard t
hears_was WebSocket said pulled heard t = was WebSocket said pulled heard t
hears_was Lifespan said pulled heard t = ∥∥₁_elim t (Prim.hlevel props) (λ h. h)

-- a lawful list likewise: the rest of its word is found from the beginning
pub rules_were : (facts : Facts) (before : List Outgoing) (event : Outgoing) → ∥ MeetsRules facts before event ∥₁ → MeetsRules facts before event
rules_were facts before event t = record {
  status = ∥∥₁_elim t (Prim.hlevel props) (λ r. r.status);
  header = ∥∥₁_elim t (Prim.hlevel props) (λ r. r.header);
  code = ∥∥₁_elim t (Prim.hlevel props) (λ r. r.code);
  reason = ∥∥₁_elim t (Prim.hlevel props) (λ r. r.reason);
  subprotocol = ∥∥₁_elim t (Prim.hlevel props) (λ r. r.subprotocol);
  not_too_much = ∥∥₁_elim t (Prim.hlevel props) (λ r. r.not_too_much);
  not_too_little = ∥∥₁_elim t (Prim.hlevel props) (λ r. r.not_too_little);
}

pub lawful_was : (kind : Kind) (facts : Facts) (said : List Outgoing) → ∥ IsLawful kind facts said ∥₁ → IsLawful kind facts said
lawful_was kind facts said t = record {
  begins = word_from_beginning kind said (∥∥₁_elim t (Prim.hlevel props) (λ l. test_of_beginning kind said l.begins));
  each = λ before after event is. rules_were facts before event (∥∥₁_map t (λ l. l.each before after event is));
}
