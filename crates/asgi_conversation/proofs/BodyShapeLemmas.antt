-- The events of a body are parts, and then the last one if the body is whole: so a prefix of them is all, or has parts alone.
use Rattle.std.proofs.Common.{◌≡◌, ℕ, Bool, true, false, List, [], ◌∷◌, ◌++◌, ◌⊎◌, inl, inr, map, refl, sym, ap, ◌∙◌, subst, append-nil, flat_map}
use Rattle.std.specs.Prelude.{◌*◌, length, take, drop, nat_le, if◌then◌else◌}
use mathlib.Core.List.{IsPrefix}
use Rattle.asgi_types.specs.declared.facts.Framing.{Framing}
use Rattle.asgi_types.specs.declared.facts.Framing.TheVariants.{Length, Chunked, Upgrade}
use Rattle.asgi_types.specs.declared.incoming.Incoming.{Incoming}
use Rattle.asgi_types.specs.declared.limits.Limits.{Limits}
use Rattle.asgi_request.specs.ChunkedBody.{BodyState, partial, complete, faulty}
use Rattle.asgi_request.specs.RequestEvents.{first_blocks, full_blocks, blocks_before_last, more_event, last_event, length_events, length_state, piece_blocks, closing_event, ReadsBody}
use Rattle.asgi_exchange.proofs.ListLemmas.{prefix_one_more}

pub data Shape (events : List Incoming) (state : BodyState) : Type 0 where
  Parts : (parts : List (List ℕ)) → events ≡ map more_event parts → Shape events state
  Whole : (parts : List (List ℕ)) (end after : List ℕ) → events ≡ map more_event parts ++ last_event end ∷ [] → state ≡ complete after → Shape events state

length_shape : (block n : ℕ) (bytes : List ℕ) → Shape (length_events block n bytes) (length_state n bytes)
length_shape block n bytes = by (nat_le n (length bytes))
  where
    by : (b : Bool) → Shape (if b
        then map more_event (first_blocks (blocks_before_last block n) block (take n bytes)) ++ last_event (drop (blocks_before_last block n * block) (take n bytes)) ∷ []
        else map more_event (full_blocks block bytes)) (if b then complete (drop n bytes) else partial)
    by true = Whole (first_blocks (blocks_before_last block n) block (take n bytes)) (drop (blocks_before_last block n * block) (take n bytes)) (drop n bytes) refl refl
    by false = Parts (full_blocks block bytes) refl

closing_shape : (parts : List (List ℕ)) (state : BodyState) → Shape (map more_event parts ++ closing_event state) state
closing_shape parts partial = Parts parts (append-nil (map more_event parts))
closing_shape parts (complete after) = Whole parts [] after refl refl
closing_shape parts (faulty why) = Parts parts (append-nil (map more_event parts))

pub body_shape : (limits : Limits) (framing : Framing) (bytes : List ℕ) (events : List Incoming) (state : BodyState) → ReadsBody limits framing bytes events state → Shape events state
body_shape limits (Length n) bytes events state x =
    subst (λ (l : List Incoming). Shape l state) (sym x.0) (subst (λ (s : BodyState). Shape (length_events limits.block n bytes) s) (sym x.1) (length_shape limits.block n bytes))
body_shape limits Chunked bytes events state x =
    subst (λ (l : List Incoming). Shape l state) (sym x.2) (closing_shape (flat_map (piece_blocks limits.block) x.0) state)
body_shape limits Upgrade bytes events state x = Parts [] x.0

-- parts alone
abbrev pub AreParts : List Incoming → Type 0
AreParts events = (parts : List (List ℕ)) × (events ≡ map more_event parts)

front_of_parts : (first : List Incoming) (parts : List (List ℕ)) (rest : List Incoming) → first ++ rest ≡ map more_event parts → AreParts first
front_of_parts [] parts rest e = ([], refl)
front_of_parts (x ∷ first) [] rest e = absurd (cc)
front_of_parts (x ∷ first) (p ∷ parts) rest e =
    let on = front_of_parts first parts rest cc in
    let same : x ≡ more_event p = cc in
    (p ∷ on.0, ap (λ (l : List Incoming). x ∷ l) on.1 ∙ ap (λ (y : Incoming). y ∷ map more_event on.0) same)

pub front_or_all : (events first : List Incoming) (state : BodyState) → Shape events state → IsPrefix first events → AreParts first ⊎ (first ≡ events)
front_or_all events first state (Parts parts e) p = inl (front_of_parts first parts p.0 (p.1 ∙ e))
front_or_all events first state (Whole parts end after e s) p = by (prefix_one_more first (map more_event parts) (last_event end) (subst (λ (l : List Incoming). IsPrefix first l) e p))
  where
    by : IsPrefix first (map more_event parts) ⊎ (first ≡ map more_event parts ++ last_event end ∷ []) → AreParts first ⊎ (first ≡ events)
    by (inl q) = inl (front_of_parts first parts q.0 q.1)
    by (inr q) = inr (q ∙ sym e)

-- a body that is not whole has parts alone
pub open_parts : (events : List Incoming) (state : BodyState) → Shape events state → ((after : List ℕ) → state ≡ complete after → ⊥) → AreParts events
open_parts events state (Parts parts e) n = (parts, e)
open_parts events state (Whole parts end after e s) n = absurd (n after s)
