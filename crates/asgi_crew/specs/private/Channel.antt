-- The rule of the channel between the giver and the workers.
use Rattle.std.specs.Prelude.{◌≡◌, ℕ, ◌+◌, ◌<◌, Bool, true, false, List, [], ◌∷◌, ◌++◌}
use mathlib.Core.Option.{some}
use lib.ListN.{get_elem?}
use Rattle.std.specs.List.{flat_map}
use Rattle.std.specs.List.Sorted.{IsPermutation}
use Rattle.asgi_crew.specs.declared.channel.Mark.{Mark}
use Rattle.asgi_crew.specs.declared.channel.Mark.TheVariants.{Item, Stop}
use Rattle.asgi_crew.specs.declared.channel.Hand.{Hand}

abbrev pub hand : {C : Type 0} → ℕ → ℕ → List (ℕ × C) → List (ℕ × C) → ℕ → ℕ → Hand C
hand parts gives given taken shut ended = record { parts = parts; gives = gives; given = given; taken = taken; shut = shut; ended = ended }

module _ {C N : Type 0} where
  abbrev pub gave : Hand C → Mark C N → Hand C
  gave v (Item t) = hand v.parts v.gives (v.given ++ (t.number, t.item) ∷ []) v.taken v.shut v.ended
  gave v Stop = hand v.parts v.gives v.given v.taken (v.shut + 1) v.ended

  abbrev pub took : Hand C → Mark C N → Hand C
  took v (Item t) = hand v.parts v.gives v.given (v.taken ++ (t.number, t.item) ∷ []) v.shut v.ended
  took v Stop = hand v.parts v.gives v.given v.taken v.shut (v.ended + 1)

  -- the numbered items among the marks
  abbrev pub tasks : List (Mark C N) → List (ℕ × C)
  tasks [] = []
  tasks (Item t ∷ ms) = (t.number, t.item) ∷ tasks ms
  tasks (Stop ∷ ms) = tasks ms

  abbrev pub stops : List (Mark C N) → ℕ
  stops [] = 0
  stops (Item t ∷ ms) = stops ms
  stops (Stop ∷ ms) = stops ms + 1

  -- stops alone
  abbrev pub is_ended : List (Mark C N) → Bool
  is_ended [] = true
  is_ended (Item t ∷ ms) = false
  is_ended (Stop ∷ ms) = is_ended ms

  -- no item stands after a stop
  abbrev pub is_ordered : List (Mark C N) → Bool
  is_ordered [] = true
  is_ordered (Item t ∷ ms) = is_ordered ms
  is_ordered (Stop ∷ ms) = is_ended ms

module _ {C : Type 0} where
  abbrev pub total : (Hand C → ℕ) → List (Hand C) → ℕ
  total f [] = 0
  total f (v ∷ vs) = f v + total f vs

  -- a pass that may not give gave nothing, and one without a part took nothing
  pub record IsIdle (v : Hand C) : Type 0 where
    pub gave_none : v.gives ≡ 0 → (v.given ≡ []) × (v.shut ≡ 0)
    pub took_none : v.parts ≡ 0 → (v.taken ≡ []) × (v.ended ≡ 0)

-- What was given is what was taken and what the channel holds. Once a stop was taken, the channel holds stops alone.
pub record IsFair {C N : Type 0} (items : List (Mark C N)) (views : List (Hand C)) : Type 0 where
  pub parts : total (λ v. v.parts) views ≡ 64
  pub gives : total (λ v. v.gives) views ≡ 1
  pub each_item : IsPermutation (flat_map (λ v. v.given) views) (flat_map (λ v. v.taken) views ++ tasks items)
  pub each_stop : total (λ v. v.shut) views ≡ total (λ v. v.ended) views + stops items
  pub idle : (port : ℕ) (v : Hand C) → get_elem? views port ≡ some v → IsIdle v
  pub ordered : is_ordered items ≡ true
  pub ended : 0 < total (λ v. v.ended) views → is_ended items ≡ true

-- what the pass with every part learns
pub record Adds {C N : Type 0} (v : Hand C) (items : List (Mark C N)) : Type 0 where
  pub each_item : IsPermutation v.given (v.taken ++ tasks items)
  pub ended : 0 < v.ended → is_ended items ≡ true
