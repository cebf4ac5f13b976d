-- What it means that items are shared out among workers.
use Rattle.std.specs.Prelude.{◌≡◌, ℕ, ◌+◌, List, [], ◌∷◌, ◌++◌, map, Option, Some, All}
use Rattle.std.specs.List.{flat_map}
use Rattle.std.specs.List.Sorted.{IsPermutation}
use Rattle.asgi_desk.specs.Told.{numbers_of}

-- items under their numbers, the first one under n + 1
abbrev pub numbered : {C : Type 0} → ℕ → List C → List (ℕ × C)
numbered n [] = []
numbered n (c ∷ cs) = (n + 1, c) ∷ numbered (n + 1) cs

-- a worker as it was and as it is, the items that it took, and its reports
pub record Turn (W C N : Type 0) : Type 0 where
  pub before : W
  pub after : W
  pub items : List (ℕ × C)
  pub reports : List (ℕ × N)

module _ {W C N : Type 0} (serves : W → W → C → N → Type 0) where
  -- each item was served once, one after another, and each has one report, under its number
  abbrev pub InTurn : W → W → List (ℕ × C) → List (ℕ × N) → Type 0
  InTurn was is [] [] = is ≡ was
  InTurn was is (i ∷ items) (r ∷ reports) = (mid : W) × serves was mid i.1 r.1 × (r.0 ≡ i.0) × InTurn mid is items reports
  InTurn was is [] (r ∷ reports) = ⊥
  InTurn was is (i ∷ items) [] = ⊥

  -- The giver's answers grew by these items, and then by `last`. The workers shared them: each served its own one after another, and
  -- together they served each item once. All reports are there, in the order in which the items were given.
  pub record IsShared (old new last : List (Option C)) (was is : List W) (reports : List (ℕ × N)) : Type 0 where
    pub given : List C
    pub answers : new ≡ old ++ (map Some given ++ last)
    pub turns : List (Turn W C N)
    pub workers : (map (λ t. t.before) turns ≡ was) × (map (λ t. t.after) turns ≡ is)
    pub in_turn : All (λ t. InTurn t.before t.after t.items t.reports) turns
    pub each_item : IsPermutation (numbered 0 given) (flat_map (λ t. t.items) turns)
    pub each_report : IsPermutation (flat_map (λ t. t.reports) turns) reports
    pub in_order : numbers_of reports ≡ numbers_of (numbered 0 given)
