-- What is known while the workers end, one after another.
use Rattle.std.specs.Prelude.{◌≡◌, ℕ, ◌<◌, List, [], ◌∷◌, ◌++◌, map, Option, Some, None, All}
use Rattle.std.specs.List.{flat_map}
use Rattle.asgi_crew.specs.declared.give.End.{End}
use Rattle.asgi_crew.specs.declared.give.End.TheVariants.{Given, NoMemory, NoThread}
use Rattle.asgi_crew.specs.declared.channel.Hand.{Hand}
use Rattle.asgi_crew.specs.Shared.{numbered, Turn, InTurn}

abbrev pub items_of : {C : Type 0} → List (ℕ × C) → List C
items_of xs = map (λ x. x.1) xs

-- the giver's last answer, if it was asked once more
abbrev pub last_of : {C : Type 0} → End → List (Option C)
last_of Given = None ∷ []
last_of NoMemory = []
last_of NoThread = []

-- of `workers` workers, `ended` took their stop: all, or, if a thread was refused, at least one
abbrev pub HaveEnded : End → ℕ → ℕ → Type 0
HaveEnded Given workers ended = ended ≡ workers
HaveEnded NoMemory workers ended = ended ≡ workers
HaveEnded NoThread workers ended = 0 < ended

-- The workers that have ended: `v` is what was given to all workers and taken by these, and `put` are the reports that these
-- handed in
pub record Ran {W C N : Type 0} (serves : W → W → C → N → Type 0) (old new last : List (Option C)) (was is : List W) (put : List (ℕ × N)) (v : Hand C) : Type 0 where
  pub turns : List (Turn W C N)
  pub before : map (λ t. t.before) turns ≡ was
  pub after : map (λ t. t.after) turns ≡ is
  pub in_turn : All (λ t. InTurn serves t.before t.after t.items t.reports) turns
  pub taken : flat_map (λ t. t.items) turns ≡ v.taken
  pub told : flat_map (λ t. t.reports) turns ≡ put
  pub answers : new ≡ old ++ (map Some (items_of v.given) ++ last)
  pub numbers : v.given ≡ numbered 0 (items_of v.given)
