-- The rule of the channel that the book goes through.
use Rattle.std.specs.Prelude.{◌≡◌, ℕ, ◌+◌, ◌<◌, List, [], ◌∷◌, ◌++◌, length, Option}
use mathlib.Core.Option.{some}
use lib.ListN.{get_elem?}
use Rattle.std.specs.List.{flat_map}
use Rattle.std.specs.List.Sorted.{IsPermutation}
use Rattle.asgi_desk.specs.declared.book.Book.{Book}
use Rattle.asgi_desk.specs.declared.channel.Hand.{Hand}
use Rattle.asgi_desk.specs.private.Book.{all_of, added, IsKeptFrom}
use Rattle.asgi_desk.specs.Hands.{hand, seated}

module _ {N T : Type 0} where
  abbrev pub took : Hand N T → Book N T → Hand N T
  took v b = hand v.parts v.first v.put 1 (all_of b)

  abbrev pub gave : Hand N T → Book N T → Hand N T
  gave v b = seated v.parts v.first (v.put ++ added b)

  -- a seat without the book holds none of its reports, and one without a part handed in none
  pub record IsIdle (v : Hand N T) : Type 0 where
    pub held_none : v.books ≡ 0 → v.held ≡ []
    pub put_none : v.parts ≡ 0 → v.put ≡ []

  abbrev pub StartsFrom : Option T → Hand N T → Type 0
  StartsFrom first v = 0 < v.parts → v.first ≡ first

abbrev pub total : {V : Type 0} → (V → ℕ) → List V → ℕ
total f [] = 0
total f (v ∷ vs) = f v + total f vs

-- The book is in the channel or in one hand, and has all reports that were handed in. While it is in the channel, it is kept since the first teller
pub record IsFair {N T : Type 0} (tells : T → T → ℕ → N → Type 0) (books : List (Book N T)) (views : List (Hand N T)) : Type 0 where
  pub parts : total (λ v. v.parts) views ≡ 64
  pub one_book : length books + total (λ v. v.books) views ≡ 1
  pub each_report : IsPermutation (flat_map (λ v. v.put) views) (flat_map (λ v. v.held) views ++ flat_map all_of books)
  pub idle : (port : ℕ) (v : Hand N T) → get_elem? views port ≡ some v → IsIdle v
  pub first : Option T
  pub same_first : (port : ℕ) (v : Hand N T) → get_elem? views port ≡ some v → StartsFrom first v
  pub kept : (place : ℕ) (b : Book N T) → get_elem? books place ≡ some b → IsKeptFrom tells first b
