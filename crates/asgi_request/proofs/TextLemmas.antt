-- A search that finds each text which ends in some way, and nothing else, finds the first one.
use Rattle.std.proofs.Common.{◌≡◌, ℕ, ◌+◌, ◌-◌, ◌<◌, ◌≤◌, Bool, true, false, List, [], ◌∷◌, ◌++◌, length, take, drop, refl, sym, ap, ◌∙◌, append_assoc, arith, Option, Some, None, subst}
use Rattle.std.specs.Prelude.{nat_le, if◌then◌else◌}
use Rattle.std.proofs.lemmas.Bool.Decides.{nat_tests}
use Rattle.std.proofs.lemmas.List.{length-append, length-take-le, length-drop, take-append-drop, take-append-le}
use Rattle.std.proofs.Math.Seq.{take-append_seam}
use Rattle.asgi_request.specs.Texts.{IsFirst, IsFirstWithin, HasNone, IsTooLong, IsUnfinished}
use Rattle.asgi_request.specs.HeadText.{EndsAsHead}
use Rattle.asgi_request.specs.Fronts.{Front, found, too_long, unfinished, front_at, head_len}
use Rattle.asgi_request.proofs.HeadTextLemmas.{Finds, text_found, head_sound}

-- the search finds only such texts at the front of the bytes, and finds one if it is there
pub record IsSearchFor (Ends : List ℕ → Type 0) (len : List ℕ → Option ℕ) : Type 0 where
  pub sound : (bytes : List ℕ) (n : ℕ) → len bytes ≡ Some n → (n ≤ length bytes) × Ends (take n bytes)
  pub finds : (text rest : List ℕ) → Ends text → (m : ℕ) × (len (text ++ rest) ≡ Some m) × (m ≤ length text)

same_some : (m n : ℕ) → Some m ≡ Some n → m ≡ n
same_some m n e = cc

no_length : (l : List ℕ) → length l ≡ 0 → l ≡ []
no_length [] e = refl
no_length (b ∷ l) e = absurd (omega (arith, e))

-- ---- what was found

-- no such text ends before the length that is found
least : (Ends : List ℕ → Type 0) (len : List ℕ → Option ℕ) → IsSearchFor Ends len → (bytes text rest : List ℕ) (n : ℕ)
    → len bytes ≡ Some n → bytes ≡ text ++ rest → Ends text → n ≤ length text
least Ends len s bytes text rest n e split h =
    let f = s.finds text rest h in
    let n_is : f.0 ≡ n = same_some f.0 n (sym f.1 ∙ ap len (sym split) ∙ e) in
    omega (arith, f.2, n_is)

shortest_of : (Ends : List ℕ → Type 0) (len : List ℕ → Option ℕ) → IsSearchFor Ends len → (bytes : List ℕ) (n : ℕ) → len bytes ≡ Some n
    → (shorter tail : List ℕ) → take n bytes ≡ shorter ++ tail → Ends shorter → tail ≡ []
shortest_of Ends len s bytes n e shorter tail split h =
    let there = s.sound bytes n e in
    let whole : bytes ≡ shorter ++ (tail ++ drop n bytes) =
    sym (take-append-drop n bytes) ∙ ap (λ (l : List ℕ). l ++ drop n bytes) split ∙ append_assoc shorter tail (drop n bytes) in
    let low = least Ends len s bytes shorter (tail ++ drop n bytes) n e whole h in
    let sizes : length shorter + length tail ≡ n =
    sym (length-append shorter tail) ∙ ap length (sym split) ∙ length-take-le n bytes there.0 in
    no_length tail (omega (arith, low, sizes))

none_of : (Ends : List ℕ → Type 0) (len : List ℕ → Option ℕ) → IsSearchFor Ends len → (bytes : List ℕ) → len bytes ≡ None → HasNone Ends bytes
none_of Ends len s bytes e text rest split h =
    let f = s.finds text rest h in
    let there : None ≡ Some f.0 = sym e ∙ ap len split ∙ f.1 in
    cc

-- if the first bytes begin with a text, all of them do
in_front : (limit : ℕ) (bytes text rest : List ℕ) → take limit bytes ≡ text ++ rest → bytes ≡ text ++ (rest ++ drop limit bytes)
in_front limit bytes text rest split =
    sym (take-append-drop limit bytes) ∙ ap (λ (l : List ℕ). l ++ drop limit bytes) split ∙ append_assoc text rest (drop limit bytes)

late : (Ends : List ℕ → Type 0) (len : List ℕ → Option ℕ) → IsSearchFor Ends len → (limit : ℕ) (bytes : List ℕ) (n : ℕ) → len bytes ≡ Some n
    → limit < n → IsTooLong Ends limit bytes
late Ends len s limit bytes n e far =
    let there = s.sound bytes n e in
    let enough : limit ≤ length bytes = omega (arith, there.0) in (
      enough,
      λ text rest split h. (
          let low = least Ends len s bytes text (rest ++ drop limit bytes) n e (in_front limit bytes text rest split) h in
          let sizes : length text + length rest ≡ limit =
          sym (length-append text rest) ∙ ap length (sym split) ∙ length-take-le limit bytes enough in
          omega (arith, low, sizes, far)
          ),
    )

-- what a front shows
abbrev pub Tells : (List ℕ → Type 0) → ℕ → List ℕ → Front → Type 0
Tells Ends limit bytes (found text) = (rest : List ℕ) → bytes ≡ text ++ rest → IsFirstWithin Ends limit bytes text rest
Tells Ends limit bytes too_long = IsTooLong Ends limit bytes
Tells Ends limit bytes unfinished = IsUnfinished Ends limit bytes

yes_le : (n l : ℕ) → nat_le n l ≡ true → n ≤ l
yes_le n l h = grind (arith, nat_tests)

no_le : (n l : ℕ) → nat_le n l ≡ false → l < n
no_le n l h = grind (arith, nat_tests)

some_tells : (Ends : List ℕ → Type 0) (len : List ℕ → Option ℕ) → IsSearchFor Ends len → (limit : ℕ) (bytes : List ℕ) (n : ℕ) → len bytes ≡ Some n
    → (b : Bool) → nat_le n limit ≡ b → Tells Ends limit bytes (if b then found (take n bytes) else too_long)
some_tells Ends len s limit bytes n e true h = λ rest split. (
  record { splits = split; ends = (s.sound bytes n e).1; shortest = shortest_of Ends len s bytes n e },
  omega (arith, yes_le n limit h, length-take-le n bytes (s.sound bytes n e).0),
)
some_tells Ends len s limit bytes n e false h = late Ends len s limit bytes n e (no_le n limit h)

none_tells : (Ends : List ℕ → Type 0) (len : List ℕ → Option ℕ) → IsSearchFor Ends len → (limit : ℕ) (bytes : List ℕ) → len bytes ≡ None
    → (b : Bool) → nat_le limit (length bytes) ≡ b → Tells Ends limit bytes (if b then too_long else unfinished)
none_tells Ends len s limit bytes e true h =
    (yes_le limit (length bytes) h, λ text rest split x. none_of Ends len s bytes e text (rest ++ drop limit bytes) (in_front limit bytes text rest split) x)
none_tells Ends len s limit bytes e false h = (no_le limit (length bytes) h, none_of Ends len s bytes e)

front_tells : (Ends : List ℕ → Type 0) (len : List ℕ → Option ℕ) → IsSearchFor Ends len → (limit : ℕ) (bytes : List ℕ) (o : Option ℕ) → len bytes ≡ o
    → Tells Ends limit bytes (front_at limit bytes o)
front_tells Ends len s limit bytes (Some n) e = some_tells Ends len s limit bytes n e (nat_le n limit) refl
front_tells Ends len s limit bytes None e = none_tells Ends len s limit bytes e (nat_le limit (length bytes)) refl

-- what the front of the bytes shows
pub tells : (Ends : List ℕ → Type 0) (len : List ℕ → Option ℕ) → IsSearchFor Ends len → (limit : ℕ) (bytes : List ℕ) (f : Front)
    → front_at limit bytes (len bytes) ≡ f → Tells Ends limit bytes f
tells Ends len s limit bytes f e = subst (λ (x : Front). Tells Ends limit bytes x) e (front_tells Ends len s limit bytes (len bytes) refl)

-- ---- what is there is found

len_is : (Ends : List ℕ → Type 0) (len : List ℕ → Option ℕ) → IsSearchFor Ends len → (bytes text rest : List ℕ) → IsFirst Ends bytes text rest
    → len bytes ≡ Some (length text)
len_is Ends len s bytes text rest h =
    let f = s.finds text rest h.ends in
    let at : len bytes ≡ Some f.0 = ap len h.splits ∙ f.1 in
    let there = s.sound bytes f.0 at in
    let front : take f.0 bytes ≡ take f.0 text =
    ap (take f.0) h.splits ∙ take-append-le f.0 text rest f.2 in
    let none = h.shortest (take f.0 text) (drop f.0 text) (sym (take-append-drop f.0 text)) (subst Ends front there.1) in
    let size : length text - f.0 ≡ 0 = sym (length-drop f.0 text) ∙ ap length none in
    at ∙ ap Some (omega (arith, size, f.2))

le_yes : (n l : ℕ) → n ≤ l → nat_le n l ≡ true
le_yes n l h = grind (arith, nat_tests)

le_no : (n l : ℕ) → l < n → nat_le n l ≡ false
le_no n l h = grind (arith, nat_tests)

pub found_front : (Ends : List ℕ → Type 0) (len : List ℕ → Option ℕ) → IsSearchFor Ends len → (limit : ℕ) (bytes text rest : List ℕ)
    → IsFirstWithin Ends limit bytes text rest → front_at limit bytes (len bytes) ≡ found text
found_front Ends len s limit bytes text rest h =
    ap (front_at limit bytes) (len_is Ends len s bytes text rest h.0)
    ∙ ap (λ (b : Bool). if b then found (take (length text) bytes) else too_long) (le_yes (length text) limit h.1)
    ∙ ap found (ap (take (length text)) h.0.splits ∙ take-append_seam text rest)

long_front_at : (Ends : List ℕ → Type 0) (len : List ℕ → Option ℕ) → IsSearchFor Ends len → (limit : ℕ) (bytes : List ℕ)
    → IsTooLong Ends limit bytes → (o : Option ℕ) → len bytes ≡ o → front_at limit bytes o ≡ too_long
long_front_at Ends len s limit bytes h None e = ap (λ (b : Bool). if b then too_long else unfinished) (le_yes limit (length bytes) h.0)
long_front_at Ends len s limit bytes h (Some n) e = at (nat_le n limit) refl
  where
    at : (b : Bool) → nat_le n limit ≡ b → (if b then found (take n bytes) else too_long) ≡ too_long
    at false x = refl
    at true x =
        let inside = yes_le n limit x in
        let there = s.sound bytes n e in
        let size : limit ≡ n + (limit - n) = omega (arith, inside) in
        let front : take n (take limit bytes) ≡ take n bytes =
        sym (take-append-le n (take limit bytes) (drop limit bytes) (omega (arith, inside, length-take-le limit bytes h.0))) ∙ ap (take n) (take-append-drop limit bytes) in
        absurd (h.1 (take n bytes) (drop n (take limit bytes)) (sym (take-append-drop n (take limit bytes)) ∙ ap (λ (l : List ℕ). l ++ drop n (take limit bytes)) front) there.1)

pub long_front : (Ends : List ℕ → Type 0) (len : List ℕ → Option ℕ) → IsSearchFor Ends len → (limit : ℕ) (bytes : List ℕ)
    → IsTooLong Ends limit bytes → front_at limit bytes (len bytes) ≡ too_long
long_front Ends len s limit bytes h = long_front_at Ends len s limit bytes h (len bytes) refl

open_front_at : (Ends : List ℕ → Type 0) (len : List ℕ → Option ℕ) → IsSearchFor Ends len → (limit : ℕ) (bytes : List ℕ)
    → IsUnfinished Ends limit bytes → (o : Option ℕ) → len bytes ≡ o → front_at limit bytes o ≡ unfinished
open_front_at Ends len s limit bytes h None e = ap (λ (b : Bool). if b then too_long else unfinished) (le_no limit (length bytes) h.0)
open_front_at Ends len s limit bytes h (Some n) e = absurd (h.1 (take n bytes) (drop n bytes) (sym (take-append-drop n bytes)) (s.sound bytes n e).1)

pub open_front : (Ends : List ℕ → Type 0) (len : List ℕ → Option ℕ) → IsSearchFor Ends len → (limit : ℕ) (bytes : List ℕ)
    → IsUnfinished Ends limit bytes → front_at limit bytes (len bytes) ≡ unfinished
open_front Ends len s limit bytes h = open_front_at Ends len s limit bytes h (len bytes) refl

-- ---- heads

pub head_search_for : IsSearchFor EndsAsHead head_len
unfolding Finds
head_search_for = record {
  sound = λ bytes n e. (let there = head_sound bytes n e in (there.inside, there.ends));
  finds = λ text rest h. text_found text rest h;
}
