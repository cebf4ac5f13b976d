-- A search for the next line feed goes past each byte that is none.
use Rattle.std.proofs.Common.{◌≡◌, ℕ, zero, suc, ◌+◌, ◌-◌, ◌<◌, ◌≤◌, Bool, true, false, List, length, get_or, drop, sym, ap, ◌∙◌, subst, arith, Option, Some, None, ⊎_elim}
use Rattle.std.specs.Prelude.{◌==◌}
use Rattle.std.proofs.lemmas.Bool.{cases_Bool}
use Rattle.std.proofs.lemmas.Bool.Decides.{nat_tests}
use Rattle.std.proofs.lemmas.List.{get_or-drop, length-drop}
use Rattle.memchr.specs.Find.{IsFirst, IsFirstByte, NoneBefore, Nowhere, Passes, is_byte}
use Rattle.asgi_request.specs.Fronts.{more, lines_len, line_len}
use Rattle.asgi_request.specs.private.Searches.{GoesFrom}
use Rattle.asgi_request.proofs.SearchLemmas.{here, section_step, line_step}

-- ---- the answer of a search after `from`, by the places of all bytes

read_after : (bytes : List ℕ) (from k : ℕ) → from ≤ k → get_or bytes k 0 ≡ get_or (drop from bytes) (k - from) 0
read_after bytes from k low =
    let same : k ≡ from + (k - from) = omega (arith, low) in
    ap (λ (i : ℕ). get_or bytes i 0) same ∙ sym (get_or-drop from bytes (k - from) 0)

nowhere_after : (test : ℕ → Bool) (bytes : List ℕ) (from n end : ℕ) → end ≤ from + n
    → Nowhere (Passes test (drop from bytes)) 0 n → Nowhere (Passes test bytes) from end
nowhere_after test bytes from n end far none k low high p =
    none (k - from) (omega arith) (omega arith) (subst (λ (b : ℕ). test b ≡ true) (read_after bytes from k low) p)

pub first_after : (test : ℕ → Bool) (bytes : List ℕ) (from : ℕ) (r : Option ℕ) → from ≤ length bytes
    → IsFirstByte test (drop from bytes) r → IsFirst (Passes test bytes) from (length bytes) (more from r)
first_after test bytes from None inside none =
    nowhere_after test bytes from (length (drop from bytes)) (length bytes) (omega (arith, length-drop from bytes)) none
first_after test bytes from (Some i) inside h = (
  record {
    low = omega arith;
    high = omega (arith, h.0.high, length-drop from bytes);
    before = nowhere_after test bytes from i (from + i) (omega arith) h.0.before;
  },
  subst (λ (b : ℕ). test b ≡ true) (get_or-drop from bytes i 0) h.1,
)

-- ---- what is kept by each byte that does not pass is kept by a run of them

past : (P G : ℕ → Type 0) (at n : ℕ) → ((k : ℕ) → k < at + n → (P k → ⊥) → G k → G (k + 1)) → Nowhere P at (at + n) → G at → G (at + n)
past P G at zero one none g = subst G (omega arith) g
past P G at (suc n) one none g =
    let same : at + 1 + n ≡ at + suc n = omega arith in
    subst G same
    (past P G (at + 1) n (λ k high. one k (omega arith)) (λ k low high. none k (omega arith) (omega arith))
    (one at (omega arith) (none at (omega arith) (omega arith)) g))

past_to : (P G : ℕ → Type 0) (at i : ℕ) → at ≤ i → ((k : ℕ) → k < i → (P k → ⊥) → G k → G (k + 1)) → Nowhere P at i → G at → G i
past_to P G at i low one none g =
    let same : at + (i - at) ≡ i = omega (arith, low) in
    subst G same
    (past P G at (i - at) (λ k high. one k (omega arith)) (λ k low_k high. none k low_k (omega arith)) g)

is_line_feed : (b : ℕ) → b ≡ 10 → (b == 10) ≡ true
is_line_feed b e = grind (arith, nat_tests)

pub line_feed_is : (b : ℕ) → (b == 10) ≡ true → b ≡ 10
line_feed_is b same = grind (arith, nat_tests)

is_other : (b : ℕ) → ((b == 10) ≡ true → ⊥) → (b == 10) ≡ false
is_other b differs = ⊎_elim (λ same. absurd (differs same)) (λ other. other) (cases_Bool (b == 10))

-- without a line feed no empty line follows one
pub section_past : (bytes : List ℕ) (from at i : ℕ) → at ≤ i → i ≤ length bytes → Nowhere (Passes (is_byte 10) bytes) at i
    → GoesFrom lines_len lines_len from at bytes → GoesFrom lines_len lines_len from i bytes
section_past bytes from at i low inside none g =
    past_to (Passes (is_byte 10) bytes) (λ (k : ℕ). GoesFrom lines_len lines_len from k bytes) at i low
    (λ k high differs so_far. section_step bytes from k (omega (arith, high, inside))
    (λ e. absurd (differs (is_line_feed (get_or bytes k 0) e))) (λ e. absurd (differs (is_line_feed (get_or bytes k 0) e))) so_far)
    none g

pub section_to : (bytes : List ℕ) (from at i : ℕ) → NoneBefore (Passes (is_byte 10) bytes) at (length bytes) i
    → GoesFrom lines_len lines_len from at bytes → GoesFrom lines_len lines_len from i bytes
section_to bytes from at i first g = section_past bytes from at i first.low (omega (arith, first.high)) first.before g

-- nor does a line end there
line_past : (bytes : List ℕ) (from at i : ℕ) → at ≤ i → i ≤ length bytes → Nowhere (Passes (is_byte 10) bytes) at i
    → GoesFrom line_len line_len from at bytes → GoesFrom line_len line_len from i bytes
line_past bytes from at i low inside none g =
    past_to (Passes (is_byte 10) bytes) (λ (k : ℕ). GoesFrom line_len line_len from k bytes) at i low
    (λ k high differs so_far. line_step bytes from k (omega (arith, high, inside)) (is_other (get_or bytes k 0) differs) so_far)
    none g

pub line_to : (bytes : List ℕ) (from i : ℕ) → NoneBefore (Passes (is_byte 10) bytes) from (length bytes) i → GoesFrom line_len line_len from i bytes
line_to bytes from i first = line_past bytes from from i first.low (omega (arith, first.high)) first.before (here line_len from bytes)

pub line_to_end : (bytes : List ℕ) (from : ℕ) → from ≤ length bytes → Nowhere (Passes (is_byte 10) bytes) from (length bytes)
    → GoesFrom line_len line_len from (length bytes) bytes
line_to_end bytes from inside none = line_past bytes from from (length bytes) inside (omega arith) none (here line_len from bytes)
