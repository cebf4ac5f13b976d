-- One more turn is counted.
use Rattle.std.proofs.Common.{◌≡◌, ℕ, ◌+◌, ◌<◌, ◌≤◌, List, [], ◌∷◌, ◌++◌, length, take, refl, sym, ap, ◌∙◌, subst, inl, inr, arith}
use Rattle.std.specs.Prelude.{count_by, ◌⊎◌}
use Rattle.std.proofs.lemmas.Bool.{cases_lt}
use Rattle.std.proofs.lemmas.List.{length-append, take-append-le}
use Rattle.std.proofs.lemmas.List.Sums.{sum_by-append}
use Rattle.std.proofs.Math.Seq.{take-append_seam}
use Rattle.asgi_io.specs.declared.turns.Turn.{Turn}
use Rattle.asgi_io.specs.Counting.{RoseExactly}
use Rattle.asgi_io.specs.Turns.{row_after, idle_after, idle_in_a_row, is_idle, CountsTurns}

pub idle_after-append : (row : ℕ) (xs : List Turn) (t : Turn) → idle_after row (xs ++ t ∷ []) ≡ row_after (idle_after row xs) t
idle_after-append row [] t = refl
idle_after-append row (x ∷ xs) t = idle_after-append (row_after row x) xs t

-- how many pauses a turn makes
abbrev pub pauses_of : Turn → ℕ
pauses_of t = count_by is_idle (t ∷ [])

pauses-append : (xs : List Turn) (t : Turn) → count_by is_idle (xs ++ t ∷ []) ≡ count_by is_idle xs + pauses_of t
pauses-append xs t = sum_by-append _ xs (t ∷ [])

-- a count goes on from a count
pub rose_more : (m n a b c : ℕ) → RoseExactly m a b → RoseExactly n b c → RoseExactly (m + n) a c
rose_more m n a b c x y = omega (arith, x, y)

-- one more turn within the limits
pub one_more_turn : (turn_limit idle_limit : ℕ) (turned : List Turn) (t : Turn) (before now after turns idle : ℕ)
    → CountsTurns turn_limit idle_limit turned before now turns idle → turns < turn_limit → idle < idle_limit → RoseExactly (pauses_of t) now after
    → row_after idle t ≤ idle_limit
    → CountsTurns turn_limit idle_limit (turned ++ t ∷ []) before after (turns + 1) (row_after idle t)
one_more_turn turn_limit idle_limit turned t before now after turns idle x below short rose fits = record {
  turns_is = omega (arith, x.turns_is, length-append turned (t ∷ []));
  idle_is = ap (λ k. row_after k t) x.idle_is ∙ sym (idle_after-append 0 turned t);
  pauses = subst (λ n. RoseExactly n before after) (sym (pauses-append turned t)) (rose_more _ _ before now after x.pauses rose);
  in_turns = omega (arith, below);
  in_idle = fits;
  stops = λ k lower. at k lower (order k);
}
  where
    order : (k : ℕ) → (k < length turned) ⊎ (length turned ≤ k)
    order k = cases_lt k (length turned)

    at : (k : ℕ) → k < length (turned ++ t ∷ []) → (k < length turned) ⊎ (length turned ≤ k) → idle_in_a_row (take k (turned ++ t ∷ [])) < idle_limit
    at k lower (inl less) =
        let P : List Turn → Type 0 = λ l. idle_in_a_row l < idle_limit in
        subst P (sym (take-append-le k turned (t ∷ []) (omega (arith, less)))) (x.stops k less)
    at k lower (inr more) =
        let same : k ≡ length turned = omega (arith, lower, more, length-append turned (t ∷ [])) in
        let P : List Turn → Type 0 = λ l. idle_in_a_row l < idle_limit in
        subst P (sym (ap (λ n. take n (turned ++ t ∷ [])) same ∙ take-append_seam turned (t ∷ [])))
        (subst (λ n. n < idle_limit) x.idle_is short)
