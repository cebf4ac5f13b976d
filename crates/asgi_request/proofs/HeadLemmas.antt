-- How the search for the end of a head goes on by one byte.
use Rattle.std.proofs.Common.{◌≡◌, ℕ, ◌+◌, true, List, ◌∷◌, refl, sym, ap, add_assoc, arith, Option, Some, None}
use Rattle.std.proofs.lemmas.Bool.Decides.{nat_tests}
use Rattle.asgi_request.specs.HeadText.{is_line_break}
use Rattle.asgi_request.specs.Fronts.{empty_line_len, more, lines_len, head_len}

pub more-more : (i : ℕ) (found : Option ℕ) → more i (more 1 found) ≡ more (i + 1) found
more-more i None = refl
more-more i (Some n) = ap Some (sym (add_assoc i 1 n))

pub lines_len-cons : (b : ℕ) (rest : List ℕ) → (b ≡ 10 → empty_line_len rest ≡ 0) → lines_len (b ∷ rest) ≡ more 1 (lines_len rest)
lines_len-cons b rest h = grind (arith, nat_tests, h)

pub head_len-cons : (b : ℕ) (rest : List ℕ) → is_line_break b ≡ true → head_len (b ∷ rest) ≡ more 1 (head_len rest)
head_len-cons b rest h = rw h refl
