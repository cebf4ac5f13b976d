-- A text with zero bytes after it is a padded text.
use Rattle.std.proofs.Common.{◌≡◌, ℕ, List, ◌++◌, length, drop, ap, ◌∙◌}
use Rattle.std.specs.Prelude.{replicate}
use Rattle.std.proofs.lemmas.List.{drop-replicate}
use Rattle.asgi_types.specs.private.Reasons.{padded}

pub front_padded : (front bytes zeros : List ℕ) → front ≡ bytes → zeros ≡ replicate 123 0
    → front ++ drop (length bytes) zeros ≡ padded bytes
front_padded front bytes zeros same none =
    ap (λ (f : List ℕ). f ++ drop (length bytes) zeros) same
    ∙ ap (λ (z : List ℕ). bytes ++ drop (length bytes) z) none
    ∙ ap (λ (r : List ℕ). bytes ++ r) (drop-replicate (length bytes) 123 0)
