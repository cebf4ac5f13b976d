-- The path without its mount.
use Rattle.std.proofs.Common.{◌≡◌, ℕ, Bool, true, false, List, None, refl, ap, sym, ◌∙◌, subst}
use Rattle.std.specs.Prelude.{eqb, drop, length, if◌then◌else◌}
use Rattle.std.specs.List.{starts_with}
use Rattle.std.specs.Str.{IsCharBoundary}
use Rattle.std.specs.Str.Pattern.{FindsTextPrefix, StripsPrefix}
use Rattle.std.proofs.lemmas.Str.Pattern.{starts_text}
use Rattle.asgi_apps.specs.Mounts.{local_path}

by_test : (test : Bool) (path rest local : List ℕ) → true ≡ test → local ≡ rest → local ≡ (if test then rest else path)
by_test true path rest local is same = same
by_test false path rest local is same = absurd (cc)

by_none : (test : Bool) (path rest : List ℕ) → false ≡ test → path ≡ (if test then rest else path)
by_none true path rest is = absurd (cc)
by_none false path rest is = refl

-- the root path stands at the start
pub stripped : (path root local : List ℕ) → StripsPrefix (FindsTextPrefix root) path local → local ≡ local_path path root
stripped path root local is =
    let found = is.1 in
    let boundary : IsCharBoundary path is.0 = subst (λ (n : ℕ). IsCharBoundary path n) (sym found.0) found.2 in
    by_test (starts_with eqb path root) path (drop (length root) path) local (starts_text true root path (is.0, found, boundary))
    (is.2 ∙ ap (λ (n : ℕ). drop n path) found.0)

-- it does not
pub unstripped : (path root : List ℕ) → FindsTextPrefix root path None → path ≡ local_path path root
unstripped path root is = by_none (starts_with eqb path root) path (drop (length root) path) (starts_text false root path is)
