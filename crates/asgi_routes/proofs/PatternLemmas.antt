-- The patterns of a table, and what its router keeps of them.
use Rattle.std.proofs.Common.{◌≡◌, ℕ, ◌+◌, List, [], ◌∷◌, ◌++◌, Option, Some, None, Result, Ok, Err, refl, ap, sym, ◌∙◌, subst, inl, inr, length, arith}
use Rattle.matchit.specs.Rows.{RowsOf}
use Rattle.matchit.specs.Route.{Scan, parse_route}
use Rattle.matchit.specs.Router.{InsertsRead, RouteOf}
use Rattle.matchit.specs.declared.error.InsertError.{InsertError}
use Rattle.matchit.specs.declared.error.InsertError.TheVariants as refused
use Rattle.asgi_routes.specs.declared.error.RouteError.{RouteError}
use Rattle.asgi_routes.specs.Patterns.{IsFit, IsFitAt, IsNew, IsWhyIn, number_at, number_of, place_in, rows_from, rows_of, why_of, with_at, with_pattern, with_read}
use Rattle.asgi_routes.proofs.ReadLemmas.{reads_syntax}

-- ---- one pattern more, in the rows

rows_more : (rows : RowsOf (RouteOf ℕ)) (number : ℕ) (patterns : List (List ℕ)) (pattern : List ℕ)
    → rows_from rows number (patterns ++ pattern ∷ []) ≡ with_read (rows_from rows number patterns) (parse_route pattern) (number + length patterns)
rows_more rows number [] pattern =
    let same : number ≡ number + length {A = List ℕ} [] = omega arith in
    ap (λ (n : ℕ). with_read rows (parse_route pattern) n) same
rows_more rows number (known ∷ patterns) pattern =
    let same : number + 1 + length patterns ≡ number + length (known ∷ patterns) = omega arith in
    rows_more (with_read rows (parse_route known) number) (number + 1) patterns pattern
    ∙ ap (λ (n : ℕ). with_read (rows_from (with_read rows (parse_route known) number) (number + 1) patterns) (parse_route pattern) n) same

-- the rows of these patterns and one more
pub rows_with : (patterns after : List (List ℕ)) (pattern : List ℕ) (rows : RowsOf (RouteOf ℕ)) → rows ≡ with_read (rows_of patterns) (parse_route pattern) (length patterns)
    → after ≡ patterns ++ pattern ∷ [] → rows ≡ rows_of after
rows_with patterns after pattern rows is more =
    let same : length patterns ≡ 0 + length patterns = omega arith in
    is ∙ ap (λ (n : ℕ). with_read (rows_of patterns) (parse_route pattern) n) same ∙ sym (rows_more [] 0 patterns pattern) ∙ ap rows_of (sym more)

-- ---- what the router says

module _ (number : ℕ) (old new : RowsOf (RouteOf ℕ)) where
  pub inserted : (read : Result Scan InsertError) (u : Unit {0}) → InsertsRead read number old new (Ok u) → new ≡ with_read old read number
  inserted (Ok scan) u is = is.1
  inserted (Err error) u is = elim is.1 [ inl same ↦ absurd (cc) | inr same ↦ absurd (cc) ]

  new_at : (pattern : List ℕ) (read : Result Scan InsertError) (u : Unit {0}) → parse_route pattern ≡ read → InsertsRead read number old new (Ok u) → IsNew old pattern
  new_at pattern (Ok scan) u reads is = (scan, reads, is.0)
  new_at pattern (Err error) u reads is = elim is.1 [ inl same ↦ absurd (cc) | inr same ↦ absurd (cc) ]

  pub inserted_new : (pattern : List ℕ) (u : Unit {0}) → InsertsRead (parse_route pattern) number old new (Ok u) → IsNew old pattern
  inserted_new pattern u is = new_at pattern (parse_route pattern) u refl is

  unread : (pattern : List ℕ) (error : InsertError) → parse_route pattern ≡ Err error → IsWhyIn ⊥ old pattern (why_of error)
  unread pattern (refused.Conflict with) reads = absurd (reads_syntax pattern (refused.Conflict with) reads)
  unread pattern refused.InvalidParamSegment reads = reads
  unread pattern refused.InvalidParam reads = reads
  unread pattern refused.InvalidCatchAll reads = reads
  unread pattern refused.OutOfMemory reads = tt

  why_at : (pattern : List ℕ) (read : Result Scan InsertError) (error : InsertError) → parse_route pattern ≡ read → InsertsRead read number old new (Err error)
      → IsWhyIn ⊥ old pattern (why_of error)
  why_at pattern (Ok scan) (refused.Conflict with) reads is = (scan, reads, λ none. absurd (cc (is.1.1, none)))
  why_at pattern (Ok scan) refused.InvalidParamSegment reads is = absurd is.1
  why_at pattern (Ok scan) refused.InvalidParam reads is = absurd is.1
  why_at pattern (Ok scan) refused.InvalidCatchAll reads is = absurd is.1
  why_at pattern (Ok scan) refused.OutOfMemory reads is = tt
  why_at pattern (Err other) error reads is =
      elim is.1 [
        | inl same ↦ let equal : other ≡ error = cc in unread pattern error (reads ∙ ap (λ (e : InsertError). Err e) equal)
        | inr same ↦ let equal : refused.OutOfMemory ≡ error = cc in subst (λ (e : InsertError). IsWhyIn ⊥ old pattern (why_of e)) equal tt
      ]

  pub not_inserted : (pattern : List ℕ) (error : InsertError) (why : RouteError) → why ≡ why_of error → InsertsRead (parse_route pattern) number old new (Err error)
      → IsWhyIn ⊥ old pattern why
  not_inserted pattern error why same is = subst (λ (w : RouteError). IsWhyIn ⊥ old pattern w) (sym same) (why_at pattern (parse_route pattern) error refl is)

-- ---- the place of a pattern

module _ (patterns slice : List (List ℕ)) (pattern : List ℕ) (same : slice ≡ patterns) where
  place_is : (place : Option ℕ) → place ≡ place_in slice pattern → place ≡ place_in patterns pattern
  place_is place is = is ∙ ap (λ (l : List (List ℕ)). place_in l pattern) same

  -- it is there already
  pub known_kept : (number : ℕ) → Some number ≡ place_in slice pattern → patterns ≡ with_pattern patterns pattern
  known_kept number is = subst (λ (place : Option ℕ). patterns ≡ with_at place patterns pattern) (place_is (Some number) is) refl

  pub known_number : (number : ℕ) → Some number ≡ place_in slice pattern → number ≡ number_of patterns pattern
  known_number number is = subst (λ (place : Option ℕ). number ≡ number_at place patterns) (place_is (Some number) is) refl

  pub known_fit : (number : ℕ) → Some number ≡ place_in slice pattern → IsFit patterns pattern
  known_fit number is = subst (λ (place : Option ℕ). IsFitAt place patterns pattern) (place_is (Some number) is) tt

  -- it is new
  pub new_kept : (after : List (List ℕ)) → None ≡ place_in slice pattern → after ≡ patterns ++ pattern ∷ [] → after ≡ with_pattern patterns pattern
  new_kept after none is = subst (λ (place : Option ℕ). after ≡ with_at place patterns pattern) (place_is None none) is

  pub new_number : (number : ℕ) → None ≡ place_in slice pattern → number ≡ length patterns → number ≡ number_of patterns pattern
  new_number number none is = subst (λ (place : Option ℕ). number ≡ number_at place patterns) (place_is None none) is

  pub new_fit : None ≡ place_in slice pattern → IsNew (rows_of patterns) pattern → IsFit patterns pattern
  new_fit none is = subst (λ (place : Option ℕ). IsFitAt place patterns pattern) (place_is None none) is
