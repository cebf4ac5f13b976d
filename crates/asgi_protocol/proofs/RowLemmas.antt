-- A row has the shape that its test checks: some of one sort, and one of another.
use Rattle.std.proofs.Common.{◌≡◌, Bool, true, false, ◌⊎◌, inl, inr, List, [], ◌∷◌, ◌++◌, refl, ap, ◌∙◌, append-nil}
use Rattle.std.specs.Prelude.{map, ◌&&◌, ◌||◌}
use Rattle.asgi_types.specs.declared.outgoing.Outgoing.{Outgoing}
use Rattle.asgi_protocol.specs.Shapes.{is_row, begins_row, is_empty}

pub both : (a b : Bool) → (a && b) ≡ true → (a ≡ true) × (b ≡ true)
both true b h = (refl, h)
both false b h = absurd (cc)

pub both_true : (a b : Bool) → a ≡ true → b ≡ true → (a && b) ≡ true
both_true a b p q = rw p q

pub either : (a b : Bool) → (a || b) ≡ true → (a ≡ true) ⊎ (b ≡ true)
either true b h = inl refl
either false b h = inr h

pub either_first : (a b : Bool) → a ≡ true → (a || b) ≡ true
either_first a b p = rw p refl

pub either_second : (a b : Bool) → b ≡ true → (a || b) ≡ true
either_second true b p = refl
either_second false b p = p

pub empty_from_test : (es : List Outgoing) → is_empty es ≡ true → es ≡ []
empty_from_test [] h = refl
empty_from_test (e ∷ es) h = absurd (cc)

pub front_empty : (es rest : List Outgoing) → is_empty (es ++ rest) ≡ true → is_empty es ≡ true
front_empty [] rest h = refl
front_empty (e ∷ es) rest h = h

-- the beginning of a row
pub begins_row-from_row : (each last : Outgoing → Bool) (after begins : List Outgoing → Bool) → ((es rest : List Outgoing) → after (es ++ rest) ≡ true → begins es ≡ true)
    → (es rest : List Outgoing) → is_row each last after (es ++ rest) ≡ true → begins_row each last begins es ≡ true
begins_row-from_row each last after begins front [] rest h = refl
begins_row-from_row each last after begins front (e ∷ es) rest h =
    elim (either (each e && is_row each last after (es ++ rest)) (last e && after (es ++ rest)) h) [
      | inl p ↦ let q = both (each e) (is_row each last after (es ++ rest)) p in
          either_first _ _ (both_true _ _ q.0 (begins_row-from_row each last after begins front es rest q.1))
      | inr p ↦ let q = both (last e) (after (es ++ rest)) p in
          either_second _ _ (both_true _ _ q.0 (front es rest q.1))
    ]

-- what follows a row can be completed, wherever it ends
abbrev pub Completes : (after begins : List Outgoing → Bool) → Type 0
Completes after begins = (es : List Outgoing) → begins es ≡ true → (rest : List Outgoing) × (after (es ++ rest) ≡ true)

pub nothing_completes : Completes is_empty is_empty
nothing_completes es h = ([], ap is_empty (append-nil es) ∙ h)

-- a row in which each event is made by `more`, and the last one by `fin`
module _ {P L : Type 0} (each last : Outgoing → Bool) (more : P → Outgoing) (fin : L → Outgoing) where
  pub record Sorts : Type 0 where
    pub each_of : (e : Outgoing) → each e ≡ true → (p : P) × (e ≡ more p)
    pub last_of : (e : Outgoing) → last e ≡ true → (l : L) × (e ≡ fin l)
    pub each_more : (p : P) → each (more p) ≡ true
    pub last_fin : (l : L) → last (fin l) ≡ true

  -- the row, and then what may come after it
  abbrev pub Row : (after : List Outgoing → Bool) → List Outgoing → Type 0
  Row after es = (ps : List P) × (l : L) × (rest : List Outgoing) × (es ≡ map more ps ++ fin l ∷ rest) × (after rest ≡ true)

  pub row_from_test : Sorts → (after : List Outgoing → Bool) (es : List Outgoing) → is_row each last after es ≡ true → Row after es
  row_from_test s after [] h = absurd (cc)
  row_from_test s after (e ∷ es) h =
      elim (either (each e && is_row each last after es) (last e && after es) h) [
        | inl p ↦ let q = both (each e) (is_row each last after es) p in
            let first = s.each_of e q.0 in
            let row = row_from_test s after es q.1 in
            let same : e ∷ es ≡ more first.0 ∷ (map more row.0 ++ fin row.1 ∷ row.2) = cc (first.1, row.3) in
            (first.0 ∷ row.0, row.1, row.2, same, row.4)
        | inr p ↦ let q = both (last e) (after es) p in
            let one = s.last_of e q.0 in
            let same : e ∷ es ≡ fin one.0 ∷ es = cc (one.1) in
            ([], one.0, es, same, q.1)
      ]

  pub test_of_row : Sorts → (after : List Outgoing → Bool) (ps : List P) (l : L) (rest : List Outgoing) → after rest ≡ true
      → is_row each last after (map more ps ++ fin l ∷ rest) ≡ true
  test_of_row s after [] l rest h = either_second _ _ (both_true _ _ (s.last_fin l) h)
  test_of_row s after (p ∷ ps) l rest h = either_first _ _ (both_true _ _ (s.each_more p) (test_of_row s after ps l rest h))

  pub row_from_beginning : Sorts → L → (after begins : List Outgoing → Bool) → Completes after begins → begins [] ≡ true
      → (es : List Outgoing) → begins_row each last begins es ≡ true → (rest : List Outgoing) × Row after (es ++ rest)
  row_from_beginning s l after begins completes may_end [] h = let end = completes [] may_end in (fin l ∷ end.0, ([], l, end.0, refl, end.1))
  row_from_beginning s l after begins completes may_end (e ∷ es) h =
      elim (either (each e && begins_row each last begins es) (last e && begins es) h) [
        | inl p ↦ let q = both (each e) (begins_row each last begins es) p in
            let first = s.each_of e q.0 in
            let row = row_from_beginning s l after begins completes may_end es q.1 in
            let same : e ∷ (es ++ row.0) ≡ more first.0 ∷ (map more row.1.0 ++ fin row.1.1 ∷ row.1.2) = cc (first.1, row.1.3) in
            (row.0, (first.0 ∷ row.1.0, row.1.1, row.1.2, same, row.1.4))
        | inr p ↦ let q = both (last e) (begins es) p in
            let one = s.last_of e q.0 in
            let end = completes es q.1 in
            let same : e ∷ (es ++ end.0) ≡ fin one.0 ∷ (es ++ end.0) = cc (one.1) in
            (end.0, ([], one.0, es ++ end.0, same, end.1))
      ]

  pub row_completes : Sorts → L → (after begins : List Outgoing → Bool) → Completes after begins → begins [] ≡ true → Completes (is_row each last after) (begins_row each last begins)
  row_completes s l after begins completes may_end es h =
      let row = row_from_beginning s l after begins completes may_end es h in
      (row.0, ap (is_row each last after) row.1.3 ∙ test_of_row s after row.1.0 row.1.1 row.1.2 row.1.4)
