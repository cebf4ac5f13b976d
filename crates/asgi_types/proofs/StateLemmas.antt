-- Setting a value sets it in the map: the name has it, and each other name keeps what it had.
use Rattle.std.proofs.Common.{◌≡◌, ◌≢◌, ℕ, ◌+◌, ◌<◌, Bool, true, false, ◌⊎◌, inl, inr, List, [], ◌∷◌, ◌++◌, length, take, refl, ap, sym, ◌∙◌, Option, Some, None, slice_set, slice_index_or, length-set, length-append, subst, unwrap_or, suc, zero, add-one}
use Rattle.std.specs.Prelude.{slice_get, is_some, IsNone, if◌then◌else◌}
use Rattle.std.proofs.Math.Seq.{take-suc}
use Rattle.std.specs.Str.{bytes_eq}
use Rattle.std.proofs.lemmas.Slice.Eq.{bytes_eq-Decides}
use Rattle.asgi_types.specs.declared.state.StateValue.{StateValue}
use Rattle.asgi_types.specs.States.{value_of, with_value, EachNameOnce}
use Rattle.std.proofs.lemmas.Option.{slice_get_read}
use Rattle.asgi_types.specs.private.StateEntries.{IsValueAt, IsReplaced}

abbrev Entries : Type 0
Entries = List (List ℕ × StateValue)

two : (b : Bool) → (b ≡ true) ⊎ (b ≡ false)
two true = inl refl
two false = inr refl

different : {b : Bool} → b ≡ false → b ≡ true → ⊥
different p q = cc

-- after entries without the name
pub value_of-append : (xs ys : Entries) (n : List ℕ) → value_of xs n ≡ None → value_of (xs ++ ys) n ≡ value_of ys n
value_of-append [] ys n h = refl
value_of-append (e ∷ xs) ys n h = elim (two (bytes_eq e.0 n)) [
  | inl p ↦ let bad = rw p at h in absurd (cc)
  | inr p ↦ let rest = rw p at h in rw p (value_of-append xs ys n rest)
]

-- the entry that has the name
pub value_of-here : (e : List ℕ × StateValue) (es : Entries) (n : List ℕ) → e.0 ≡ n → value_of (e ∷ es) n ≡ Some e.1
value_of-here e es n h = let yes = (bytes_eq-Decides e.0 n).1 h in rw yes refl

pub value_of-other : (e : List ℕ × StateValue) (es : Entries) (n : List ℕ) → e.0 ≢ n → value_of (e ∷ es) n ≡ value_of es n
value_of-other e es n h = elim (two (bytes_eq e.0 n)) [
  | inl p ↦ absurd (h ((bytes_eq-Decides e.0 n).0 p))
  | inr p ↦ rw p refl
]

-- the name has the new value
pub value_of-with_value : (es : Entries) (n : List ℕ) (w : StateValue) → value_of (with_value es n w) n ≡ Some w
value_of-with_value [] n w = value_of-here (n, w) [] n refl
value_of-with_value (e ∷ es) n w = elim (two (bytes_eq e.0 n)) [
  | inl p ↦ rw p (value_of-here (n, w) es n refl)
  | inr p ↦ rw p (rw p (value_of-with_value es n w))
]

-- each other name keeps what it had
pub value_of-with_value-other : (es : Entries) (n : List ℕ) (w : StateValue) (q : List ℕ) → q ≢ n → value_of (with_value es n w) q ≡ value_of es q
value_of-with_value-other [] n w q h = value_of-other (n, w) [] q (λ same. h (sym same))
value_of-with_value-other (e ∷ es) n w q h = elim (two (bytes_eq e.0 n)) [
  | inl p ↦ let here = (bytes_eq-Decides e.0 n).0 p in
      rw p (value_of-other (n, w) es q (λ same. h (sym same)) ∙ sym (value_of-other e es q (λ same. h (sym same ∙ here))))
  | inr p ↦ rw p (ap (λ rest. if bytes_eq e.0 q then Some e.1 else rest) (value_of-with_value-other es n w q h))
]

-- a name that is not held comes last
pub with_value-none : (es : Entries) (n : List ℕ) (w : StateValue) → value_of es n ≡ None → with_value es n w ≡ es ++ (n, w) ∷ []
with_value-none [] n w h = refl
with_value-none (e ∷ es) n w h = elim (two (bytes_eq e.0 n)) [
  | inl p ↦ let bad = rw p at h in absurd (cc)
  | inr p ↦ let rest = rw p at h in rw p (ap (λ (r : Entries). e ∷ r) (with_value-none es n w rest))
]

-- a name stays once
pub EachNameOnce-with_value : (es : Entries) (n : List ℕ) (w : StateValue) → EachNameOnce es → EachNameOnce (with_value es n w)
EachNameOnce-with_value [] n w h = (refl, tt)
EachNameOnce-with_value (e ∷ es) n w h = elim (two (bytes_eq e.0 n)) [
  | inl p ↦ let here = (bytes_eq-Decides e.0 n).0 p in rw p (ap (value_of es) (sym here) ∙ h.0, h.1)
  | inr p ↦ rw p (value_of-with_value-other es n w e.0 (λ same. different p ((bytes_eq-Decides e.0 n).1 same)) ∙ h.0, EachNameOnce-with_value es n w h.1)
]

-- an entry that is the first of its name
pub value_of-at : (es : Entries) (n : List ℕ) (i : ℕ) (v : StateValue) → slice_get es i ≡ Some (n, v) → value_of (take i es) n ≡ None → value_of es n ≡ Some v
value_of-at [] n i v here first = absurd (cc)
value_of-at (e ∷ es) n zero v here first = let same : e ≡ (n, v) = cc in ap (λ (f : List ℕ × StateValue). value_of (f ∷ es) n) same ∙ value_of-here (n, v) es n refl
value_of-at (e ∷ es) n (suc i) v here first = elim (two (bytes_eq e.0 n)) [
  | inl p ↦ let bad = rw p at first in absurd (cc)
  | inr p ↦ let rest = rw p at first in rw p (value_of-at es n i v here rest)
]

-- an entry that is the first of its name is replaced in its place
pub with_value-at : (es : Entries) (n : List ℕ) (w : StateValue) (i : ℕ) (v : StateValue) → slice_get es i ≡ Some (n, v) → value_of (take i es) n ≡ None
    → with_value es n w ≡ slice_set es i (n, w)
with_value-at [] n w i v here first = absurd (cc)
with_value-at (e ∷ es) n w zero v here first = let same : e.0 ≡ n = cc in let yes = (bytes_eq-Decides e.0 n).1 same in rw yes refl
with_value-at (e ∷ es) n w (suc i) v here first = elim (two (bytes_eq e.0 n)) [
  | inl p ↦ let bad = rw p at first in absurd (cc)
  | inr p ↦ let rest = rw p at first in rw p (ap (λ (r : Entries). e ∷ r) (with_value-at es n w i v here rest))
]

-- the search has found the name
pub found_at : (es : Entries) (n text : List ℕ) (i : ℕ) (e : List ℕ × StateValue) → i < length es → e ≡ slice_index_or es i e → value_of (take i es) n ≡ None
    → text ≡ e.0 → bytes_eq text n ≡ true → IsValueAt es n i
found_at es n text i e inside read first shown same = record {
  inside = inside;
  value = e.1;
  here = slice_get_read es (length es) i e refl inside read ∙ ap (λ (m : List ℕ). Some (let p : List ℕ × StateValue = (m, e.1) in p)) (sym shown ∙ (bytes_eq-Decides text n).0 same);
  first = first;
}

-- the search goes on after another name
pub missing_more : (es : Entries) (n text : List ℕ) (i : ℕ) (e : List ℕ × StateValue) → i < length es → e ≡ slice_index_or es i e → value_of (take i es) n ≡ None
    → text ≡ e.0 → bytes_eq text n ≡ false → value_of (take (i + 1) es) n ≡ None
missing_more es n text i e inside read none shown other =
    ap (λ (k : ℕ). value_of (take k es) n) (add-one i)
    ∙ ap (λ (xs : Entries). value_of xs n) (take-suc es i e inside)
    ∙ value_of-append (take i es) (slice_index_or es i e ∷ []) n none
    ∙ ap (λ (f : List ℕ × StateValue). value_of (f ∷ []) n) (sym read)
    ∙ value_of-other e [] n (λ same. different other ((bytes_eq-Decides text n).1 (shown ∙ same)))

-- the value that the search found
pub found_value : (es shown now : Entries) (n : List ℕ) (i : ℕ) (e : List ℕ × StateValue) → shown ≡ es → es ≡ now → IsValueAt shown n i → e ≡ slice_index_or es i e
    → Some e.1 ≡ value_of now n
found_value es shown now n i e same view at read =
    let inside : i < length es = subst (λ (xs : Entries). i < length xs) same at.inside in
    let here = sym (slice_get_read es (length es) i e refl inside read) ∙ ap (λ (xs : Entries). slice_get xs i) (sym same) ∙ at.here in
    ap (λ (o : Option (List ℕ × StateValue)). Some (unwrap_or o e).1) here
    ∙ sym (value_of-at shown n i at.value at.here at.first) ∙ ap (λ (xs : Entries). value_of xs n) (same ∙ view)

-- the value in the place of the one that is held
pub with_value-replaced : (es shown new : Entries) (n : List ℕ) (w : StateValue) (i : ℕ) → shown ≡ es → IsValueAt shown n i → IsReplaced es i w new → new ≡ with_value es n w
with_value-replaced es shown new n w i same at put =
    let here = sym put.here ∙ ap (λ (xs : Entries). slice_get xs i) (sym same) ∙ at.here in
    put.after ∙ ap (λ (xs : Entries). slice_set xs i (put.name, w)) (sym same)
    ∙ ap (λ (o : Option (List ℕ × StateValue)). slice_set shown i ((unwrap_or o (n, w)).0, w)) here
    ∙ sym (with_value-at shown n w i at.value at.here at.first) ∙ ap (λ (xs : Entries). with_value xs n w) same

-- what setting a value keeps and gives
pub record Sets (old new : Entries) (n : List ℕ) (w : StateValue) : Type 0 where
  pub once : EachNameOnce new
  pub ok : new ≡ with_value old n w
  pub found : value_of new n ≡ Some w
  pub others : (q : List ℕ) → q ≢ n → value_of new q ≡ value_of old q

sets : (old new : Entries) (n : List ℕ) (w : StateValue) → EachNameOnce old → new ≡ with_value old n w → Sets old new n w
sets old new n w once same = record {
  once = rw same (EachNameOnce-with_value old n w once);
  ok = same;
  found = rw same (value_of-with_value old n w);
  others = λ q other. rw same (value_of-with_value-other old n w q other);
}

-- a held name has its value replaced
pub replaced : (es shown now new : Entries) (n : List ℕ) (w : StateValue) (i : ℕ) → shown ≡ es → es ≡ now → EachNameOnce es → IsValueAt shown n i → IsReplaced es i w new
    → Sets now new n w
replaced es shown now new n w i same view once at put =
    sets now new n w (subst EachNameOnce view once) (with_value-replaced es shown new n w i same at put ∙ ap (λ (xs : Entries). with_value xs n w) view)

pub length-replaced : (es new : Entries) (w : StateValue) (i : ℕ) → IsReplaced es i w new → length new ≡ length es
length-replaced es new w i put = ap length put.after ∙ simp length-set

-- a held name is there
pub held : (es shown now : Entries) (n : List ℕ) (i : ℕ) → shown ≡ es → es ≡ now → IsValueAt shown n i → ¬ (IsNone (value_of now n))
held es shown now n i same view at none =
    let some = sym (ap (λ (xs : Entries). value_of xs n) (same ∙ view)) ∙ value_of-at shown n i at.value at.here at.first in
    different (sym (ap is_some some) ∙ none) refl

-- a name that was not held comes last
pub added : (es shown now new : Entries) (n : List ℕ) (w : StateValue) → shown ≡ es → es ≡ now → EachNameOnce es → value_of shown n ≡ None → new ≡ es ++ (n, w) ∷ []
    → Sets now new n w
added es shown now new n w same view once none after =
    let missing = ap (λ (xs : Entries). value_of xs n) (sym same) ∙ none in
    sets now new n w (subst EachNameOnce view once)
    (after ∙ sym (with_value-none es n w missing) ∙ ap (λ (xs : Entries). with_value xs n w) view)

pub grown : (es new : Entries) (e : List ℕ × StateValue) → new ≡ es ++ e ∷ [] → length new ≡ length es + 1
grown es new e after = ap length after ∙ length-append es (e ∷ [])
