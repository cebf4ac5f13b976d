-- Prefixes in the order of mounting, and the longest that a path is under.
use Rattle.std.proofs.Common.{◌≡◌, ◌≢◌, ◌≤◌, ◌<◌, ◌+◌, ◌-◌, ◌⊎◌, ◌↔◌, ℕ, suc, zero, Bool, true, false, List, [], ◌∷◌, ◌++◌, Option, Some, None, length, take, drop, get_or, refl, ap, sym, ◌∙◌, subst, append-nil, inl, inr, arith, length-take-le, IsTrue, IfNone, IfSome, slice_get, eqb, ◌==◌, if◌then◌else◌}
use Rattle.std.specs.List.{starts_with}
use Rattle.std.specs.Cmp.Lexicographic.{pointwise}
use Rattle.std.proofs.lemmas.Bool.Decides.{Decides-eqb}
use Rattle.std.proofs.lemmas.List.{take_more}
use Rattle.std.proofs.lemmas.Slice.Eq.{starts_is, ends_is}
use Rattle.asgi_apps.specs.declared.mounting.Mount.{Mount}
use Rattle.asgi_apps.specs.declared.mounting.Found.{Found}
use Rattle.asgi_apps.specs.Mounting.{IsLongest}
use Rattle.asgi_types.specs.declared.scope.Scope.{Scope}
use Rattle.asgi_apps.specs.Mounts.{EachPrefixOnce, IsBadPrefix, IsMounted, IsUnder, IsUnmounted, MountedAt, TakenAt, TakenBy, local_path, mounted_scope, prefixes_of, slash}

-- what a test for no bytes returns
pub empty_is : (bytes : List ℕ) (empty : Bool) → empty ≡ (length bytes == 0) → empty ≡ true → bytes ≡ []
empty_is [] empty e h = refl
empty_is (x ∷ bytes) empty e h = let zero_long : length (x ∷ bytes) ≡ 0 = (Decides-eqb (length (x ∷ bytes)) 0).0 (sym e ∙ h) in absurd (omega arith)

pub some_are : (bytes : List ℕ) (empty : Bool) → empty ≡ (length bytes == 0) → empty ≡ false → bytes ≢ []
some_are [] empty e h same = absurd (cc)
some_are (x ∷ bytes) empty e h same = absurd (cc)

-- a prefix with a `/` at its front is refused if it ends with one
pub bad_where_ends : (prefix : List ℕ) (starts ends : Bool) → starts ≡ true → starts ≡ starts_with eqb prefix (slash ∷ [])
    → ends ≡ pointwise eqb (slash ∷ []) (drop (length prefix - length (slash ∷ [])) prefix) → prefix ≢ [] → IsTrue ends ↔ IsBadPrefix prefix
bad_where_ends prefix starts ends begins s e not_empty =
    let front = (starts_is Decides-eqb prefix (slash ∷ []) starts s).0 begins in
    let last = ends_is Decides-eqb prefix (slash ∷ []) ends e in (
      λ h. (not_empty, inr (take (length prefix - length (slash ∷ [])) prefix, last.0 h)),
      λ bad. elim bad.1 [ inl other ↦ absurd (other (drop (length (slash ∷ [])) prefix) front) | inr after ↦ last.1 after.0 after.1 ],
    )

-- a prefix that stands among the first stands among all
get_left : {X : Type 0} (xs ys : List X) (k : ℕ) (x : X) → slice_get xs k ≡ Some x → slice_get (xs ++ ys) k ≡ Some x
get_left [] ys k x h = absurd (cc)
get_left (y ∷ xs) ys zero x h = h
get_left (y ∷ xs) ys (suc k) x h = get_left xs ys k x h

get_last : {X : Type 0} (xs : List X) (x : X) → slice_get (xs ++ x ∷ []) (length xs) ≡ Some x
get_last [] x = refl
get_last (y ∷ xs) x = get_last xs x

-- what stands in a list with one more
get_either : {X : Type 0} (xs : List X) (y : X) (k : ℕ) (x : X) → slice_get (xs ++ y ∷ []) k ≡ Some x → (slice_get xs k ≡ Some x) ⊎ ((k ≡ length xs) × (x ≡ y))
get_either [] y zero x h = inr (refl, cc)
get_either [] y (suc k) x h = absurd (cc)
get_either (z ∷ xs) y zero x h = inl h
get_either (z ∷ xs) y (suc k) x h = elim (get_either xs y k x h) [ inl same ↦ inl same | inr last ↦ inr (ap suc last.0, last.1) ]

pub get_below : {X : Type 0} (xs : List X) (k : ℕ) (x : X) → slice_get xs k ≡ Some x → k < length xs
get_below [] k x h = absurd (cc)
get_below (y ∷ xs) zero x h = omega arith
get_below (y ∷ xs) (suc k) x h = let below = get_below xs k x h in omega arith

module _ {A : Type 0} where
  pub prefixes-append : (mounts more : List (Mount A)) → prefixes_of (mounts ++ more) ≡ prefixes_of mounts ++ prefixes_of more
  prefixes-append [] more = refl
  prefixes-append (m ∷ mounts) more = ap (λ l. m.prefix ∷ l) (prefixes-append mounts more)

  pub prefixes-length : (mounts : List (Mount A)) → length (prefixes_of mounts) ≡ length mounts
  prefixes-length [] = refl
  prefixes-length (m ∷ mounts) = ap suc (prefixes-length mounts)

  -- an application stands in the place of its prefix
  pub prefix_of : (mounts : List (Mount A)) (k : ℕ) (mount : Mount A) → slice_get mounts k ≡ Some mount → slice_get (prefixes_of mounts) k ≡ Some mount.prefix
  prefix_of [] k mount h = absurd (cc)
  prefix_of (m ∷ mounts) zero mount h = let same : m ≡ mount = cc in ap (λ (x : Mount A). Some x.prefix) same
  prefix_of (m ∷ mounts) (suc k) mount h = prefix_of mounts k mount h

  pub get_is : (mounts : List (Mount A)) (k : ℕ) (d : Mount A) → k < length mounts → slice_get mounts k ≡ Some (get_or mounts k d)
  get_is [] k d h = absurd (omega arith)
  get_is (m ∷ mounts) zero d h = refl
  get_is (m ∷ mounts) (suc k) d h = get_is mounts k d (omega arith)

  -- one more that is looked at
  pub prefixes_more : (mounts : List (Mount A)) (k : ℕ) (mount : Mount A) → k < length mounts → mount ≡ get_or mounts k mount
      → prefixes_of (take (k + 1) mounts) ≡ prefixes_of (take k mounts) ++ mount.prefix ∷ []
  prefixes_more mounts k mount below is =
      ap prefixes_of (take_more mounts k mount below) ∙ prefixes-append (take k mounts) (get_or mounts k mount ∷ [])
      ∙ ap (λ (m : Mount A). prefixes_of (take k mounts) ++ m.prefix ∷ []) (sym is)

  pub prefixes-take-length : (mounts : List (Mount A)) (k : ℕ) → k ≤ length mounts → length (prefixes_of (take k mounts)) ≡ k
  prefixes-take-length mounts k below = prefixes-length (take k mounts) ∙ omega (arith, length-take-le k mounts)

  -- the one that is looked at has the prefix
  pub mounted_here : (mounts : List (Mount A)) (k : ℕ) (mount : Mount A) (prefix : List ℕ) → k < length mounts → mount ≡ get_or mounts k mount → mount.prefix ≡ prefix
      → IsMounted (prefixes_of mounts) prefix
  mounted_here mounts k mount prefix below is same =
      (k, prefix_of mounts k mount (get_is mounts k mount below ∙ ap (λ (m : Mount A). Some m) (sym is)) ∙ ap (λ p. Some p) same)

  -- or another one
  pub not_mounted_more : (mounts : List (Mount A)) (k : ℕ) (mount : Mount A) (prefix : List ℕ) → k < length mounts → mount ≡ get_or mounts k mount → mount.prefix ≢ prefix
      → ¬ (IsMounted (prefixes_of (take k mounts)) prefix) → ¬ (IsMounted (prefixes_of (take (k + 1) mounts)) prefix)
  not_mounted_more mounts k mount prefix below is other before mounted =
      let there : slice_get (prefixes_of (take k mounts) ++ mount.prefix ∷ []) mounted.0 ≡ Some prefix =
      ap (λ l. slice_get l mounted.0) (sym (prefixes_more mounts k mount below is)) ∙ mounted.1 in
      elim (get_either (prefixes_of (take k mounts)) mount.prefix mounted.0 prefix there) [
        | inl was ↦ before (mounted.0, was)
        | inr last ↦ other (sym last.1)
      ]

-- one more prefix, which stands in no place so far
pub once_more : (prefixes : List (List ℕ)) (prefix : List ℕ) → EachPrefixOnce prefixes → ¬ (IsMounted prefixes prefix) → EachPrefixOnce (prefixes ++ prefix ∷ [])
once_more prefixes prefix once new i j p hi hj =
    elim (get_either prefixes prefix i p hi) [
      | inl li ↦ elim (get_either prefixes prefix j p hj) [
        | inl lj ↦ once i j p li lj
        | inr rj ↦ absurd (new (i, li ∙ ap (λ x. Some x) rj.1))
      ]
      | inr ri ↦ elim (get_either prefixes prefix j p hj) [
        | inl lj ↦ absurd (new (j, lj ∙ ap (λ x. Some x) ri.1))
        | inr rj ↦ ri.0 ∙ sym rj.0
      ]
    ]

pub nothing_once : EachPrefixOnce []
nothing_once i j p hi hj = absurd (cc)

-- two fronts of one list that are as long are equal
fronts_agree : {X : Type 0} (xs ys us vs : List X) → xs ++ us ≡ ys ++ vs → length xs ≡ length ys → xs ≡ ys
fronts_agree [] [] us vs h n = refl
fronts_agree [] (y ∷ ys) us vs h n = absurd (omega arith)
fronts_agree (x ∷ xs) [] us vs h n = absurd (omega arith)
fronts_agree (x ∷ xs) (y ∷ ys) us vs h n =
    let head : x ≡ y = cc in let tails : xs ++ us ≡ ys ++ vs = cc in let rest : xs ≡ ys = fronts_agree xs ys us vs tails (omega arith) in cc

-- a path begins with the prefix that it is under
front_of : (prefix path : List ℕ) → IsUnder prefix path → (rest : List ℕ) × (path ≡ prefix ++ rest)
front_of prefix path (inl same) = ([], same ∙ sym (append-nil prefix))
front_of prefix path (inr after) = (slash ∷ after.0, after.1)

-- A path has one mount at most.
pub one_mount : (prefixes : List (List ℕ)) (path : List ℕ) (one other : ℕ) → EachPrefixOnce prefixes → MountedAt prefixes path one → MountedAt prefixes path other → one ≡ other
one_mount prefixes path one other once x y =
    let longer = x.longest y.prefix (other, y.stands) y.under in
    let shorter = y.longest x.prefix (one, x.stands) x.under in
    let a = front_of x.prefix path x.under in
    let b = front_of y.prefix path y.under in
    let same : x.prefix ≡ y.prefix = fronts_agree x.prefix y.prefix a.0 b.0 (sym a.1 ∙ b.1) (omega arith) in
    once one other y.prefix (x.stands ∙ ap (λ p. Some p) same) y.stands

-- the tests of a path after a prefix
pub not_under : (prefix path : List ℕ) → ((rest : List ℕ) → path ≢ prefix ++ rest) → ¬ (IsUnder prefix path)
not_under prefix path other under = let front = front_of prefix path under in other front.0 front.1

pub under_at_end : (prefix path rest : List ℕ) → path ≡ prefix ++ rest → rest ≡ [] → IsUnder prefix path
under_at_end prefix path rest is empty = inl (is ∙ ap (λ r. prefix ++ r) empty ∙ append-nil prefix)

cancel : {X : Type 0} (xs us vs : List X) → xs ++ us ≡ xs ++ vs → us ≡ vs
cancel [] us vs h = h
cancel (x ∷ xs) us vs h = let tails : xs ++ us ≡ xs ++ vs = cc in cancel xs us vs tails

pub under_after : (prefix path rest : List ℕ) (starts : Bool) → path ≡ prefix ++ rest → rest ≢ [] → starts ≡ starts_with eqb rest (slash ∷ [])
    → IsTrue starts ↔ IsUnder prefix path
under_after prefix path rest starts is more tested =
    let front = starts_is Decides-eqb rest (slash ∷ []) starts tested in (
      λ h. inr (drop (length (slash ∷ [])) rest, is ∙ ap (λ r. prefix ++ r) (front.0 h)),
      λ under. elim under [
        | inl same ↦ absurd (more (cancel prefix rest [] (sym is ∙ same ∙ sym (append-nil prefix))))
        | inr after ↦ front.1 after.0 (cancel prefix rest (slash ∷ after.0) (sym is ∙ after.1))
      ],
    )

-- what the tests of a prefix return
pub good_prefix : (bad : Bool) (bytes prefix : List ℕ) → IsTrue bad ↔ IsBadPrefix bytes → bad ≡ false → bytes ≡ prefix → ¬ (IsBadPrefix prefix)
good_prefix bad bytes prefix tests is same refused =
    let tested = tests.1 (subst IsBadPrefix (sym same) refused) in absurd (cc)

module _ {A : Type 0} where
  pub new_prefix : (taken : Bool) (slice items : List (Mount A)) (bytes prefix : List ℕ) → IsTrue taken ↔ IsMounted (prefixes_of slice) bytes → taken ≡ false
      → slice ≡ items → bytes ≡ prefix → ¬ (IsMounted (prefixes_of items) prefix)
  new_prefix taken slice items bytes prefix tests is mounts same mounted =
      let there : IsMounted (prefixes_of slice) bytes =
      subst (λ (l : List (Mount A)). IsMounted (prefixes_of l) bytes) (sym mounts) (subst (λ (p : List ℕ). IsMounted (prefixes_of items) p) (sym same) mounted) in
      let tested = tests.1 there in absurd (cc)

  -- mounted or refused, each prefix stands once
  pub once_pushed : (items new : List (Mount A)) (pushed : Bool) (mount : Mount A) → new ≡ (if pushed then items ++ mount ∷ [] else items)
      → EachPrefixOnce (prefixes_of items) → ¬ (IsMounted (prefixes_of items) mount.prefix) → EachPrefixOnce (prefixes_of new)
  once_pushed items new true mount is once other =
      subst EachPrefixOnce (sym (ap prefixes_of is ∙ prefixes-append items (mount ∷ []))) (once_more (prefixes_of items) mount.prefix once other)
  once_pushed items new false mount is once other = subst (λ (l : List (Mount A)). EachPrefixOnce (prefixes_of l)) (sym is) once

  pub unmounted : (slice items : List (Mount A)) (local path : List ℕ) → slice ≡ items → local ≡ path → IsUnmounted (prefixes_of slice) local → IsUnmounted (prefixes_of items) path
  unmounted slice items local path mounts same none =
      subst (λ (l : List (Mount A)). IsUnmounted (prefixes_of l) path) mounts (subst (λ (p : List ℕ). IsUnmounted (prefixes_of slice) p) same none)

  -- an application takes the scope
  pub taken_by : (mounts : List (Mount A)) (scope : Scope) (at : ℕ) (mount : Mount A) (P : A → Scope → Type 0) → TakenAt (prefixes_of mounts) scope at
      → at < length mounts → mount ≡ get_or mounts at mount → P mount.app (mounted_scope mount.prefix scope) → TakenBy mounts scope P
  taken_by mounts scope at mount P taken below is holds = record {
    at = at;
    taken = taken;
    mount = mount;
    stands = get_is mounts at mount below ∙ ap (λ (m : Mount A). Some m) (sym is);
    holds = holds;
  }

  pub found_within : (mounts : List (Mount A)) (path : List ℕ) (found : Option ℕ) → IfSome found (λ at. MountedAt (prefixes_of mounts) path at) → IfSome found (λ at. at < length mounts)
  found_within mounts path None h = tt
  found_within mounts path (Some at) h = subst (λ n. at < n) (prefixes-length mounts) (get_below (prefixes_of mounts) at h.prefix h.stands)

pub not_found : (found : Option ℕ) (prefixes : List (List ℕ)) (path root_path p r : List ℕ) → p ≡ path → r ≡ root_path
    → IfNone found (IsUnmounted prefixes (local_path p r)) → IfNone found (IsUnmounted prefixes (local_path path root_path))
not_found (Some at) prefixes path root_path p r x y h = tt
not_found None prefixes path root_path p r x y h =
    subst (λ (l : List ℕ). IsUnmounted prefixes (local_path path l)) y (subst (λ (l : List ℕ). IsUnmounted prefixes (local_path l r)) x h)

-- the longest of no prefixes
pub none_longest : (path : List ℕ) → IsUnmounted [] path
none_longest path prefix mounted under = absurd (cc (mounted.1))

-- and with one more, which the path is not under
pub still_longest : (prefixes : List (List ℕ)) (prefix path : List ℕ) (found : Option Found) → ¬ (IsUnder prefix path) → IsLongest prefixes path found
    → IsLongest (prefixes ++ prefix ∷ []) path found
still_longest prefixes prefix path None other before = λ p mounted under.
    elim (get_either prefixes prefix mounted.0 p mounted.1) [
      | inl was ↦ before p (mounted.0, was) under
      | inr last ↦ other (subst (λ (x : List ℕ). IsUnder x path) last.1 under)
    ]
still_longest prefixes prefix path (Some found) other before = (
  record {
    prefix = before.0.prefix;
    stands = get_left prefixes (prefix ∷ []) found.at before.0.prefix before.0.stands;
    under = before.0.under;
    longest = λ p mounted under. elim (get_either prefixes prefix mounted.0 p mounted.1) [
      | inl was ↦ before.0.longest p (mounted.0, was) under
      | inr last ↦ absurd (other (subst (λ (x : List ℕ). IsUnder x path) last.1 under))
    ];
  },
  before.1,
)

-- or which is no longer
pub not_longer : (prefixes : List (List ℕ)) (prefix path : List ℕ) (found : Found) → length prefix ≤ found.length → IsLongest prefixes path (Some found)
    → IsLongest (prefixes ++ prefix ∷ []) path (Some found)
not_longer prefixes prefix path found short before = (
  record {
    prefix = before.0.prefix;
    stands = get_left prefixes (prefix ∷ []) found.at before.0.prefix before.0.stands;
    under = before.0.under;
    longest = λ p mounted under. elim (get_either prefixes prefix mounted.0 p mounted.1) [
      | inl was ↦ before.0.longest p (mounted.0, was) under
      | inr last ↦ subst (λ n. length p ≤ n) (sym before.1) (subst (λ (x : List ℕ). length x ≤ found.length) (sym last.1) short)
    ];
  },
  before.1,
)

shorter_than : (a b c d : ℕ) → a ≤ b → b ≡ c → c < d → a ≤ d
shorter_than a b c d x y z = omega arith

-- the last prefix is the longest, if those before it are no longer
last_longest : (prefixes : List (List ℕ)) (prefix path : List ℕ) (at : ℕ) → length prefixes ≡ at → IsUnder prefix path
    → ((p : List ℕ) → IsMounted prefixes p → IsUnder p path → length p ≤ length prefix)
    → IsLongest (prefixes ++ prefix ∷ []) path (Some (record { at = at; length = length prefix }))
last_longest prefixes prefix path at is under shorter = (
  record {
    prefix = prefix;
    stands = subst (λ n. slice_get (prefixes ++ prefix ∷ []) n ≡ Some prefix) is (get_last prefixes prefix);
    under = under;
    longest = λ p mounted other. elim (get_either prefixes prefix mounted.0 p mounted.1) [
      | inl was ↦ shorter p (mounted.0, was) other
      | inr last ↦ subst (λ (x : List ℕ). length x ≤ length prefix) (sym last.1) (omega arith)
    ];
  },
  refl,
)

-- the first that the path is under
pub first_found : (prefixes : List (List ℕ)) (prefix path : List ℕ) (at : ℕ) → length prefixes ≡ at → IsUnder prefix path → IsLongest prefixes path None
    → IsLongest (prefixes ++ prefix ∷ []) path (Some (record { at = at; length = length prefix }))
first_found prefixes prefix path at is under before = last_longest prefixes prefix path at is under (λ p mounted other. absurd (before p mounted other))

-- a longer one
pub longer_found : (prefixes : List (List ℕ)) (prefix path : List ℕ) (at : ℕ) (found : Found) → length prefixes ≡ at → IsUnder prefix path → found.length < length prefix
    → IsLongest prefixes path (Some found) → IsLongest (prefixes ++ prefix ∷ []) path (Some (record { at = at; length = length prefix }))
longer_found prefixes prefix path at found is under long before =
    last_longest prefixes prefix path at is under (λ p mounted other. shorter_than (length p) (length before.0.prefix) found.length (length prefix) (before.0.longest p mounted other) before.1 long)

-- one more mount was looked at
pub longest_more : {A : Type 0} (mounts : List (Mount A)) (k : ℕ) (mount : Mount A) (bytes path : List ℕ) (found new : Option Found) → k < length mounts
    → mount ≡ get_or mounts k mount → bytes ≡ mount.prefix
    → ((prefixes : List (List ℕ)) → length prefixes ≡ k → IsLongest prefixes path found → IsLongest (prefixes ++ bytes ∷ []) path new)
    → IsLongest (prefixes_of (take k mounts)) path found → IsLongest (prefixes_of (take (k + 1) mounts)) path new
longest_more mounts k mount bytes path found new below is same step before =
    subst (λ (l : List (List ℕ)). IsLongest l path new) (sym (prefixes_more mounts k mount below is))
    (subst (λ (b : List ℕ). IsLongest (prefixes_of (take k mounts) ++ b ∷ []) path new) same
    (step (prefixes_of (take k mounts)) (prefixes-take-length mounts k (omega arith)) before))
