-- Each step of a ticketer keeps the rule of its quota.
use Rattle.std.proofs.Common.{◌≡◌, ◌≢◌, ℕ, zero, suc, ◌+◌, ◌-◌, ◌%◌, ◌^◌, ◌<◌, ◌≤◌, Bool, true, false, eqb, List, [], ◌∷◌, ◌++◌, length, get_or, set, sym, refl, ap, ◌∙◌, subst, arith, length-set, eq-eqb, ne_eqb, ⊎_elim}
use Rattle.std.proofs.lemmas.List.{get_or-set_same, get_or-set_other}
use mathlib.Core.Logic.{dite}
use mathlib.Core.Option.{none, some, some-injective, some-ne-none}
use native.Mathlib.Decide.{ℕ_discrete}
use lib.ListN.{get_elem?}
use prog.Atomic.{either}
use Rattle.atomic_table.specs.Table.{State, Me, step, keeps, stepped, Allows, Enters, Joins}
use Rattle.atomic_table.proofs.Lists.{at_set, at_snoc}
use Rattle.asgi_reactor.specs.declared.quota.Tally.{Tally}
use Rattle.asgi_reactor.specs.Tickets.{IsFair, tally, total}
use Rattle.asgi_reactor.specs.private.Steps.{enters, takes, gives_back, spends, looks, settles}

abbrev M : Type 0
M = Me (Unit {0}) Tally

abbrev St : Type 0
St = State (Unit {0}) Tally

-- the totals of all once one has changed, and once one has come
total_set : (f : Tally → ℕ) (l : List Tally) (i : ℕ) (v w : Tally) → get_elem? l i ≡ some v → total f (set l i w) + f v ≡ total f l + f w
total_set f [] i v w at = absurd (some-ne-none v (sym at))
total_set f (x ∷ xs) zero v w at = let same : f x ≡ f v = ap f (some-injective x v at) in omega arith
total_set f (x ∷ xs) (suc i) v w at = let more = total_set f xs i v w at in omega arith

total_snoc : (f : Tally → ℕ) (l : List Tally) (w : Tally) → total f (l ++ w ∷ []) ≡ total f l + f w
total_snoc f [] w = omega arith
total_snoc f (x ∷ xs) w = let more = total_snoc f xs w in omega arith

abbrev held : List Tally → ℕ
held = total (λ v. v.held)

abbrev spent : List Tally → ℕ
spent = total (λ v. v.spent)

-- each of those that are over holds
abbrev Over : Type 0 → List Tally → Type 0
Over holds views = (i : ℕ) (v : Tally) → get_elem? views i ≡ some v → v.over ≡ true → holds

over_set : (holds : Type 0) (views : List Tally) (id : ℕ) (w : Tally) → (w.over ≡ true → holds) → Over holds views → Over holds (set views id w)
over_set holds views id w mine all i v at is = ⊎_elim
    (λ (x : (i ≡ id) × (w ≡ v)). mine (ap (λ (t : Tally). t.over) x.1 ∙ is))
    (λ (x : (i ≢ id) × (get_elem? views i ≡ some v)). all i v x.1 is) (at_set views id i w v at)

-- the rule, by the two words
fair_by : (count free left : ℕ) (s : St) → IsFair count s → (views : List Tally) → free + (held views + spent views) ≡ count → left + spent views ≡ count
    → Over (left ≡ 0) views
    → (words : List ℕ) → length words ≡ 2 → get_or words 0 0 ≡ free → get_or words 1 0 ≡ left → IsFair count (record { words = words; homes = s.homes; views = views })
fair_by count free left s fair views is_free is_left over words two first second = record {
  fits = fair.fits;
  two = two;
  free = omega (arith, is_free, first);
  left = omega (arith, is_left, second);
  over = λ i v at is. second ∙ over i v at is;
}

-- it is kept if the first word becomes n,
free_is : (count n id : ℕ) (s : St) → IsFair count s → (me : M) (w : Tally) → n + (held (set s.views id w) + spent (set s.views id w)) ≡ count → spent (set s.views id w) ≡ spent s.views
    → (w.over ≡ true → get_or s.words 1 0 ≡ 0) → IsFair count (stepped s 0 n id me.1 w keeps)
free_is count n id s fair me w is same over =
    let two = fair.two in
    let left = fair.left in
    fair_by count n (get_or s.words 1 0) s fair (set s.views id w) is (omega (arith, same, left)) (over_set (get_or s.words 1 0 ≡ 0) s.views id w over fair.over)
    (set s.words 0 n) (length-set s.words 0 n ∙ two) (get_or-set_same s.words 0 n 0 (omega arith)) (get_or-set_other s.words 0 1 n 0 (omega arith))

-- and if the second does
left_is : (count n id : ℕ) (s : St) → IsFair count s → (me : M) (w : Tally) → n + spent (set s.views id w) ≡ count → held (set s.views id w) + spent (set s.views id w) ≡ held s.views + spent s.views
    → (w.over ≡ true → n ≡ 0) → Over (n ≡ 0) s.views → IsFair count (stepped s 1 n id me.1 w keeps)
left_is count n id s fair me w is same over all =
    let two = fair.two in
    let free = fair.free in
    fair_by count (get_or s.words 0 0) n s fair (set s.views id w) (omega (arith, same, free)) is (over_set (n ≡ 0) s.views id w over all)
    (set s.words 1 n) (length-set s.words 1 n ∙ two) (get_or-set_other s.words 1 0 n 0 (omega arith)) (get_or-set_same s.words 1 n 0 (omega arith))

-- a newcomer has taken nothing
pub comes : (count slots : ℕ) → Enters (IsFair count) slots 0 (λ n w. enters (step slots 0 0 0 none) (tally 0 0 false, []) n (w, []))
comes count slots s fair _ _ =
    let new : Tally = tally 0 0 false in
    let h = total_snoc (λ v. v.held) s.views new in
    let p = total_snoc (λ v. v.spent) s.views new in
    let free = fair.free in
    let left = fair.left in (
      new,
      record {
        fits = fair.fits;
        two = fair.two;
        free = omega arith;
        left = omega arith;
        over = λ i v at is. ⊎_elim (λ was. fair.over i v was is) (λ (same : new ≡ v). cc) (at_snoc s.views new v i at);
      },
      refl,
    )

-- one of those that are free is taken
pub taken : (count slots id : ℕ) (me : M) (seen : ℕ) → seen ≢ 0 → Allows (IsFair count) slots id me 0 (λ n. either (eqb n seen) (seen - 1) n) (takes (step slots 0 seen (seen - 1) none) me)
taken count slots id me seen not_none s fair _ at _ =
    let n : ℕ = get_or s.words 0 0 in
    let w : Tally = tally (me.0.held + 1) me.0.spent me.0.over in
    let h = total_set (λ v. v.held) s.views id me.0 w at in
    let p = total_set (λ v. v.spent) s.views id me.0 w at in
    let h' = total_set (λ v. v.held) s.views id me.0 me.0 at in
    let p' = total_set (λ v. v.spent) s.views id me.0 me.0 at in
    let free = fair.free in
    let over = fair.over id me.0 at in
    dite (ℕ_discrete n seen)
    (λ hit. (
      w,
      keeps,
      tt,
      subst (λ b. IsFair count (stepped s 0 (either b (seen - 1) n) id me.1 w keeps)) (sym (eq-eqb n seen hit)) (free_is count (seen - 1) id s fair me w (omega arith) (omega arith) over),
      (refl, (λ _. refl), λ not. absurd (not hit)),
    ))
    (λ miss. (
      me.0,
      keeps,
      tt,
      subst (λ b. IsFair count (stepped s 0 (either b (seen - 1) n) id me.1 me.0 keeps)) (sym (ne_eqb n seen miss)) (free_is count n id s fair me me.0 (omega arith) (omega arith) over),
      (refl, (λ hit. absurd (miss hit)), λ _. refl),
    ))

-- one that was taken is free again
pub given_back : (count slots id : ℕ) (me : M) → 0 < me.0.held → Allows (IsFair count) slots id me 0 (λ n. (n + 1) % 2 ^ 64) (gives_back (step slots 0 1 0 none) me)
given_back count slots id me any s fair _ at _ =
    let n : ℕ = get_or s.words 0 0 in
    let w : Tally = tally (me.0.held - 1) me.0.spent me.0.over in
    let h = total_set (λ v. v.held) s.views id me.0 w at in
    let p = total_set (λ v. v.spent) s.views id me.0 w at in
    let free = fair.free in
    let fits : count < 18446744073709551616 = fair.fits in
    let more : n + 1 ≡ (n + 1) % 18446744073709551616 = omega arith in (
      w,
      keeps,
      tt,
      subst (λ k. IsFair count (stepped s 0 k id me.1 w keeps)) more (free_is count (n + 1) id s fair me w (omega arith) (omega arith) (fair.over id me.0 at)),
      (refl, (omega arith), refl, refl),
    )

-- one that was taken is spent
pub spent_one : (count slots id : ℕ) (me : M) → 0 < me.0.held → Allows (IsFair count) slots id me 1 (λ n. (n + (2 ^ 64 - 1)) % 2 ^ 64) (spends (step slots 1 1 0 none) me)
spent_one count slots id me any s fair _ at small =
    let n : ℕ = get_or s.words 1 0 in
    let w : Tally = tally (me.0.held - 1) (me.0.spent + 1) me.0.over in
    let h = total_set (λ v. v.held) s.views id me.0 w at in
    let p = total_set (λ v. v.spent) s.views id me.0 w at in
    let free = fair.free in
    let left = fair.left in
    let fits : n < 18446744073709551616 = small in
    let less : n - 1 ≡ (n + 18446744073709551615) % 18446744073709551616 = omega arith in
    let all : Over (n - 1 ≡ 0) s.views = λ i v there is. let none = fair.over i v there is in omega arith in (
      w,
      keeps,
      tt,
      subst (λ k. IsFair count (stepped s 1 k id me.1 w keeps)) less (left_is count (n - 1) id s fair me w (omega arith) (omega arith) (all id me.0 at) all),
      (refl, (omega arith), refl, refl),
    )

-- whether one is left is looked at
pub looked : (count slots id : ℕ) (me : M) → Allows (IsFair count) slots id me 1 (λ n. n) (looks (step slots 1 0 0 none) me)
looked count slots id me s fair _ at _ =
    let n : ℕ = get_or s.words 1 0 in
    let w : Tally = tally me.0.held me.0.spent true in
    let h = total_set (λ v. v.held) s.views id me.0 w at in
    let p = total_set (λ v. v.spent) s.views id me.0 w at in
    let h' = total_set (λ v. v.held) s.views id me.0 me.0 at in
    let p' = total_set (λ v. v.spent) s.views id me.0 me.0 at in
    let left = fair.left in
    dite (ℕ_discrete n 0)
    (λ over. (w, keeps, tt, left_is count n id s fair me w (omega arith) (omega arith) (λ _. over) (λ i v there is. over), (refl, refl, refl, (λ _. refl), λ not. absurd (not over))))
    (λ more. (
      me.0,
      keeps,
      tt,
      left_is count n id s fair me me.0 (omega arith) (omega arith) (fair.over id me.0 at) fair.over,
      (refl, refl, refl, (λ none. absurd (more none)), λ _. refl),
    ))

-- what two have taken and spent is one's
pub joined : (count id : ℕ) (v : Tally) (other : ℕ) (w : Tally) → Joins (IsFair count) id v other w (tally (v.held + w.held) (v.spent + w.spent) v.over) (tally 0 0 false)
joined count id v other w s fair at apart there =
    let both : Tally = tally (v.held + w.held) (v.spent + w.spent) v.over in
    let done : Tally = tally 0 0 false in
    let h = total_set (λ v. v.held) s.views id v both at in
    let p = total_set (λ v. v.spent) s.views id v both at in
    let h' = total_set (λ v. v.held) (set s.views id both) other w done there in
    let p' = total_set (λ v. v.spent) (set s.views id both) other w done there in
    let free = fair.free in
    let left = fair.left in
    record {
      fits = fair.fits;
      two = fair.two;
      free = omega arith;
      left = omega arith;
      over = over_set (get_or s.words 1 0 ≡ 0) (set s.views id both) other done (λ (no : false ≡ true). cc) (over_set (get_or s.words 1 0 ≡ 0) s.views id both (fair.over id v at) fair.over);
    }

-- no more were spent than there are
pub few : (count slots id : ℕ) (me : M) → Allows (IsFair count) slots id me 0 (λ n. either (eqb n count) count n) (settles (step slots 0 count count none) me)
few count slots id me s fair _ at _ =
    let n : ℕ = get_or s.words 0 0 in
    let h = total_set (λ v. v.held) s.views id me.0 me.0 at in
    let p = total_set (λ v. v.spent) s.views id me.0 me.0 at in
    let none = total_set (λ v. v.spent) s.views id me.0 (tally 0 0 false) at in
    let free = fair.free in
    let left = fair.left in
    let same : n ≡ either (eqb n count) count n =
    dite (ℕ_discrete n count) (λ hit. subst (λ b. n ≡ either b count n) (sym (eq-eqb n count hit)) hit) (λ miss. subst (λ b. n ≡ either b count n) (sym (ne_eqb n count miss)) refl) in (
      me.0,
      keeps,
      tt,
      subst (λ k. IsFair count (stepped s 0 k id me.1 me.0 keeps)) same (free_is count n id s fair me me.0 (omega arith) (omega arith) (fair.over id me.0 at)),
      (refl, (omega arith)),
    )
