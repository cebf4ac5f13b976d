-- Answers of accept that were passed over, one after another, and then the one that counts.
use Rattle.std.proofs.Common.{◌≡◌, ◌≤◌, ◌⊎◌, ◌+◌, ◌∙◌, inl, inr, ap, refl, sym, arith, ℕ, List, [], ◌∷◌, ◌++◌, length, All, Result, Ok, Err, append-nil, append_assoc}
use Rattle.std.specs.Prelude.{IfErr}
use Rattle.std.proofs.lemmas.List.{length-append}
use Rattle.std.proofs.lemmas.List.Elements.{All-nil, All-push, All-append}
use Rattle.std.specs.declared.io.Error.{Error}
use Rattle.asgi_server.specs.declared.accepting.Fault.{Fault}
use Rattle.asgi_server.specs.declared.accepting.Fault.TheVariants.{Passing, Short, Lasting}
use Rattle.asgi_server.specs.Arrivals.{AcceptsUntil, Accepts, IsPassedOver, fault_in}

-- at least n answers were passed over since
pub record HasPassed {A : Type 0} (old now : List (Result A Error)) (n : ℕ) : Type 0 where
  pub before : List (Result A Error)
  pub grew : now ≡ old ++ before
  pub passed : All IsPassedOver before
  pub many : n ≤ length before

pub none_passed : {A : Type 0} (old : List (Result A Error)) → HasPassed old old 0
none_passed old = record { before = []; grew = sym (append-nil old); passed = All-nil IsPassedOver; many = omega arith }

-- an error that does not last, after others that were passed over
pub more_passed : {A : Type 0} (old now new between : List (Result A Error)) (e : Error) (n : ℕ) → HasPassed old now n
    → new ≡ now ++ (between ++ Err e ∷ []) → All IsPassedOver between → ¬ (fault_in e ≡ Lasting) → HasPassed old new (n + 1)
more_passed {A} old now new between e n p is all passes =
    let last : List (Result A Error) = Err e ∷ [] in
    let more = between ++ last in
    record {
      before = p.before ++ more;
      grew = is ∙ (ap (λ l. l ++ more) p.grew ∙ append_assoc old p.before more);
      passed = All-append IsPassedOver p.before more p.passed (All-push IsPassedOver between (Err e) all passes);
      many = let one = length-append p.before more in let two = length-append between last in let many = p.many in omega arith;
    }

pub one_passed : {A : Type 0} (old now new : List (Result A Error)) (e : Error) (n : ℕ) → HasPassed old now n
    → new ≡ now ++ Err e ∷ [] → ¬ (fault_in e ≡ Lasting) → HasPassed old new (n + 1)
one_passed old now new e n p is passes = more_passed old now new [] e n p is (All-nil IsPassedOver) passes

-- the answer that counts, after others that were passed over
pub counted : {A : Type 0} (counts : Error → Type 0) (old now new between : List (Result A Error)) (result : Result A Error) (n : ℕ) → HasPassed old now n
    → new ≡ now ++ (between ++ result ∷ []) → All IsPassedOver between → IfErr result (λ e. counts e ⊎ (1000 ≤ n + length between)) → AcceptsUntil counts old new result
counted {A} counts old now new between result n p is all by = record {
  before = p.before ++ between;
  answered = is ∙ (ap (λ l. l ++ (between ++ result ∷ [])) p.grew ∙ (append_assoc old p.before (between ++ result ∷ []) ∙ ap (λ l. old ++ l) (sym (append_assoc p.before between (result ∷ [])))));
  passed_over = All-append IsPassedOver p.before between p.passed all;
  counted = enough result by;
}
  where
    enough : (r : Result A Error) → IfErr r (λ e. counts e ⊎ (1000 ≤ n + length between)) → IfErr r (λ e. counts e ⊎ (1000 ≤ length (p.before ++ between)))
    enough (Ok a) h = tt
    enough (Err e) (inl c) = inl c
    enough (Err e) (inr m) = inr (let one = length-append p.before between in let many = p.many in omega arith)

pub counted_now : {A : Type 0} (counts : Error → Type 0) (old now new : List (Result A Error)) (result : Result A Error) (n : ℕ) → HasPassed old now n
    → new ≡ now ++ result ∷ [] → IfErr result (λ e. counts e) → AcceptsUntil counts old new result
counted_now {A} counts old now new result n p is by = counted counts old now new [] result n p is (All-nil IsPassedOver) (as_it_is result by)
  where
    as_it_is : (r : Result A Error) → IfErr r (λ e. counts e) → IfErr r (λ e. counts e ⊎ (1000 ≤ n + 0))
    as_it_is (Ok a) h = tt
    as_it_is (Err e) h = inl h

-- any answer counts after a thousand
pub counted_last : {A : Type 0} (counts : Error → Type 0) (old now new : List (Result A Error)) (result : Result A Error) → HasPassed old now 1000
    → new ≡ now ++ result ∷ [] → AcceptsUntil counts old new result
counted_last {A} counts old now new result p is = counted counts old now new [] result 1000 p is (All-nil IsPassedOver) (many result)
  where
    many : (r : Result A Error) → IfErr r (λ e. counts e ⊎ (1000 ≤ 1000 + 0))
    many (Ok a) = tt
    many (Err e) = inr (omega arith)

-- ---- the same of an answer for which wants were waited out

pub accepted_then : {A : Type 0} (counts counted_by : Error → Type 0) (old now new : List (Result A Error)) (accepted : A) (n : ℕ) → HasPassed old now n
    → AcceptsUntil counts now new (Ok accepted) → AcceptsUntil counted_by old new (Ok accepted)
accepted_then counts counted_by old now new accepted n p x = counted counted_by old now new x.before (Ok accepted) n p x.answered x.passed_over tt

-- it is neither a want nor of one connection
lasts : (e : Error) → ¬ (fault_in e ≡ Short) → ¬ (fault_in e ≡ Passing) → fault_in e ≡ Lasting
lasts e short passing = by (fault_in e) short passing
  where
    by : (f : Fault) → ¬ (f ≡ Short) → ¬ (f ≡ Passing) → f ≡ Lasting
    by Passing short passing = absurd (passing refl)
    by Short short passing = absurd (short refl)
    by Lasting short passing = refl

pub failed_then : {A : Type 0} (old now new : List (Result A Error)) (e : Error) (n : ℕ) → HasPassed old now n
    → AcceptsUntil (λ e. ¬ (fault_in e ≡ Short)) now new (Err e) → ¬ (fault_in e ≡ Passing) → Accepts old new (Err e)
failed_then old now new e n p x passing =
    counted (λ e. fault_in e ≡ Lasting) old now new x.before (Err e) n p x.answered x.passed_over (by x.counted)
  where
    by : (¬ (fault_in e ≡ Short)) ⊎ (1000 ≤ length x.before) → (fault_in e ≡ Lasting) ⊎ (1000 ≤ n + length x.before)
    by (inl short) = inl (lasts e short passing)
    by (inr many) = inr (omega (arith, many))

pub lost_then : {A : Type 0} (old now new : List (Result A Error)) (e : Error) (n : ℕ) → HasPassed old now n
    → AcceptsUntil (λ e. ¬ (fault_in e ≡ Short)) now new (Err e) → fault_in e ≡ Passing → HasPassed old new (n + 1)
lost_then old now new e n p x passing = more_passed old now new x.before e n p x.answered x.passed_over (λ lasting. never (sym passing ∙ lasting))
  where
    never : ¬ (Passing ≡ Lasting)
    never same = cc
