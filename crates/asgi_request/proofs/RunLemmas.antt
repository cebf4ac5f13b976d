-- The run at the front of some bytes.
use Rattle.std.proofs.Common.{◌≡◌, ℕ, Bool, true, false, List, [], ◌∷◌, ◌++◌, refl, ap}
use Rattle.std.specs.Prelude.{if◌then◌else◌}
use Rattle.std.proofs.lemmas.List.Elements.{All-cons, All-nil, All-head, All-tail}
use Rattle.httparse.specs.Grammar.{AllPass}
use Rattle.httparse.specs.Pieces.{Stops}
use Rattle.asgi_request.specs.BodyTexts.{run_of, after_run}

pub run_splits : (test : ℕ → Bool) (s : List ℕ) → run_of test s ++ after_run test s ≡ s
run_splits test [] = refl
run_splits test (b ∷ s) = at (test b) (run_splits test s)
  where
    at : (t : Bool) → run_of test s ++ after_run test s ≡ s → (if t then b ∷ run_of test s else []) ++ (if t then after_run test s else b ∷ s) ≡ b ∷ s
    at true e = ap (λ (l : List ℕ). b ∷ l) e
    at false e = refl

pub run_passes : (test : ℕ → Bool) (s : List ℕ) → AllPass test (run_of test s)
run_passes test [] = All-nil (λ v. test v ≡ true)
run_passes test (b ∷ s) = at (test b) refl (run_passes test s)
  where
    at : (t : Bool) → test b ≡ t → AllPass test (run_of test s) → AllPass test (if t then b ∷ run_of test s else [])
    at true e all = All-cons (λ v. test v ≡ true) b (run_of test s) e all
    at false e all = All-nil (λ v. test v ≡ true)

-- where the run stops it is found
pub run_done : (test : ℕ → Bool) (a r : List ℕ) → AllPass test a → Stops test r → (run_of test (a ++ r) ≡ a) × (after_run test (a ++ r) ≡ r)
run_done test [] [] all s = absurd s
run_done test [] (b ∷ r) all s = (rw s refl, rw s refl)
run_done test (b ∷ a) r all s =
    let on = run_done test a r (All-tail (λ v. test v ≡ true) b a all) s in
    let h : test b ≡ true = All-head (λ v. test v ≡ true) b a all in
    (rw h (ap (λ (l : List ℕ). b ∷ l) on.0), rw h on.1)
