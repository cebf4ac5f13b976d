-- What is written about an outcome, by its status.
use Rattle.std.proofs.Common.{◌≡◌, ℕ, Bool, true, false, List, ◌++◌, Some, None, codes, subst, sym, refl}
use Rattle.std.specs.Prelude.{if◌then◌else◌}
use Rattle.asgi_conversation.specs.declared.report.Outcome.{Outcome}
use Rattle.asgi_conversation.specs.OutcomeClasses.{is_cut}
use Rattle.asgi_command.specs.declared.ending.Ending.{Ending}
use Rattle.asgi_command.specs.declared.ending.Ending.TheVariants.{ShutdownFailed}
use Rattle.asgi_command.specs.Command.{exit_status}
use Rattle.asgi_command.specs.Serving.{of_ending}
use Rattle.asgi_command.specs.Telling.{Writer, Tells, TellsOf, of_outcome, stopped}

-- another status than 0: the connection stopped, and this was written
pub stopped_is_told : (o : Outcome) (text : List ℕ) (old new : Writer) → ¬ (exit_status o ≡ 0) → text ≡ stopped o → Tells text old new
    → TellsOf (of_outcome o) old new
stopped_is_told o text old new fails is told = by (is_cut o) fails
  where
    by : (b : Bool) → ¬ (◌≡◌ {A = ℕ} (if b then 5 else 0) 0) → TellsOf (if b then Some (stopped o) else None) old new
    by true fails = subst (λ t. Tells t old new) is told
    by false fails = absurd (fails refl)

-- status 0: nothing is written
pub nothing_is_told : (o : Outcome) (old : Writer) → exit_status o ≡ 0 → TellsOf (of_outcome o) old old
nothing_is_told o old well = by (is_cut o) well
  where
    by : (b : Bool) → ◌≡◌ {A = ℕ} (if b then 5 else 0) 0 → TellsOf (if b then Some (stopped o) else None) old old
    by true well = cc
    by false well = refl

-- the text of a stop that failed
pub failed_stop_is_told : (e : Ending) (message text : List ℕ) (old new : Writer) → e ≡ ShutdownFailed message → text ≡ message
    → Tells (codes "shutdown failed: " ++ text ++ codes "\n") old new → TellsOf (of_ending e) old new
failed_stop_is_told e message text old new same is told =
    subst (λ (x : Ending). TellsOf (of_ending x) old new) (sym same) (subst (λ t. Tells (codes "shutdown failed: " ++ t ++ codes "\n") old new) is told)
