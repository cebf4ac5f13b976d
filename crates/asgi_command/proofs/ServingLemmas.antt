-- One connection was served, with a pause that begins at none and a state that is empty.
use Rattle.std.proofs.Common.{◌≡◌, ◌⊎◌, ◌∙◌, ◌++◌, ◌∷◌, ap, ap₂, codes, inr, Option, ℕ, Bool, List, [], None, subst, sym}
use Rattle.asgi_types.specs.declared.limits.Limits.{Limits}
use Rattle.asgi_types.specs.declared.state.StateValue.{StateValue}
use Rattle.asgi_types.specs.Ranges.{AreLimits}
use Rattle.asgi_conversation.specs.declared.report.Report.{Report}
use Rattle.asgi_ws.specs.Lines.{LineState}
use Rattle.asgi_conn.specs.Serving.{Serves}
use Rattle.asgi_apps.specs.declared.mounting.Mount.{Mount}
use Rattle.asgi_apps.specs.declared.root_path.RootPath.{RootPath}
use Rattle.asgi_apps.specs.Answers.{Answers, root_path_answer}
use Rattle.asgi_apps.specs.Mounts.{MountsAnswer}
use Rattle.asgi_apps.specs.Promises.{Promise}
use Rattle.asgi_server.specs.Connections.{Given}
use Rattle.asgi_command.proofs.WordLemmas.{one_serving}
use Rattle.asgi_crew.specs.declared.workers.Workers.{Workers}
use Rattle.asgi_command.specs.declared.words.App.{App}
use Rattle.asgi_command.specs.declared.words.App.TheVariants as app
use Rattle.asgi_command.specs.declared.words.Command.{Command}
use Rattle.asgi_command.specs.declared.words.Command.TheVariants.{Serve}
use Rattle.asgi_command.specs.Words.{Asks, IsServing}
use Rattle.asgi_command.specs.Serving.{Around, around, ServesOn}
use Rattle.asgi_command.specs.Telling.{Writer, Tells, device_fault}
use Rattle.asgi_command.specs.Command.{Streams, ServesWhole, ServesOnce, ServesPort, BeginsNone, promise, two_mounts}

pub served_whole : (answers : Promise) (limits : Limits) (state : List (List ℕ × StateValue)) (old new : LineState) (paused pauses : ℕ) (report : Report)
    → AreLimits limits 16384 64 1048576 16384 16 30000 1099511627776 → state ≡ [] → paused ≡ 0
    → Serves answers limits None None state old new paused pauses report → ServesWhole answers old new report
served_whole answers limits state old new paused pauses report usual empty no_pause x =
    let S : List (List ℕ × StateValue) → Type 0 = λ s. Serves answers limits None None s old new paused pauses report in
    let P : ℕ → Type 0 = λ k. Serves answers limits None None [] old new k pauses report in
    record { limits = limits; usual = usual; pauses = pauses; serves = subst P no_pause (subst S empty x) }

-- what is served by an application is served by the one of this name
pub as_named : (a b : App) (before after : Streams) (status : ℕ) → a ≡ b → ServesOnce (promise b) before after status ⊎ BeginsNone before after status
    → ServesOnce (promise a) before after status ⊎ BeginsNone before after status
as_named a b before after status same served = subst (λ x. ServesOnce (promise x) before after status ⊎ BeginsNone before after status) (sym same) served

pub port_as_named : {L : Type 0} (line_state : L → LineState) (a b : App) (limits : Limits) (workers : ℕ) (has_failed : Bool) (old new : Around L)
    (errors_old errors_new : Writer) (status : ℕ) → AreLimits limits 16384 64 1048576 16384 16 30000 1099511627776 → a ≡ b
    → ServesOn line_state (promise b) limits workers has_failed old new errors_old errors_new status
    → ServesPort line_state (promise a) workers has_failed old new errors_old errors_new status
port_as_named line_state a b limits workers has_failed old new errors_old errors_new status usual same serves =
    let P : App → Type 0 = λ x. ServesOn line_state (promise x) limits workers has_failed old new errors_old errors_new status in
    record { limits = limits; usual = usual; serves = subst P (sym same) serves }

-- what the listener was asked for, by other names
pub asked_for : (before told now : List (ℕ × ℕ)) (p n q m : ℕ) → now ≡ told → told ≡ before ++ (q, m) ∷ [] → p ≡ q → n ≡ m → now ≡ before ++ (p, n) ∷ []
asked_for before told now p n q m kept is port count = kept ∙ (is ∙ ap₂ (λ (a b : ℕ). before ++ (a, b) ∷ []) (sym port) (sym count))

-- the promise of applications under these prefixes
abbrev mounted : List (Mount RootPath) → Promise
mounted mounts = MountsAnswer (λ _ taken. Answers (root_path_answer taken)) mounts

abbrev mount_at : List ℕ → Mount RootPath
mount_at prefix = record { prefix = prefix; app = record {} }

-- two applications were mounted, one after the other
pub two_by : (none one two : List (Mount RootPath)) (p q : List ℕ) → none ≡ [] → one ≡ none ++ record { prefix = p; app = record {} } ∷ []
    → two ≡ one ++ record { prefix = q; app = record {} } ∷ [] → p ≡ codes "/a" → q ≡ codes "/a/b" → two ≡ two_mounts
two_by none one two p q empty first second is other =
    second ∙ ap (λ l. l ++ mount_at q ∷ []) (first ∙ ap (λ l. l ++ mount_at p ∷ []) empty) ∙ ap₂ (λ x y. mount_at x ∷ mount_at y ∷ []) is other

pub once_mounted : (a : App) (mounts : List (Mount RootPath)) (before after : Streams) (status : ℕ) → a ≡ app.Mounts → mounts ≡ two_mounts
    → ServesOnce (mounted mounts) before after status ⊎ BeginsNone before after status → ServesOnce (promise a) before after status ⊎ BeginsNone before after status
once_mounted a mounts before after status same is served =
    as_named a app.Mounts before after status same (subst (λ m. ServesOnce (mounted m) before after status ⊎ BeginsNone before after status) is served)

module _ {L : Type 0} (line_state : L → LineState) (limits : Limits) (workers : ℕ) (has_failed : Bool) (old new : Around L)
    (errors_old errors_new : Writer) (status : ℕ) where
  pub port_mounted : (a : App) (mounts : List (Mount RootPath)) → AreLimits limits 16384 64 1048576 16384 16 30000 1099511627776 → a ≡ app.Mounts → mounts ≡ two_mounts
      → ServesOn line_state (mounted mounts) limits workers has_failed old new errors_old errors_new status
      → ServesPort line_state (promise a) workers has_failed old new errors_old errors_new status
  port_mounted a mounts usual same is serves =
      port_as_named line_state a app.Mounts limits workers has_failed old new errors_old errors_new status usual same
      (subst (λ m. ServesOn line_state (mounted m) limits workers has_failed old new errors_old errors_new status) is serves)

  -- what is to be served is not available, and the listener was not asked
  pub port_unserved : (answers : Promise) → AreLimits limits 16384 64 1048576 16384 16 30000 1099511627776 → new ≡ old → Tells device_fault errors_old errors_new → status ≡ 5
      → ServesPort line_state answers workers has_failed old new errors_old errors_new status
  port_unserved answers usual kept told is = record { limits = limits; usual = usual; serves = inr (kept, told, is) }

-- what was served by the application and the workers that the words name, once the port of the listener was set
pub port_asked : {L : Type 0} (line_state : L → LineState) (words : List (List ℕ)) (a b : App) (port count n : ℕ) (w : Workers) (has_failed : Bool)
    (asked told : List (Option (Given L))) (output : Writer) (new : Around L) (errors_old errors_new : Writer) (status : ℕ)
    (found : Command) → IsServing words a n → Asks words found → found ≡ Serve port count b w → told ≡ asked
    → ServesPort line_state (promise b) w.count has_failed (around told output) new errors_old errors_new status
    → ServesPort line_state (promise a) n has_failed (around asked output) new errors_old errors_new status
port_asked line_state words a b port count n w has_failed asked told output new errors_old errors_new status found is asks found_is same serves =
    let P : App → Type 0 = λ x. ServesPort line_state (promise x) w.count has_failed (around told output) new errors_old errors_new status in
    let (one, many) = one_serving words a b is.0 is.1 port count is.2 w is.3 (subst (λ c. Asks words c) found_is asks) in
    let Q : ℕ → Type 0 = λ m. ServesPort line_state (promise a) m has_failed (around told output) new errors_old errors_new status in
    let all : ServesPort line_state (promise a) n has_failed (around told output) new errors_old errors_new status = subst Q (sym many ∙ is.4) (subst P (sym one) serves) in
    subst (λ l. ServesPort line_state (promise a) n has_failed (around l output) new errors_old errors_new status) same all
