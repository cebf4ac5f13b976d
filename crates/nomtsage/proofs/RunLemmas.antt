-- What a server did whose listener had been asked for nothing before.
use Rattle.std.proofs.Common.{◌≡◌, ℕ, Bool, List, [], Option, Result, subst}
use Rattle.std.specs.declared.io.Error.{Error}
use Rattle.asgi_types.specs.declared.limits.Limits.{Limits}
use Rattle.asgi_ws.specs.Lines.{LineState}
use Rattle.asgi_apps.specs.Promises.{Promise}
use Rattle.asgi_conversation.specs.declared.report.Report.{Report}
use Rattle.asgi_server.specs.Connections.{Given}
use Rattle.nomtsage.specs.declared.ending.Ending.{Ending}
use Rattle.nomtsage.specs.declared.fault.ServeError.{ServeError}
use Rattle.nomtsage.specs.Running.{IsResultOf, Ran}
use Rattle.nomtsage.specs.Serving.{around, ServesOn}

pub ran : {L K : Type 0} (line_state : L → LineState) (tells : K → K → ℕ → Report → Type 0) (answers : Promise) (limits : Limits) (workers : ℕ) (has_failed : Bool)
    (was asked : List (Option (Given L))) (teller told : K) (ends : Ending) (why : Error) (result : Result (Unit {0}) ServeError) → was ≡ []
    → ServesOn line_state tells answers limits workers has_failed (around was teller) (around asked told) ends → IsResultOf ends why result
    → Ran line_state tells answers limits workers teller result
ran {L} line_state tells answers limits workers has_failed was asked teller told ends why result none serves is = record {
  asked = asked;
  told = told;
  has_failed = has_failed;
  ends = ends;
  serves = subst (λ (l : List (Option (Given L))). ServesOn line_state tells answers limits workers has_failed (around l teller) (around asked told) ends) none serves;
  why = why;
  result_is = is;
}
