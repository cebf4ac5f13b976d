-- What comes after the end of a task, and its text, by how far the response was that was taken.
use Rattle.std.proofs.Common.{◌≡◌, ℕ, Bool, List, ◌++◌, refl, sym, ap, ◌∙◌, append-nil, Option}
use Rattle.std.specs.Prelude.{◌≢◌}
use Rattle.asgi_types.specs.declared.end_kind.EndKind.{EndKind}
use Rattle.asgi_types.specs.declared.end_kind.EndKind.TheVariants as kind
use Rattle.asgi_types.specs.declared.facts.Facts.{Facts}
use Rattle.asgi_types.specs.declared.limits.Limits.{Limits}
use Rattle.asgi_types.specs.declared.scope.Scope.{Scope}
use Rattle.asgi_request.specs.ChunkedBody.{BodyState}
use Rattle.asgi_response.specs.declared.progress.Progress.{Progress}
use Rattle.asgi_response.specs.declared.progress.Progress.TheVariants.{Nothing}
use Rattle.asgi_response.specs.Exchange.{replacement_text}
use Rattle.asgi_response.specs.Progress.{progress_of}
use Rattle.asgi_response.specs.Response.{response_text}
use Rattle.asgi_response.proofs.EndLemmas.{nothing_added, unbegun_are_replaced}
use Rattle.asgi_exchange.specs.ExchangeTexts.{input_of}
use Rattle.asgi_exchange.specs.HttpExchange.{IsHttpExchange}
use Rattle.asgi_exchange.specs.ExchangeTexts.{text_of}
use Rattle.asgi_exchange.specs.Steps.{is_by_input}
use Rattle.asgi_exchange.specs.Views.{World, said_of, taken_of}
use Rattle.asgi_conversation.specs.declared.following.NextStep.{NextStep}
use Rattle.asgi_conversation.specs.TaskEnds.{after_response, after_task}
use Rattle.asgi_conversation.specs.Exchanges.{IsFollowed}
use Rattle.asgi_conversation.specs.SoFar.{exchanged, TaskIsOver, IsOut}
use Rattle.asgi_conversation.proofs.SoFarLemmas.{taken_whole, end_put}

by_response : (k : EndKind) (progress : Progress) (state : BodyState) (input_broke : Bool) → k ≢ kind.Idle → after_task k progress state input_broke ≡ after_response progress state input_broke
by_response kind.Returned progress state input_broke n = refl
by_response kind.Faulted progress state input_broke n = refl
by_response kind.Idle progress state input_broke n = absurd (n refl)

module _ (limits : Limits) (scope : Scope) (facts : Facts) (w : World ℕ ℕ) (k : EndKind) (state : BodyState) (t : TaskIsOver w k) where
  -- what comes next, by the response that was taken
  pub follows : (progress : Progress) (next : NextStep) → IsHttpExchange limits facts w → progress_of facts (taken_of w.conn) ≡ progress
      → after_response progress state (is_by_input w.conn.broken) ≡ next → IsFollowed (exchanged scope facts w) state next
  follows progress next i p row = (
    k,
    end_put limits facts w k i t.taken,
    by_response k (progress_of facts (said_of w.app)) state (is_by_input w.conn.broken) t.no_limit
        ∙ ap (λ (q : Progress). after_response q state (is_by_input w.conn.broken))
        (ap (progress_of facts) (sym (taken_whole limits facts w k i t.taken)) ∙ p)
        ∙ row,
  )

  -- nothing is added to a response that has begun
  pub begun_is_out : progress_of facts (taken_of w.conn) ≢ Nothing → w.conn.written ≡ response_text facts (taken_of w.conn) → IsOut facts w state
  begun_is_out p out =
      out
      ∙ sym (ap (λ (o : Option EndKind). text_of facts (taken_of w.conn) o (input_of state)) t.taken
      ∙ ap (λ (l : List ℕ). response_text facts (taken_of w.conn) ++ l) (nothing_added facts (taken_of w.conn) k (input_of state) p)
      ∙ append-nil (response_text facts (taken_of w.conn)))

  -- one that has not is answered in its place
  pub replaced_is_out : progress_of facts (taken_of w.conn) ≡ Nothing
      → w.conn.written ≡ response_text facts (taken_of w.conn) ++ replacement_text (input_of state) → IsOut facts w state
  replaced_is_out p out =
      out
      ∙ sym (ap (λ (o : Option EndKind). text_of facts (taken_of w.conn) o (input_of state)) t.taken
      ∙ ap (λ (l : List ℕ). response_text facts (taken_of w.conn) ++ l) (unbegun_are_replaced facts (taken_of w.conn) k (input_of state) t.no_limit p))
