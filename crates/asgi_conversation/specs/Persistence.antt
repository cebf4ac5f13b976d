-- The conversation of many exchanges over one HTTP connection: how the bytes read, the exchanges, the bytes written and the
-- report belong together (RFC 9112, sections 2.1 and 9.3). Whole lists alone: no sentence names a read, a queue or a write.
use Rattle.std.specs.Prelude.{◌≡◌, ℕ, ◌<◌, ◌⊎◌, true, List, [], length, take}
use mathlib.Core.List.{IsPrefix}
use Rattle.asgi_types.specs.declared.limits.Limits.{Limits}
use Rattle.asgi_request.specs.declared.refusal.Refusal.{Refusal}
use Rattle.asgi_request.specs.ChunkedBody.{BodyState}
use Rattle.asgi_request.specs.Refusals.{status_of}
use Rattle.asgi_request.specs.Results.{RefusesHead}
use Rattle.asgi_response.specs.declared.refusal.Input.{Input}
use Rattle.asgi_response.specs.Exchange.{refusal_text, added_by_end}
use Rattle.asgi_response.specs.Response.{response_text}
use Rattle.asgi_exchange.specs.ExchangeTexts.{input_of}
use Rattle.asgi_conversation.specs.declared.report.Outcome.{Outcome}
use Rattle.asgi_conversation.specs.declared.report.Outcome.TheVariants.{Finished, Refused, InputBroke}
use Rattle.asgi_conversation.specs.declared.report.Report.{Report}
use Rattle.asgi_conversation.specs.After.{NothingIsDue, RequestIsDue, IsBlank}
use Rattle.asgi_conversation.specs.declared.following.NextStep.TheVariants.{ConnectionEnds}
use Rattle.asgi_conversation.specs.declared.input.InputEnd.{InputEnd}
use Rattle.asgi_conversation.specs.declared.input.InputEnd.TheVariants.{AtEnd, Failed}
use Rattle.asgi_conversation.specs.OutcomeClasses.{OutcomeClass, Uncut, ByWrite, GivenUp, Lacking, Unbegun, class_of, is_cut}
use Rattle.asgi_conversation.specs.TaskEnds.{has_ended, is_faulty}
use Rattle.asgi_conversation.specs.Exchanges.{ServesFirst, IsFollowed, out_text, fault_count}
use Rattle.asgi_conversation.specs.ExchangeRecord.{ExchangeRecord, IsNext, StopsShort, EndsByClass}

-- ---- the end between two requests

-- the head that is due next is refused with this status
abbrev pub RefusesWith : Limits → List ℕ → ℕ → Type 0
RefusesWith limits bytes status = (why : Refusal) × RefusesHead limits bytes why × (status ≡ status_of why)

-- What is written at the end, by the bytes after the answered requests.
abbrev pub EndsUncut : Outcome → Limits → InputEnd → List ℕ → List ℕ → Type 0
-- the input ended, and no further request was begun
EndsUncut Finished limits end after text = (text ≡ []) × NothingIsDue limits after × (end ≡ AtEnd) × IsBlank after
-- a head is refused
EndsUncut (Refused status) limits end after text =
    (why : Refusal) × RefusesHead limits after why × (status ≡ status_of why) × (text ≡ refusal_text status)
-- the input failed, or ended inside a head
EndsUncut InputBroke limits end after text =
    (text ≡ []) × NothingIsDue limits after × ((end ≡ Failed) ⊎ ((end ≡ AtEnd) × ¬ (IsBlank after)))
EndsUncut _ limits end after text = ⊥

abbrev pub EndsBetweenAs : OutcomeClass → Outcome → Limits → InputEnd → List ℕ → List ℕ → Type 0
EndsBetweenAs Uncut outcome limits end after text = EndsUncut outcome limits end after text
-- a head is refused, and n bytes of its refusal were written
EndsBetweenAs (ByWrite n) outcome limits end after text =
    (why : Refusal) × RefusesHead limits after why × (n < length (refusal_text (status_of why))) × (text ≡ take n (refusal_text (status_of why)))
EndsBetweenAs GivenUp outcome limits end after text = (text ≡ []) × NothingIsDue limits after
EndsBetweenAs Lacking outcome limits end after text = text ≡ []
-- a task was to be begun
EndsBetweenAs Unbegun outcome limits end after text = (text ≡ []) × RequestIsDue limits after

abbrev pub EndsBetween : Outcome → Limits → InputEnd → List ℕ → List ℕ → Type 0
EndsBetween outcome limits end after text = EndsBetweenAs (class_of outcome) outcome limits end after text

-- ---- the end in an exchange

-- what is written for the events of an exchange, and what its end adds
abbrev pub InHand : ExchangeRecord → Input → (out more : List ℕ) → Type 0
InHand x input out more = IsNext (response_text x.facts) (λ kind. added_by_end x.facts x.said kind input) x out more

-- n bytes of the text in hand are written, and not all of it
abbrev pub StopsWithin : ℕ → ExchangeRecord → Input → (written : List ℕ) → Type 0
StopsWithin n x input written = StopsShort (response_text x.facts) (λ kind. added_by_end x.facts x.said kind input) n x written

-- the outcome is that of the end of the task, and all is written
abbrev pub IsDone : Outcome → ExchangeRecord → BodyState → List ℕ → Type 0
IsDone outcome x state text = IsFollowed x state (ConnectionEnds outcome) × (text ≡ out_text x (input_of state))

-- What is written in the last exchange, by how far the body of its request has come.
abbrev pub EndsWithinAs : OutcomeClass → Outcome → InputEnd → ExchangeRecord → BodyState → List ℕ → Type 0
EndsWithinAs class outcome end x state text = EndsByClass class
    (IsDone outcome x state text × (outcome ≡ InputBroke → (has_ended end ≡ true) ⊎ (is_faulty state ≡ true)))
    (λ n. StopsWithin n x (input_of state) text)
    (IsPrefix text (out_text x (input_of state)))

abbrev pub EndsWithin : Outcome → InputEnd → ExchangeRecord → BodyState → List ℕ → Type 0
EndsWithin outcome end x state text = EndsWithinAs (class_of outcome) outcome end x state text

-- The bytes after the answered requests begin with one more, in whose exchange the connection ended.
abbrev pub EndsInRequest : Outcome → Limits → InputEnd → List ℕ → ExchangeRecord → List ℕ → Type 0
EndsInRequest outcome limits end after x text =
    (state : BodyState) × ServesFirst limits end (is_cut outcome) after x state × EndsWithin outcome end x state text

-- ---- the counts

-- the report counts these exchanges, and those of them whose task faulted
pub record CountsExchanges (report : Report) (exchanges : List ExchangeRecord) : Type 0 where
  pub exchanges_are : report.exchanges ≡ length exchanges
  pub faults_are : report.faults ≡ fault_count exchanges
