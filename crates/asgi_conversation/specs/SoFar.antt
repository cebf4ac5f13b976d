-- A connection between two exchanges, and in one: what a loop over many exchanges knows.
use Rattle.std.specs.Prelude.{◌≡◌, ◌≢◌, ◌⊎◌, ℕ, true, Bool, List, [], ◌∷◌, ◌++◌, Some}
use Rattle.asgi_types.specs.declared.end_kind.EndKind.{EndKind}
use Rattle.asgi_types.specs.declared.end_kind.EndKind.TheVariants.{Idle}
use Rattle.asgi_types.specs.declared.facts.Facts.{Facts}
use Rattle.asgi_types.specs.declared.limits.Limits.{Limits}
use Rattle.asgi_types.specs.declared.scope.Scope.{Scope}
use Rattle.asgi_request.specs.declared.next.Next.{Next}
use Rattle.asgi_request.specs.BodyOf.{body_state}
use Rattle.asgi_request.specs.ChunkedBody.{BodyState}
use Rattle.asgi_request.specs.Opened.{BeginsWith, HasOpened, HasClosed}
use Rattle.asgi_exchange.specs.ExchangeTexts.{input_of}
use Rattle.asgi_exchange.specs.HttpExchange.{IsHttpExchange}
use Rattle.asgi_exchange.specs.ExchangeTexts.{text_of}
use Rattle.asgi_exchange.specs.Items.{end_of}
use Rattle.asgi_exchange.specs.Steps.{is_by_input}
use Rattle.asgi_exchange.specs.Views.{ByCut, World, said_of, taken_of}
use Rattle.asgi_conversation.specs.declared.report.Report.{Report}
use Rattle.asgi_conversation.specs.declared.input.InputEnd.{InputEnd}
use Rattle.asgi_conversation.specs.TaskEnds.{has_ended, is_faulty}
use Rattle.asgi_conversation.specs.Exchanges.{AreAnswered, answer_texts}
use Rattle.asgi_conversation.specs.ExchangeRecord.{ExchangeRecord}
use Rattle.asgi_conversation.specs.Persistence.{CountsExchanges}
use Rattle.asgi_conversation.specs.Kinds.{Converses}

-- ---- of the bytes read

-- All exchanges are answered, their texts are written, and these bytes come after their requests.
pub record SoFar (limits : Limits) (end : InputEnd) (read : List ℕ) (exchanges : List ExchangeRecord) (after written : List ℕ) : Type 0 where
  pub each : AreAnswered limits end read exchanges after
  pub written_is : written ≡ answer_texts exchanges

-- One more has begun, and `arrived` comes after its head.
pub record InOne (limits : Limits) (end : InputEnd) (read : List ℕ) (exchanges : List ExchangeRecord) (written : List ℕ) (scope : Scope) (facts : Facts) (arrived : List ℕ) : Type 0 where
  pub after : List ℕ
  pub so_far : SoFar limits end read exchanges after written
  pub head : BeginsWith limits after scope facts arrived

-- ---- with what a reader gave

-- Between two exchanges: the results are those of whole requests, and the next head is due.
pub record Between (limits : Limits) (end : InputEnd) (read : List ℕ) (given : List Next) (exchanges : List ExchangeRecord) (after written : List ℕ) : Type 0 where
  pub so_far : SoFar limits end read exchanges after written
  pub closed : HasClosed limits read given after

-- In an exchange: the last of these results is its head.
pub record Within (limits : Limits) (end : InputEnd) (read : List ℕ) (opened : List Next) (exchanges : List ExchangeRecord) (written : List ℕ) (scope : Scope) (facts : Facts) (arrived : List ℕ) : Type 0 where
  pub one : InOne limits end read exchanges written scope facts arrived
  pub opens : HasOpened limits read opened facts.framing arrived

-- ---- what an exchange leaves

-- the exchange, by what both halves know of it in the end
abbrev pub exchanged : Scope → Facts → World ℕ ℕ → ExchangeRecord
exchanged scope facts w = record {
  scope = scope;
  facts = facts;
  heard = w.app.heard;
  said = said_of w.app;
  ended = end_of w.app.put;
  input_broke = is_by_input w.conn.broken;
}

-- the task returned or faulted, and that was taken before the connection was cut short
pub record TaskIsOver (w : World ℕ ℕ) (kind : EndKind) : Type 0 where
  pub taken : end_of w.conn.got ≡ Some kind
  pub no_limit : kind ≢ Idle
  pub uncut : w.conn.broken ≢ Some ByCut

-- if the input counts as broken, it ended or failed, or the body is faulty
abbrev pub HasBroken : InputEnd → World ℕ ℕ → BodyState → Type 0
HasBroken end w state = is_by_input w.conn.broken ≡ true → (has_ended end ≡ true) ⊎ (is_faulty state ≡ true)

-- the same for the bytes that arrived
abbrev pub HasBrokenIn : Limits → InputEnd → Facts → World ℕ ℕ → Type 0
HasBrokenIn limits end facts w = HasBroken end w (body_state limits facts.framing w.conn.arrived)

-- only a connection that is cut short has this break
abbrev pub IsCutBy : Bool → World ℕ ℕ → Type 0
IsCutBy cut w = w.conn.broken ≡ Some ByCut → cut ≡ true

-- all of the text of what was taken is written
abbrev pub IsOut : Facts → World ℕ ℕ → BodyState → Type 0
IsOut facts w state = w.conn.written ≡ text_of facts (taken_of w.conn) (end_of w.conn.got) (input_of state)

-- ---- if the connection ends in an exchange

-- The exchange is the last one, and the report counts it.
pub record IsLast (limits : Limits) (end : InputEnd) (read : List ℕ) (opened : List Next) (exchanges : List ExchangeRecord) (written : List ℕ) (scope : Scope) (facts : Facts)
    (w : World ℕ ℕ) (report : Report) : Type 0 where
  pub within : Within limits end read opened exchanges written scope facts w.conn.arrived
  pub exchange : IsHttpExchange limits facts w
  pub counts : CountsExchanges report (exchanges ++ exchanged scope facts w ∷ [])

-- the conversation with that exchange after the others
abbrev pub ConversesLast : Limits → InputEnd → List ℕ → List ExchangeRecord → List ℕ → Scope → Facts → World ℕ ℕ → Report → Type 0
ConversesLast limits end read exchanges written scope facts w report =
    Converses limits end read (exchanges ++ exchanged scope facts w ∷ []) (written ++ w.conn.written) report
