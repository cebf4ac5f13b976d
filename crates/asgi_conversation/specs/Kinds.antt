-- The two kinds of conversation, over HTTP alone (RFC 9112, section 9.3) and to the end of a session (RFC 6455, section 1.2), of
-- which the laws speak. `Conversation` is either.
use Rattle.std.specs.Prelude.{◌≡◌, ℕ, List, [], ◌∷◌, ◌++◌, Option, Some, None}
use Rattle.asgi_types.specs.declared.limits.Limits.{Limits}
use Rattle.asgi_conversation.specs.declared.report.Outcome.{Outcome}
use Rattle.asgi_conversation.specs.declared.report.Report.{Report}
use Rattle.asgi_conversation.specs.declared.input.InputEnd.{InputEnd}
use Rattle.asgi_conversation.specs.OutcomeClasses.{is_cut}
use Rattle.asgi_conversation.specs.Exchanges.{AreAnswered, answer_texts}
use Rattle.asgi_conversation.specs.ExchangeRecord.{ExchangeRecord}
use Rattle.asgi_conversation.specs.Persistence.{CountsExchanges, EndsBetween, EndsInRequest}
use Rattle.asgi_conversation.specs.Sessions.{SessionTraffic, ServesHandshake, EndsInSession}

-- ---- over HTTP alone

-- The connection ended in that exchange, or no further one was begun.
abbrev pub Ends : Outcome → Limits → InputEnd → List ℕ → Option ExchangeRecord → List ℕ → Type 0
Ends outcome limits end after None text = EndsBetween outcome limits end after text
Ends outcome limits end after (Some x) text = EndsInRequest outcome limits end after x text

abbrev pub listed : Option ExchangeRecord → List ExchangeRecord
listed None = []
listed (Some x) = x ∷ []

-- no exchange begins a session
pub record Converses (limits : Limits) (end : InputEnd) (read : List ℕ) (exchanges : List ExchangeRecord) (written : List ℕ) (report : Report) : Type 0 where
  -- the exchanges before a next request, and the one in which the connection ended, if it ended in one
  pub answered : List ExchangeRecord
  pub last : Option ExchangeRecord
  pub in_order : exchanges ≡ answered ++ listed last
  -- the requests of the first ones, and what the application received and sent there
  pub after : List ℕ
  pub each : AreAnswered limits end read answered after
  -- how the connection ended: what the application received and sent in the last one, and its text, or that of a refusal
  pub text : List ℕ
  pub ends : Ends report.outcome limits end after last text
  -- all texts are written, in order
  pub written_is : written ≡ answer_texts answered ++ text
  pub counts : CountsExchanges report exchanges

-- ---- to the end of a session

-- The last exchange is that of an opening handshake, and the connection ended in it.
pub record ConversesInSession (limits : Limits) (end : InputEnd) (read : List ℕ) (exchanges : List ExchangeRecord) (traffic : SessionTraffic) (written : List ℕ) (report : Report) : Type 0 where
  pub answered : List ExchangeRecord
  pub session : ExchangeRecord
  pub in_order : exchanges ≡ answered ++ session ∷ []
  -- the requests of the first ones, and what the application received and sent there
  pub after : List ℕ
  pub each : AreAnswered limits end read answered after
  -- the handshake, what the application received and sent in its exchange, and how that ended
  pub text : List ℕ
  pub serves : ServesHandshake limits (is_cut report.outcome) after session traffic text
  pub ends : EndsInSession report.outcome session traffic text
  -- all texts are written, in order
  pub written_is : written ≡ answer_texts answered ++ text
  pub counts : CountsExchanges report exchanges
