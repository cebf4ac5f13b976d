-- The conversation over one connection, over HTTP alone (RFC 9112, section 9.3) or to the end of a session (RFC 6455, section 1.2):
-- what the bytes read, the exchanges, the messages, the bytes written and the report say of each other.
use Rattle.std.specs.Prelude.{◌≡◌, ℕ, List, [], ◌∷◌, ◌++◌}
use Rattle.asgi_types.specs.declared.limits.Limits.{Limits}
use Rattle.asgi_conversation.specs.declared.input.InputEnd.{InputEnd}
use Rattle.asgi_conversation.specs.declared.report.Outcome.{Outcome}
use Rattle.asgi_conversation.specs.declared.report.Report.{Report}
use Rattle.asgi_conversation.specs.OutcomeClasses.{is_cut}
use Rattle.asgi_conversation.specs.Exchanges.{AreAnswered, answer_texts}
use Rattle.asgi_conversation.specs.ExchangeRecord.{ExchangeRecord}
use Rattle.asgi_conversation.specs.Persistence.{CountsExchanges, EndsBetween, EndsInRequest}
use Rattle.asgi_conversation.specs.Sessions.{SessionTraffic, no_traffic, ServesHandshake, EndsInSession}

-- the exchange in which the connection ended, if it ended in one
pub data LastExchange : Type 0 where
  NoneBegun : LastExchange
  InRequest : ExchangeRecord → LastExchange
  InSession : ExchangeRecord → LastExchange

abbrev pub begun : LastExchange → List ExchangeRecord
begun NoneBegun = []
begun (InRequest x) = x ∷ []
begun (InSession x) = x ∷ []

-- By the last exchange, and the bytes after the requests that were answered: what is written there, and which messages passed.
abbrev pub EndsIn : LastExchange → Outcome → Limits → InputEnd → (after : List ℕ) → SessionTraffic → (text : List ℕ) → Type 0
EndsIn NoneBegun outcome limits end after traffic text = EndsBetween outcome limits end after text × (traffic ≡ no_traffic)
EndsIn (InRequest x) outcome limits end after traffic text = EndsInRequest outcome limits end after x text × (traffic ≡ no_traffic)
EndsIn (InSession x) outcome limits end after traffic text = ServesHandshake limits (is_cut outcome) after x traffic text × EndsInSession outcome x traffic text

pub record Conversation (limits : Limits) (end : InputEnd) (read : List ℕ) (exchanges : List ExchangeRecord) (traffic : SessionTraffic) (written : List ℕ) (report : Report) : Type 0 where
  -- the exchanges that were answered, and then the one in which the connection ended
  pub answered : List ExchangeRecord
  pub last : LastExchange
  pub in_order : exchanges ≡ answered ++ begun last
  -- the bytes read are the requests of the first ones, each answered in full, and then these
  pub after : List ℕ
  pub each : AreAnswered limits end read answered after
  -- how the connection ended: what was heard and said in the last one, its text and its messages, by outcome
  pub text : List ℕ
  pub ends : EndsIn last report.outcome limits end after traffic text
  -- all texts are written, in order, and all exchanges are counted
  pub written_is : written ≡ answer_texts answered ++ text
  pub counts : CountsExchanges report exchanges
