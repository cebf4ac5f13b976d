-- The conversations in which an application could keep its whole promise, and the promises of three ready applications.
use Rattle.std.specs.Prelude.{◌≡◌, ℕ, false, List, Option}
use Rattle.asgi_types.specs.declared.limits.Limits.{Limits}
use Rattle.asgi_types.specs.declared.scope.Peer.{Peer}
use Rattle.asgi_types.specs.declared.state.StateValue.{StateValue}
use Rattle.asgi_apps.specs.Answers.{Answers, hello_answer}
use Rattle.asgi_apps.specs.Echo.{EchoAnswers}
use Rattle.asgi_apps.specs.Scopes.{kind_of}
use Rattle.asgi_apps.specs.WsEcho.{WsEchoAnswers}
use Rattle.asgi_apps.specs.Promises.{Promise}
use Rattle.asgi_conversation.specs.declared.report.Report.{Report}
use Rattle.asgi_conversation.specs.declared.input.InputEnd.{InputEnd}
use Rattle.asgi_conversation.specs.OutcomeClasses.{is_cut}
use Rattle.asgi_conversation.specs.Conversation.{Conversation}
use Rattle.asgi_conversation.specs.ExchangeRecord.{ExchangeRecord}
use Rattle.asgi_conversation.specs.Kinds.{Converses}
use Rattle.asgi_conversation.specs.Sessions.{SessionTraffic}
use Rattle.asgi_conversation.specs.Kinds.{ConversesInSession}
use Rattle.asgi_conversation.specs.Promised.{ArePromised}

-- The connection was not cut short, no exchange faulted, and each is as the application promises it, whatever the client, the
-- server and the state are.
pub record ConversesWith (answers : Promise) (limits : Limits) (end : InputEnd) (read : List ℕ) (exchanges : List ExchangeRecord)
    (written : List ℕ) (report : Report) : Type 0 where
  pub converses : Converses limits end read exchanges written report
  pub uncut : is_cut report.outcome ≡ false
  pub no_faults : report.faults ≡ 0
  pub client : Option Peer
  pub server : Option Peer
  pub state : List (List ℕ × StateValue)
  pub promised : ArePromised answers client server state exchanges

-- the same for a conversation that ends in a session
pub record ConversesInSessionWith (answers : Promise) (limits : Limits) (end : InputEnd) (read : List ℕ) (exchanges : List ExchangeRecord)
    (traffic : SessionTraffic) (written : List ℕ) (report : Report) : Type 0 where
  pub converses : ConversesInSession limits end read exchanges traffic written report
  pub uncut : is_cut report.outcome ≡ false
  pub no_faults : report.faults ≡ 0
  pub client : Option Peer
  pub server : Option Peer
  pub state : List (List ℕ × StateValue)
  pub promised : ArePromised answers client server state exchanges

-- the same of any conversation, over HTTP alone or to the end of a session
pub record ConversationWith (answers : Promise) (limits : Limits) (end : InputEnd) (read : List ℕ) (exchanges : List ExchangeRecord)
    (traffic : SessionTraffic) (written : List ℕ) (report : Report) : Type 0 where
  pub converses : Conversation limits end read exchanges traffic written report
  pub uncut : is_cut report.outcome ≡ false
  pub no_faults : report.faults ≡ 0
  pub client : Option Peer
  pub server : Option Peer
  pub state : List (List ℕ × StateValue)
  pub promised : ArePromised answers client server state exchanges

-- ---- of three applications

-- the promise of `Echo`
abbrev pub echo_promise : Promise
echo_promise scope heard said ended = EchoAnswers (kind_of scope) heard said ended

-- the promise of `Hello`
abbrev pub hello_promise : Promise
hello_promise scope heard said ended = Answers (hello_answer scope) heard said ended

-- the promise of `WsEcho`: over HTTP that of `NotFound`
abbrev pub ws_echo_promise : Promise
ws_echo_promise scope heard said ended = WsEchoAnswers (kind_of scope) heard said ended
