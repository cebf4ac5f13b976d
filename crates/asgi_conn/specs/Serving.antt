-- What `serve_connection` promises, whole: the bytes read, the exchanges, what was written and the report make a
-- conversation, and the turns and pauses are counted.
use Rattle.std.specs.Prelude.{◌≡◌, ◌⊎◌, ℕ, List, Option}
use Rattle.asgi_types.specs.declared.limits.Limits.{Limits}
use Rattle.asgi_types.specs.declared.scope.Peer.{Peer}
use Rattle.asgi_types.specs.declared.state.StateValue.{StateValue}
use Rattle.asgi_io.specs.declared.turns.Turn.{Turn}
use Rattle.asgi_io.specs.Turns.{CountsTurns}
use Rattle.asgi_conversation.specs.declared.input.InputEnd.{InputEnd}
use Rattle.asgi_conversation.specs.declared.report.Outcome.TheVariants.{Idle}
use Rattle.asgi_conversation.specs.declared.report.Report.{Report}
use Rattle.asgi_conversation.specs.Conversation.{Conversation}
use Rattle.asgi_conversation.specs.Exchanges.{requests_of}
use Rattle.asgi_conversation.specs.ExchangeRecord.{ExchangeRecord}
use Rattle.asgi_conversation.specs.Promised.{ArePromised}
use Rattle.asgi_conversation.specs.Sessions.{SessionTraffic}
use Rattle.asgi_ws.specs.Lines.{LineState}
use Rattle.asgi_apps.specs.Promises.{Promise}
use Rattle.asgi_halves.specs.ReadAhead.{ReadsAhead}
use Rattle.asgi_halves.specs.Traffic.{HasCarried, failures_in}

-- One connection was served.
pub record Serves (answers : Promise) (limits : Limits) (client server : Option Peer) (state : List (List ℕ × StateValue))
    (old new : LineState) (pauses_old pauses_new : ℕ) (report : Report) : Type 0 where
  -- what left the line, how far its input has come, and what the line gained
  pub read : List ℕ
  pub end : InputEnd
  pub written : List ℕ
  -- what passed over the line once an opening handshake was accepted
  pub traffic : SessionTraffic
  pub carried : HasCarried old new end read written (failures_in report.outcome traffic) traffic
  -- these, the exchanges and the report are a conversation
  pub exchanges : List ExchangeRecord
  pub converses : Conversation limits end read exchanges traffic written report
  -- how far the bytes read are ahead of their requests, at most
  pub ahead : ReadsAhead limits read (requests_of exchanges)
  -- what the application got and sent in each of them is as it promises, for a scope with this client, this server and a
  -- state equal to this one
  pub promised : ArePromised answers client server state exchanges
  -- the turns that the report records, and a pause for each idle one
  pub turned : List Turn
  pub counts : CountsTurns limits.turns limits.idle_turns turned pauses_old pauses_new report.turns report.idle
  -- the connection is given up as idle only if a limit on turns was reached
  pub idle : report.outcome ≡ Idle → (report.turns ≡ limits.turns) ⊎ (report.idle ≡ limits.idle_turns)
