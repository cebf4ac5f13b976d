-- What `NoContent` promises, and what is known by it of each connection that it serves.
use Rattle.std.specs.Prelude.{◌≡◌, ℕ, List, Option, Some, All}
use Rattle.asgi_types.specs.declared.end_kind.EndKind.TheVariants.{Returned}
use Rattle.asgi_types.specs.declared.limits.Limits.{Limits}
use Rattle.asgi_types.specs.declared.scope.Peer.{Peer}
use Rattle.asgi_types.specs.declared.state.StateValue.{StateValue}
use Rattle.asgi_apps.specs.Promises.{Promise}
use Rattle.asgi_ws.specs.Lines.{LineState}
use Rattle.asgi_conversation.specs.declared.report.Report.{Report}
use Rattle.asgi_conversation.specs.ExchangeRecord.{ExchangeRecord}
use Rattle.asgi_conversation.specs.Promised.{task_end}
use Rattle.asgi_conn.specs.Serving.{Serves}
use Rattle.asgi_example.specs.Answer.{no_content}

-- if its task returned, it has sent exactly this
abbrev pub promise : Promise
promise scope heard said ended = ended ≡ Some Returned → said ≡ no_content

abbrev pub IsNoContent : ExchangeRecord → Type 0
IsNoContent x = task_end x.ended ≡ Some Returned → x.said ≡ no_content

-- Each exchange of a connection that is served by this promise, and whose task returned, has sent exactly that.
abbrev pub EachIsNoContent : Type 0
EachIsNoContent = (limits : Limits) (client server : Option Peer) (state : List (List ℕ × StateValue)) (old new : LineState) (before after : ℕ) (report : Report)
    → (served : Serves promise limits client server state old new before after report) → All IsNoContent served.exchanges
