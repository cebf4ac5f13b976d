use Rattle.asgi_talks.proofs.StepLemmas.{hears}
use Rattle.asgi_talks.proofs.talking.next.Goals as goal

pub returns-in-WsReceive : goal.returns-in-WsReceive
returns-in-WsReceive g c = hears g.S.Talk.answers c.args.session c.args.event c.in-WsReceive.payload c.reply_to.result c.in-WsReceive.is c.reply_to.ensures
