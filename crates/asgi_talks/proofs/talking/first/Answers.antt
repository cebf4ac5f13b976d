use Rattle.asgi_talks.proofs.StepLemmas.{connects}
use Rattle.asgi_talks.proofs.talking.first.Goals as goal

pub returns-in-WsConnect : goal.returns-in-WsConnect
returns-in-WsConnect g c =
    connects (g.T.Talker.opens c.args.asked.now.talker c.args.asked.now.scope) c.args.event c.args.called.now.items c.connect.new.called.items c.connect.result c.in-WsConnect.is c.connect.ensures
