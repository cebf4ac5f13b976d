use Rattle.asgi_halves.proofs.{SessionSayLemmas.close_sent, SessionSayLemmas.passed_so, SessionWords.Outgoing, SessionWords.SentMessage, SessionWords.has_sent, SessionWords.◌∙◌}
use Rattle.asgi_halves.proofs.session_half.WebSocketHalf.close.Goals as goal

pub returns-clause-speaks : goal.returns-clause-speaks
returns-clause-speaks g c scene read view before x pass judged =
    let call = c.send_close.ensures in
    let sent = has_sent g.L.Line g.L.Reads g.L.Counts g.L.Messages g.met.L.Line.state_is c.args.line.now c.send_close.new.self
    (SentMessage.Close c.args.code c.in-Some.reason) c.send_close.result call.told call.counts call.same call.text in
    close_sent (passed_so (Outgoing.WsClose c.args.code c.args.reason.now) x c.requires.running pass judged) c.requires.open (g.L.Line.state c.send_close.new.self) c.send_close.result
    c.in-Some.reason (c.in-Some.ensures.kept ∙ c.as_str.ensures) sent c.rest.result c.rest.ensures c.stage_after-self.result c.stage_after-self.ensures
