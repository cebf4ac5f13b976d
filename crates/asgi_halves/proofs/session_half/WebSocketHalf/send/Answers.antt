use Rattle.asgi_halves.proofs.{SessionSayLemmas.passed_so, SessionSayLemmas.payload_sent, SessionWords.Outgoing, SessionWords.SentMessage, SessionWords.has_sent}
use Rattle.asgi_halves.proofs.session_half.WebSocketHalf.send.Goals as goal

pub returns-clause-speaks : goal.returns-clause-speaks
returns-clause-speaks g c scene read view before x pass judged =
    let call = c.send_message.ensures in
    let sent = has_sent g.L.Line g.L.Reads g.L.Counts g.L.Messages g.met.L.Line.state_is c.args.line.now c.send_message.new.self
    (SentMessage.Payload c.args.payload) c.send_message.result call.told call.counts call.same call.text in
    payload_sent (passed_so (Outgoing.WsSend c.args.payload) x c.requires.running pass judged) (g.L.Line.state c.send_message.new.self) c.send_message.result sent
    c.stage_after-self.result c.stage_after-self.ensures
