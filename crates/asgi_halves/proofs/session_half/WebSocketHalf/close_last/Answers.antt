use Rattle.asgi_halves.proofs.{SessionEndLemmas.closed_last, SessionWords.SentMessage, SessionWords.has_sent}
use Rattle.asgi_halves.proofs.session_half.WebSocketHalf.close_last.Goals as goal

pub returns : goal.returns
returns g c =
    let call = c.send_close.ensures in
    let sent = has_sent g.L.Line g.L.Reads g.L.Counts g.L.Messages g.met.L.Line.state_is c.args.line.now c.send_close.new.self
    (SentMessage.Close c.args.code c.no_reason.result) c.send_close.result call.told call.counts call.same call.text in
    record {
      leads = λ scene read view x.
          closed_last x c.args.code c.requires.ending c.requires.open c.requires.stays c.rest.result c.rest.ensures c.no_reason.result c.no_reason.ensures
          (g.L.Line.state c.send_close.new.self) c.send_close.result sent c.outcome_after.result c.outcome_after.ensures;
    }
