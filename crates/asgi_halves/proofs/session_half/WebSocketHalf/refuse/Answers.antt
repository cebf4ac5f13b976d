use Rattle.asgi_halves.proofs.{SessionSayLemmas.passed_so, SessionSayLemmas.refused_part, SessionSayLemmas.refused_whole, SessionWords.Outgoing, SessionWords.tries_front}
use Rattle.asgi_halves.proofs.session_half.WebSocketHalf.refuse.Goals as goal

pub returns-in-Some-clause-speaks : goal.returns-in-Some-clause-speaks
returns-in-Some-clause-speaks g c code reason scene read view before x pass judged =
    let w = c.in-Some.ensures.some in
    refused_part (passed_so (Outgoing.WsClose code reason) x c.requires.running pass judged) c.requires.shut c.denied_text.result.now c.denied_text.ensures (g.L.Line.state c.write.new.line)
    c.answer_with.new.self c.answer_with.ensures c.in-Some.n w.0
    (record { beside = c.write.ensures.reads; session = c.write.ensures.session; appends = w.1; rose = w.2; tries = tries_front _ _ c.in-Some.n _ w.0 c.in-Some.ensures.tries })

pub returns-in_default-clause-speaks : goal.returns-in_default-clause-speaks
returns-in_default-clause-speaks g c code reason scene read view before x pass judged =
    let w = c.in_default.ensures.none in
    refused_whole (passed_so (Outgoing.WsClose code reason) x c.requires.running pass judged) c.requires.shut c.denied_text.result.now c.denied_text.ensures (g.L.Line.state c.write.new.line)
    c.answer_with.new.self c.answer_with.ensures
    (record { beside = c.write.ensures.reads; session = c.write.ensures.session; appends = w.0; rose = w.1; tries = c.in_default.ensures.tries })
