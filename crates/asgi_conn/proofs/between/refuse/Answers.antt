use Rattle.asgi_conn.proofs.BetweenLemmas.{ends_refused, ends_unwritten}
use Rattle.asgi_conn.proofs.between.refuse.Goals as goal

pub returns-in-None-clause-refuses : goal.returns-in-None-clause-refuses
returns-in-None-clause-refuses g c limits start wire read given exchanges after written x due =
    let w = c.write.ensures in
    ends_refused x (g.L.Line.state c.write.new.line) c.args.status due c.refusal_text.ensures w.reads.0 w.reads.1 w.session c.in-None.ensures.none.0 c.in-None.ensures.none.1 c.in-None.ensures.tries

pub returns-in-Some-clause-refuses : goal.returns-in-Some-clause-refuses
returns-in-Some-clause-refuses g c limits start wire read given exchanges after written x due =
    let w = c.write.ensures in
    let some = c.in-Some.ensures in
    ends_unwritten x (g.L.Line.state c.write.new.line) c.args.status due c.refusal_text.ensures w.reads.0 w.reads.1 w.session c.in-Some.n some.some.0 some.some.1 some.some.2 some.tries
