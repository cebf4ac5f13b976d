use Rattle.std.proofs.Common.{IfSome, arith, refl, subst}
use Rattle.rtrb.specs.Ring.{received}
use Rattle.asgi_pipes.specs.RingPairs.{ring_of}
use Rattle.asgi_kept.specs.Answers.{HasAnswered}
use Rattle.asgi_kept.proofs.ListLemmas.{last_left}
use Rattle.asgi_kept.proofs.caller.Working.try_back.Goals as goal

pub returns-in-Some-clause-answered : goal.returns-in-Some-clause-answered
returns-in-Some-clause-answered g c job last =
    let looks = c.slots_beside-left.ensures in
    let came = c.in-Ok.ensures.ok.2 (ring_of c.args.self.now.giver.end) c.args.self.now.comes in
    let kept = subst (λ b. IfSome b (λ back. HasAnswered g.T.AppTask.answers g.E.AppEnd g.P.Pause.count (received c.in-Ok.token.jobs) back.ended back.pause)) c.in-Some.is came.1 in
    kept job
    (last_left (received c.in-Ok.token.jobs) _ _ _ _ _ c.slots_beside-left.result job looks.looked.1 looks.fifo looks.producer.1 refl looks.value
    (let none = c.if-left-ne0.false in grind arith) last)
