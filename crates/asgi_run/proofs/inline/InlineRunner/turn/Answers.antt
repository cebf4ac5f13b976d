use Rattle.std.proofs.Common.{◌++◌, arith}
use Rattle.asgi_pipes.specs.contracts.plain_app.PlainAppAppEnd.TheImpl as app_end
use Rattle.asgi_run.proofs.InlineLemmas as lemma
use Rattle.asgi_run.proofs.inline.InlineRunner.turn.Goals as goal

pub returns-clause-began : goal.returns-clause-began
returns-clause-began g c side b =
    let stands = g.T.AppTask.stands in
    let answers = g.T.AppTask.answers in
    let once = lemma.goes_further stands answers app_end.ghosts side c.args.exchange.now.side c.carry.new.side b.1 c.carry.ensures.side in
    let polled = lemma.goes_further stands answers app_end.ghosts side c.carry.new.side c.poll_on-polled.new.side once c.poll_on-polled.ensures.side in
    (c.carry-2.ensures.pair, lemma.goes_further stands answers app_end.ghosts side c.poll_on-polled.new.side c.carry-2.new.side polled c.carry-2.ensures.side, b.2)

pub returns-clause-rests : goal.returns-clause-rests
returns-clause-rests g c rests scene read view s v some =
    let t = c.turn-moved.ensures.leads scene read view s v in
    let ring = c.ring.ensures scene (g.L.Line.state c.turn-moved.new.line) (read ++ t.0) t.1 t.2 in
    let idle = c.poll_on-polled.ensures.idle (λ is. let same = c.eq-exchange.ensures in absurd (grind (arith, rests, is, same))) (rw ring some) in
    (c.carry.new.side, c.poll_on-polled.new.side, c.carry.ensures.task, idle, c.carry-2.ensures.task)
