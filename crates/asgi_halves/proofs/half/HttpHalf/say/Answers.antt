use Rattle.asgi_halves.proofs.HalfLemmas.{said_pending, said_short, stage_of}
use Rattle.asgi_halves.proofs.half.HttpHalf.say.Goals as goal

pub returns-in-Ok-clause-says : goal.returns-in-Ok-clause-says
returns-in-Ok-clause-says g c scene read view x =
    let text = (stage_of x c.requires).talks.text in
    c.put.ensures.puts scene read _ (said_pending x c.requires c.args.event.now c.take.new.self (record c.args.self.now.wire { out = c.take.new.out })
    (c.in-Ok.ensures.ok scene.facts _ text) (c.in-Ok.ensures.text scene.facts _ text))

pub returns-in-Err-clause-says : goal.returns-in-Err-clause-says
returns-in-Err-clause-says g c scene read view x =
    (_, said_short x c.requires c.args.event.now c.take.new.self (record c.args.self.now.wire { out = c.take.new.out }))
