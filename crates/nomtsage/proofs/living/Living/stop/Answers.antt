use Rattle.nomtsage.proofs.LivesLemmas.{ends_stopped, ends_unstopped}
use Rattle.nomtsage.proofs.living.Living.stop.Goals as goal

pub returns-in-Some : goal.returns-in-Some
returns-in-Some g c = (
  c.stop-answer.new.pause.count,
  ends_stopped c.args.self.lifespan c.in-Some.lifespan c.args.self.pause.count c.stop-answer.new.pause.count c.args.served c.ending_of.result c.stop-answer.result c.in-Some.is
      c.stop-answer.ensures.stops c.ending_of.ensures,
)

pub returns : goal.returns
returns g c = (
  c.args.self.pause.count,
  ends_unstopped c.args.self.lifespan c.args.self.pause.count c.args.served c.ending_of-in-None.result c.in-None.is c.ending_of-in-None.ensures,
)
