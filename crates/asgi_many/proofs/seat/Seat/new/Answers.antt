use Rattle.std.proofs.Common.{refl}
use Rattle.asgi_many.proofs.StandingLemmas.{sits}
use Rattle.asgi_many.proofs.seat.Seat.new.Goals as goal

pub returns-clause-at : goal.returns-clause-at
returns-clause-at g c app = sits (c.new-connection.ensures.stands app (g.L.Line.state c.args.newcomer.line) 0) c.new.ensures refl refl refl refl refl
