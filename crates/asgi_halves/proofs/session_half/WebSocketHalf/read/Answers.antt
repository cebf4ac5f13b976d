use Rattle.asgi_halves.proofs.{SessionReadLemmas.out_none, TurnLemmas.rests_else}
use Rattle.asgi_halves.proofs.session_half.WebSocketHalf.read.Goals as goal

pub returns-in-Rests-clause-leads : goal.returns-in-Rests-clause-leads
returns-in-Rests-clause-leads g c = out_none (g.L.Line.state c.args.line.now) c.args.self.now

pub returns-in-Hears-clause-turn : goal.returns-in-Hears-clause-turn
returns-in-Hears-clause-turn g c =
    rests_else (g.L.Line.state c.args.line.now) (g.L.Line.state c.read_one.new.line) c.read_one.result (λ never. absurd never) c.read_one.ensures.turn

pub returns-in-Drops-clause-turn : goal.returns-in-Drops-clause-turn
returns-in-Drops-clause-turn g c =
    rests_else (g.L.Line.state c.args.line.now) (g.L.Line.state c.drop_one.new.line) c.drop_one.result (λ never. absurd never) c.drop_one.ensures.turn
