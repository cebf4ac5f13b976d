use Rattle.asgi_halves.proofs.{SessionReadLemmas.out_none, SessionReadLemmas.out_then, SessionWords.refl, SessionWords.◌∙◌}
use Rattle.asgi_halves.proofs.session_half.WebSocketHalf.drop_rest.Goals as goal

pub loop-read-init : goal.loop-read-init
loop-read-init g c = record { leads = out_none (g.L.Line.state c.args.line.now) c.args.self.now; may = c.requires.may; stage = refl }

pub loop-read-preserved : goal.loop-read-preserved
loop-read-preserved g c =
    let leads = out_then (g.L.Line.state c.args.line.now) (g.L.Line.state c.loop-read.line) (g.L.Line.state c.drop_one-turn.new.line)
    c.args.self.now c.loop-read.self c.drop_one-turn.new.self c.loop-read.invariant.leads c.drop_one-turn.ensures.leads in
    let same = c.drop_one-turn.ensures.stage in
    record { leads = leads; may = rw same c.loop-read.invariant.may; stage = same ∙ c.loop-read.invariant.stage }
