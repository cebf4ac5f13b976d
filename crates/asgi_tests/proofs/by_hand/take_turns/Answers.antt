use Rattle.asgi_tests.proofs.by_hand.take_turns.Goals as goal

pub loop-turn-init : goal.loop-turn-init
loop-turn-init g c = c.new-connection.ensures.stands c.args.calls.now.app.now (g.L.Line.state c.args.line.now) (g.P.Pause.count c.args.pause.now)

pub turn-again-requires : goal.turn-again-requires
turn-again-requires g c =
    let stands = c.turn.ensures.stands c.args.limits.now (g.L.Line.state c.args.line.now) (g.P.Pause.count c.args.pause.now) c.loop-turn.invariant in
    (c.args.limits.now, g.L.Line.state c.args.line.now, g.P.Pause.count c.args.pause.now, rw c.turn.ensures.same stands)

pub loop-turn-preserved : goal.loop-turn-preserved
loop-turn-preserved g c =
    rw c.turn.ensures.same (c.turn.ensures.stands c.args.limits.now (g.L.Line.state c.args.line.now) (g.P.Pause.count c.args.pause.now) c.loop-turn.invariant)
