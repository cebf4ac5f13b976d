use Rattle.std.proofs.Common.{refl, arith, ◌∙◌}
use Rattle.asgi_conn.proofs.connection.serve_calls.Goals as goal

pub loop-report-init : goal.loop-report-init
loop-report-init g c =
    let stands = c.new-connection.ensures.stands c.args.calls.now.app.now (g.L.Line.state c.args.line.now) (g.P.Pause.count c.args.pause.now) in
    (stands, omega (arith, c.new-connection.ensures.none), refl)

pub turn-requires : goal.turn-requires
turn-requires g c = (c.args.limits.now, g.L.Line.state c.args.line.now, g.P.Pause.count c.args.pause.now, rw c.loop-report.invariant.2 c.loop-report.invariant.0)

pub loop-report-preserved-in-Moved : goal.loop-report-preserved-in-Moved
loop-report-preserved-in-Moved g c =
    let i = c.loop-report.invariant in
    let stands = c.turn.ensures.stands c.args.limits.now (g.L.Line.state c.args.line.now) (g.P.Pause.count c.args.pause.now) (rw i.2 i.0) in
    (rw (← i.2) stands, omega (arith, i.1, c.turn.ensures.called), c.turn.ensures.same ∙ i.2)

pub loop-report-preserved : goal.loop-report-preserved
loop-report-preserved g c =
    let i = c.loop-report.invariant in
    let stands = c.turn.ensures.stands c.args.limits.now (g.L.Line.state c.args.line.now) (g.P.Pause.count c.args.pause.now) (rw i.2 i.0) in
    (rw (← i.2) stands, omega (arith, i.1, c.turn.ensures.called), c.turn.ensures.same ∙ i.2)
