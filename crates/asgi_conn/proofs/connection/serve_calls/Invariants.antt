use Rattle.std.proofs.Common.{◌≡◌, ◌+◌, ◌-◌, length}
use Rattle.asgi_conn.specs.Standing.{Stands, exchanges_of}
use Rattle.asgi_conn.proofs.connection.serve_calls.Given as goal

abbrev pub invariant-loop-report : goal.invariant-loop-report
invariant-loop-report g l =
    Stands g.A.Task.AppTask.answers g.U.Pipes.Conn.ConnEnd g.U.Pipes.App.AppEnd g.U.Runner.conn g.U.Runner.began (g.A.Application.answers l.fn.calls.app.now) l.fn.limits l.setting
    (g.L.Line.state l.fn.line) (g.P.Pause.count l.fn.pause) (g.L.Line.state l.line) (g.P.Pause.count l.pause) l.connection
    × (length l.calls.scopes.items ≡ length l.fn.calls.scopes.items + exchanges_of l.connection)
    × (l.calls.app.now ≡ l.fn.calls.app.now)

abbrev pub decreases-loop-report : goal.decreases-loop-report
decreases-loop-report g l = l.connection.tally.turns.turn_limit - l.connection.tally.turns.turns
