use Rattle.asgi_conn.specs.Standing.{Stands}
use Rattle.asgi_tests.proofs.by_hand.take_turns.Given as goal

abbrev pub invariant-loop-turn : goal.invariant-loop-turn
invariant-loop-turn g l =
    Stands g.A.Task.AppTask.answers g.U.Pipes.Conn.ConnEnd g.U.Pipes.App.AppEnd g.U.Runner.conn g.U.Runner.began (g.A.Application.answers l.calls.app.now) l.fn.limits l.fn.setting
    (g.L.Line.state l.fn.line) (g.P.Pause.count l.fn.pause) (g.L.Line.state l.line) (g.P.Pause.count l.pause) l.connection
