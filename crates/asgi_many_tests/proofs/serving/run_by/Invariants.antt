use Rattle.std.proofs.Common.{List, Option}
use Rattle.asgi_many.specs.declared.seat.Ended.{Ended}
use Rattle.asgi_many.specs.declared.seat.Newcomer.{Newcomer}
use Rattle.asgi_many.specs.Standing.{Holds}
use Rattle.asgi_many_tests.proofs.serving.run_by.Given as goal

abbrev pub invariant-loop-step : goal.invariant-loop-step
invariant-loop-step g l =
    (came : List (Newcomer _)) × (ended : List (Option (Ended _)))
    × Holds g.A.Task.AppTask.answers g.U.Pipes.Conn.ConnEnd g.U.Pipes.App.AppEnd g.U.Runner.conn g.U.Runner.began (g.A.Application.answers l.calls.app.now) g.L.Line.state l.fn.state
    came l.table ended
