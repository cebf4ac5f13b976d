use Rattle.std.proofs.Common.{◌≡◌, ◌≤◌, ◌+◌, length}
use Rattle.slab.specs.Slab.{slab_len}
use Rattle.asgi_many.specs.Moves.{KeptSeats}
use Rattle.asgi_many.specs.declared.intake.Intake.TheVariants.{Closed}
use Rattle.asgi_many.specs.Serving.{Going, SaidNoneEver}
use Rattle.asgi_many.proofs.serving.serve_many.Given as goal

abbrev pub invariant-loop-step : goal.invariant-loop-step
invariant-loop-step g l = record {
  going : Going g.A.Task.AppTask.answers g.U.Pipes.Conn.ConnEnd g.U.Pipes.App.AppEnd g.U.Runner.conn g.U.Runner.began (g.A.Application.answers l.fn.app) g.N.L.Line.state l.fn.limits l.fn.state
      g.K.Teller.tells (g.N.Reactor.answers l.fn.reactor) (g.N.Reactor.answers l.reactor) l.fn.teller l.teller l.table;
  seats : KeptSeats l.fn.places (g.N.Reactor.moves l.fn.reactor) (g.N.Reactor.moves l.reactor) (slab_len l.table.seats) l.intake l._step;
  asked : length (g.N.Reactor.answers l.reactor) ≤ length (g.N.Reactor.answers l.fn.reactor) + l._step;
  no_more : l.intake ≡ Closed → SaidNoneEver (g.N.Reactor.answers l.fn.reactor) (g.N.Reactor.answers l.reactor);
  places : l.table.places ≡ l.fn.places;
  same_app : l.calls.app.now ≡ l.fn.app;
  kept : g.N.Reactor.kept l.reactor ≡ g.N.Reactor.kept l.fn.reactor;
}
