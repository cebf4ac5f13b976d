use Rattle.std.proofs.Common.{◌≡◌, ◌+◌}
use Rattle.crossbeam_channel.specs.Claims.{view, IsSeatAt}
use Rattle.crossbeam_channel.specs.Ends.{sends_on}
use Rattle.asgi_crew.specs.private.Channel.{hand}
use Rattle.asgi_crew.proofs.give.give_stops.Given as goal

abbrev pub invariant-loop-worker : goal.invariant-loop-worker
invariant-loop-worker g l = record {
  seat : IsSeatAt (sends_on l.to) l.pass;
  gave : view l.pass ≡ hand (view l.fn.pass).parts 1 (view l.fn.pass).given (view l.fn.pass).taken ((view l.fn.pass).shut + l._worker) (view l.fn.pass).ended;
}
