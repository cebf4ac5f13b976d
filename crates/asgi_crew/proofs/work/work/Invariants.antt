use Rattle.std.proofs.Common.{◌≡◌, []}
use Rattle.crossbeam_channel.specs.Claims.{view, IsSeatAt}
use Rattle.crossbeam_channel.specs.Ends.{receives_on}
use Rattle.asgi_crew.specs.private.Channel.{hand}
use Rattle.asgi_desk.specs.Hands.{seated}
use Rattle.asgi_desk.specs.Seat.{knows, IsSeatOf}
use Rattle.asgi_crew.specs.Shared.{InTurn}
use Rattle.asgi_crew.proofs.work.work.Given as goal

abbrev pub invariant-loop : goal.invariant-loop
invariant-loop g l = record {
  seat : IsSeatAt (receives_on l.common.from.now) l.pass × IsSeatOf l.common.desk.now l.seat;
  part : view l.pass ≡ hand 1 0 [] (view l.pass).taken 0 0;
  free : knows l.seat ≡ seated 1 (knows l.fn.seat).first (knows l.seat).put;
  in_turn : InTurn (g.E.Serves.serves l.fn.common.how.now) l.fn.worker l.worker (view l.pass).taken (knows l.seat).put;
}
