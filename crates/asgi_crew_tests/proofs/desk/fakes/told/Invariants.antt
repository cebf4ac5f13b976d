use Rattle.std.proofs.Common.{◌≡◌, take}
use Rattle.asgi_desk.specs.Told.{numbers_of}
use Rattle.asgi_desk.specs.Hands.{seated}
use Rattle.asgi_desk.specs.Seat.{knows, IsSeatOf}
use Rattle.asgi_crew_tests.proofs.desk.fakes.told.Given as goal

abbrev pub invariant-loop-index : goal.invariant-loop-index
invariant-loop-index g l = record {
  seat : IsSeatOf l.desk l.seat;
  free : knows l.seat ≡ seated 64 (knows l.seat).first (knows l.seat).put;
  numbers : numbers_of (knows l.seat).put ≡ take l.index-counter l.order;
}
