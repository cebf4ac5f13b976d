use Rattle.std.proofs.Common.{◌≡◌, ◌<◌, ◌++◌, take}
use Rattle.asgi_desk.specs.Told.{numbers_of}
use Rattle.asgi_desk.specs.Hands.{seated}
use Rattle.asgi_desk.specs.Seat.{knows, IsSeatOf}
use Rattle.asgi_crew_tests.proofs.desk.fakes.hand_in_all.Given as goal

abbrev pub invariant-loop-index : goal.invariant-loop-index
invariant-loop-index g l = record {
  seat : IsSeatOf l.desk l.seat;
  free : knows l.seat ≡ seated (knows l.fn.seat).parts (knows l.fn.seat).first (knows l.seat).put;
  some : 0 < (knows l.fn.seat).parts;
  numbers : numbers_of (knows l.seat).put ≡ numbers_of (knows l.fn.seat).put ++ take l.index l.numbers;
}
