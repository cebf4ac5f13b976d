use Rattle.std.proofs.Common.{◌≡◌, ◌+◌, length}
use Rattle.std.specs.VecDeque.{deque_capacity}
use Rattle.asgi_pipes.specs.Boxes.{AreJoined, put_by}
use Rattle.asgi_pipes.proofs.plain.pass_all.Given as goal

abbrev pub invariant-loop-passed : goal.invariant-loop-passed
invariant-loop-passed g l = record {
  joined : AreJoined l.from l.to;
  put : put_by l.from ≡ put_by l.initial.from;
  places : (l.from.places ≡ l.initial.from.places) × (l.to.places ≡ l.initial.to.places);
  capacity : (deque_capacity l.from.queue ≡ deque_capacity l.initial.from.queue) × (deque_capacity l.to.queue ≡ deque_capacity l.initial.to.queue);
  taken : l.to.taken.items ≡ l.initial.to.taken.items;
  sum : length l.from.queue.items + l.from.away ≡ length l.initial.from.queue.items + l.initial.from.away;
  left : length l.from.queue.items + l._passed ≡ length l.initial.from.queue.items;
}
