use Rattle.std.proofs.Common.{◌≡◌}
use Rattle.asgi_reactor.proofs.quota.Ticketer.take.Given as goal

abbrev pub invariant-loop-try : goal.invariant-loop-try
invariant-loop-try l = record {
  of : l.self.quota ≡ l.fn.self.quota;
  same : l.self.seat.me.0 ≡ l.fn.self.seat.me.0;
}
