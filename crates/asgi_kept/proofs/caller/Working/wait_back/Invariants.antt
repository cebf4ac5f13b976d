use Rattle.std.proofs.Common.{◌≡◌}
use Rattle.rtrb.specs.Ring.{sent}
use Rattle.asgi_kept.proofs.caller.Working.wait_back.Given as goal

abbrev pub invariant-loop : goal.invariant-loop
invariant-loop g l = sent l.self.giver ≡ sent l.fn.self.giver
