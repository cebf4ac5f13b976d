use Rattle.std.proofs.Common.{◌≡◌, ◌⊎◌}
use Rattle.asgi_reactor.specs.Faults.{HasFailed}
use Rattle.asgi_reactor.specs.Shares.{share_of}
use Rattle.asgi_reactor.proofs.reactor.SocketReactor.wait_for_one.Given as goal

abbrev pub invariant-loop-round : goal.invariant-loop-round
invariant-loop-round g l = record {
  told : l.self.told ≡ l.fn.self.told;
  moves : l.self.moves ≡ l.fn.self.moves;
  left : l.self.left ≡ l.fn.self.left;
  share : share_of l.self.ticketer l.self.left ≡ share_of l.fn.self.ticketer l.fn.self.left;
  why : (l.self.why ≡ l.fn.self.why) ⊎ HasFailed l.self.why;
}
