use Rattle.std.proofs.Common.{◌≡◌}
use Rattle.asgi_reactor.specs.Shares.{share_of}
use Rattle.asgi_reactor.proofs.reactor.SocketReactor.finish.Given as goal

abbrev pub invariant-loop-wait : goal.invariant-loop-wait
invariant-loop-wait g l = record {
  told : l.self.told ≡ l.fn.self.told;
  moves : l.self.moves ≡ l.fn.self.moves;
  why : l.self.why ≡ l.fn.self.why;
  left : l.self.left ≡ l.fn.self.left;
  share : share_of l.self.ticketer l.self.left ≡ share_of l.fn.self.ticketer l.fn.self.left;
}
