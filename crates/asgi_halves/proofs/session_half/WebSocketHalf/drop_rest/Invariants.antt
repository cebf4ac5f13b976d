use Rattle.std.proofs.Common.{◌≡◌}
use Rattle.asgi_halves.specs.WebSocketHalf.{PreservesByLine, MayDrop}
use Rattle.asgi_halves.proofs.session_half.WebSocketHalf.drop_rest.Given as goal

abbrev pub invariant-loop-read : goal.invariant-loop-read
invariant-loop-read g l = record {
  leads : PreservesByLine (g.L.Line.state l.fn.line) l.fn.self (g.L.Line.state l.line) l.self;
  may : MayDrop l.self.stage;
  stage : l.self.stage ≡ l.fn.self.stage;
}
