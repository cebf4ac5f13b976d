use Rattle.std.proofs.Math.Logic.{∥∥₁_elim, ∥∥₁_map}
use denote.Struct.Props.{props}
use Rattle.asgi_pipes.specs.Disconnects.{has_disconnect}
use Rattle.asgi_pipes.proofs.app_state.AppState.look.Goals as goal

pub returns : goal.returns
returns c =
    let s = c.args.self.now in
    record {
      verdict = ∥∥₁_elim s.judged (Prim.hlevel props) (λ stands. c.judge-verdict.ensures.verdict s.kind s.said.items (has_disconnect s.heard.items) stands);
      passed = λ pass. ∥∥₁_map s.judged (λ stands. c.judge-verdict.ensures.passed pass s.kind s.said.items (has_disconnect s.heard.items) stands);
    }
