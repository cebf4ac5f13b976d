use Rattle.std.proofs.Common.{◌∙◌}
use Rattle.asgi_protocol.proofs.JudgeLemmas.{verdict_agrees}
use Rattle.asgi_protocol.proofs.judge.Judge.look.Goals as goal

pub returns : goal.returns
returns c = λ kind said disconnected s. c.verdict.ensures ∙ verdict_agrees c.args.self.now kind c.args.facts.now said disconnected c.args.event.now s
