use Rattle.std.proofs.Common.{◌∙◌}
use Rattle.asgi_protocol.proofs.JudgeLemmas.{closed_agrees}
use Rattle.asgi_protocol.proofs.judge.Judge.is_closed.Goals as goal

pub returns : goal.returns
returns c = λ kind facts said disconnected s. c.is_ended.ensures ∙ closed_agrees kind c.args.self.now.stage said s.rest
