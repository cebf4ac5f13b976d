use Rattle.asgi_protocol.proofs.JudgeLemmas.{fresh}
use Rattle.asgi_protocol.proofs.judge.Judge.new.Goals as goal

pub returns : goal.returns
returns c = fresh c.args.kind
