use Rattle.asgi_halves.proofs.HalfLemmas.{begun_pending, begun_short}
use Rattle.asgi_halves.proofs.half.HttpHalf.begin.Goals as goal

pub returns-in-Ok-clause-begins : goal.returns-in-Ok-clause-begins
returns-in-Ok-clause-begins g c scene facts read arrived o text =
    c.put.ensures.puts scene read _ (begun_pending o (record c.args.self.now.wire { out = c.begin.new.out }) c.args.text text (c.in-Ok.ensures.ok facts _ text))

pub returns-in-Err-clause-begins : goal.returns-in-Err-clause-begins
returns-in-Err-clause-begins g c scene facts read arrived o text = (_, begun_short o (record c.args.self.now.wire { out = c.begin.new.out }) c.args.text)
