use Rattle.asgi_command.proofs.PutLemmas.{failure_stops, failure_goes_out}
use Rattle.asgi_command.proofs.telling.tell_failure.Goals as goal

pub returns-then-not-put-2 : goal.returns-then-not-put-2
returns-then-not-put-2 g c = failure_stops c.args.what.now c.args.why.now _ _ _ c.put.result c.put-2.result c.if-not-put.false c.if-not-put-2.true c.put.ensures c.put-2.ensures

pub returns : goal.returns
returns g c = failure_goes_out c.args.what.now c.args.why.now _ _ _ _ c.put.result c.put-2.result c.put-3.result c.if-not-put.false c.if-not-put-2.false c.put.ensures c.put-2.ensures c.put-3.ensures
