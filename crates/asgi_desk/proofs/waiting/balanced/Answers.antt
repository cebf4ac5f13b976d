use Rattle.asgi_desk.specs.private.Book.{waiting_of}
use Rattle.asgi_desk.proofs.Heap.{sides_change}
use Rattle.asgi_desk.proofs.waiting.balanced.Goals as goal

pub returns-then-one-other-clause-reports : goal.returns-then-one-other-clause-reports
returns-then-one-other-clause-reports g c = sides_change _ (waiting_of c.args.left.value) (waiting_of c.args.right.value)
