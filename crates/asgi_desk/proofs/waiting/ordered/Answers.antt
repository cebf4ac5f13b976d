use Rattle.std.proofs.lemmas.List.Sorted.{IsPermutation-append_comm}
use Rattle.asgi_desk.specs.private.Book.{waiting_of}
use Rattle.asgi_desk.proofs.waiting.ordered.Goals as goal

pub returns-then-is_before-clause-reports : goal.returns-then-is_before-clause-reports
returns-then-is_before-clause-reports g c = IsPermutation-append_comm (waiting_of c.args.one) (waiting_of c.args.other)
