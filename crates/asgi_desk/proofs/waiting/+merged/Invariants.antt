use Rattle.std.proofs.Common.{◌+◌, length}
use Rattle.asgi_desk.specs.private.Book.{waiting_of}
use Rattle.asgi_desk.proofs.waiting.+merged.Given as goal

abbrev pub decreases-merged : goal.decreases-merged
decreases-merged g l = length (waiting_of l.one) + length (waiting_of l.other)
