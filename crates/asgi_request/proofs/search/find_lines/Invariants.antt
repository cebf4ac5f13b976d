use Rattle.std.proofs.Common.{◌-◌, ◌≤◌, length}
use Rattle.asgi_request.specs.Fronts.{lines_len}
use Rattle.asgi_request.specs.private.Searches.{GoesFrom}
use Rattle.asgi_request.proofs.search.find_lines.Given as goal

abbrev pub invariant-loop-i : goal.invariant-loop-i
invariant-loop-i l = (l.from ≤ length l.bytes) × GoesFrom lines_len lines_len l.fn.at l.from l.bytes

abbrev pub decreases-loop-i : goal.decreases-loop-i
decreases-loop-i l = length l.bytes - l.from
