use Rattle.memchr.specs.Find.{Nowhere, Passes, is_byte}
use Rattle.asgi_request.proofs.search.find_line_feed.Given as goal

abbrev pub invariant-loop-i : goal.invariant-loop-i
invariant-loop-i l = Nowhere (Passes (is_byte 10) l.bytes) l.from l.i
