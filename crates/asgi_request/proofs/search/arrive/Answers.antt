use Rattle.asgi_request.specs.Fronts.{head_len, line_len, trailer_len}
use Rattle.asgi_request.proofs.FrontLemmas.{head_search, line_search, trailer_search, bound_of}
use Rattle.asgi_request.proofs.search.arrive.Goals as goal

pub within-requires : goal.within-requires
within-requires c = bound_of head_len head_search c.args.bytes.now c.find_head.result c.find_head.ensures.found

pub within-requires-in-SizeLine : goal.within-requires-in-SizeLine
within-requires-in-SizeLine c = bound_of line_len line_search c.args.bytes.now c.find_line.result c.find_line.ensures.found

pub within-requires-in-Trailers : goal.within-requires-in-Trailers
within-requires-in-Trailers c = bound_of trailer_len trailer_search c.args.bytes.now c.find_trailer.result c.find_trailer.ensures.found
