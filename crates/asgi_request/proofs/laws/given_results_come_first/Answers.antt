use Rattle.asgi_request.proofs.ResultsLemmas.{given_of}
use Rattle.asgi_request.proofs.laws.given_results_come_first.Goals as goal

pub returns : goal.returns
returns c reader bytes given results rest x y =
    given_of reader.limits reader.limits.block_in_range.0 bytes given reader.place reader.held results rest x y
