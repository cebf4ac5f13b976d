use Rattle.asgi_request.proofs.ResultsLemmas.{prefix_of}
use Rattle.asgi_request.proofs.laws.results_of_a_front_come_first.Goals as goal

pub returns : goal.returns
returns c limits bytes more results others rest other_rest x y =
    prefix_of limits limits.block_in_range.0 bytes more results others rest other_rest x y
