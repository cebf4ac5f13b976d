use Rattle.asgi_request.proofs.ResultsLemmas.{unique_of}
use Rattle.asgi_request.proofs.laws.results_are_one_list.Goals as goal

pub returns : goal.returns
returns c limits bytes results others rest other_rest x y =
    unique_of limits limits.block_in_range.0 bytes results others rest other_rest x y
