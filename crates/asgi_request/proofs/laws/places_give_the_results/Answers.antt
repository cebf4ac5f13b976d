use Rattle.asgi_request.proofs.StandardLemmas.{all_results}
use Rattle.asgi_request.proofs.ResultsLemmas.{results_of}
use Rattle.asgi_request.proofs.laws.places_give_the_results.Goals as goal

pub returns : goal.returns
returns c = record {
  to_results = λ limits bytes results x. all_results limits limits.block_in_range.0 bytes results x.place x.rest x.reaches x.waits;
  to_places = λ limits bytes results rest x. results_of limits limits.block_in_range.0 bytes results rest x;
}
