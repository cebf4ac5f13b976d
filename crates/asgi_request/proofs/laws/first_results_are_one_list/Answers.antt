use Rattle.asgi_request.proofs.OpeningLemmas.{as_many, first_stays}
use Rattle.asgi_request.proofs.laws.first_results_are_one_list.Goals as goal

pub returns : goal.returns
returns c = record {
  one = λ limits bytes first other x y n. as_many limits bytes first other x y n;
  stays = λ limits bytes more first x. first_stays limits bytes more first x;
}
