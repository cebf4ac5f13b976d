use Rattle.std.proofs.Common.{[], ◌∷◌}
use Rattle.asgi_request.proofs.OpeningLemmas.{one_first, first_opens, first_stays}
use Rattle.asgi_request.proofs.laws.first_result_is_one.Goals as goal

pub returns : goal.returns
returns c = record {
  one = λ limits bytes first other x y. one_first limits bytes first other [] [] x y;
  opens = λ limits bytes first x. first_opens limits bytes first [] x;
  stays = λ limits bytes more first x. first_stays limits bytes more (first ∷ []) x;
}
