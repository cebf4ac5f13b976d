use Rattle.asgi_request.proofs.FirstLemmas.{first_of}
use Rattle.asgi_request.proofs.laws.given_results_are_the_first.Goals as goal

pub returns : goal.returns
returns c reader bytes given x = first_of reader.limits bytes given reader.place reader.held x
