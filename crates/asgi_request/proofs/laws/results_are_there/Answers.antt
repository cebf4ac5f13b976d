use Rattle.asgi_request.proofs.ThereLemmas.{results_there}
use Rattle.asgi_request.proofs.laws.results_are_there.Goals as goal

pub returns : goal.returns
returns c limits bytes none = results_there limits bytes none
