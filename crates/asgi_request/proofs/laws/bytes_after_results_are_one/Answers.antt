use Rattle.asgi_request.proofs.laws.bytes_after_results_are_one.Goals as goal
use Rattle.asgi_request.proofs.OpenedLemmas.{closed_is_one, opened_is_one}

pub returns-clause-closed : goal.returns-clause-closed
returns-clause-closed c limits bytes closed after others x y = closed_is_one limits bytes closed after others x y

pub returns-clause-opened : goal.returns-clause-opened
returns-clause-opened c limits bytes opened framing other arrived others x y = opened_is_one limits bytes opened framing other arrived others x y
