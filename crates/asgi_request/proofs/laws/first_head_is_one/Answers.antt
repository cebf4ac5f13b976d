use Rattle.asgi_request.proofs.laws.first_head_is_one.Goals as goal
use Rattle.asgi_request.proofs.StartLemmas.{begins_is_one, begins_grows}

pub returns-clause-one : goal.returns-clause-one
returns-clause-one c limits bytes scope other facts others arrived left x y = begins_is_one limits bytes scope other facts others arrived left x y

pub returns-clause-stays : goal.returns-clause-stays
returns-clause-stays c limits bytes more scope facts arrived x = begins_grows limits bytes more scope facts arrived x
