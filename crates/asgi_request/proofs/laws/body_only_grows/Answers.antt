use Rattle.asgi_request.proofs.laws.body_only_grows.Goals as goal
use Rattle.asgi_request.proofs.BodyGrowthLemmas.{body_grows}
use Rattle.asgi_request.proofs.BodyOfLemmas.{whole_grows, faulty_grows}

pub returns-clause-grows : goal.returns-clause-grows
returns-clause-grows c limits framing bytes more events others state other x y = body_grows limits framing bytes more events others state other x y

pub returns-clause-whole : goal.returns-clause-whole
returns-clause-whole c limits framing bytes more events after x = whole_grows limits framing bytes more events after x

pub returns-clause-faulty : goal.returns-clause-faulty
returns-clause-faulty c limits framing bytes more events why x = faulty_grows limits framing bytes more events why x
