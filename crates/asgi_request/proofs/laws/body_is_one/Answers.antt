use Rattle.asgi_request.proofs.laws.body_is_one.Goals as goal
use Rattle.asgi_request.proofs.BodyGrowthLemmas as lemma

pub returns : goal.returns
returns c limits framing bytes events others state other x y = lemma.body_is_one limits framing bytes events others state other x y
