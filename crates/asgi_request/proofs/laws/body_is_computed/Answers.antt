use Rattle.asgi_request.proofs.laws.body_is_computed.Goals as goal
use Rattle.asgi_request.proofs.BodyOfLemmas as lemma

pub returns : goal.returns
returns c limits framing bytes events state = lemma.body_is_computed limits framing bytes events state
