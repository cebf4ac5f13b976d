use Rattle.asgi_request.proofs.laws.body_events_are_no_disconnects.Goals as goal
use Rattle.asgi_request.proofs.BodyEventLemmas.{events_are_requests}

pub returns : goal.returns
returns c limits framing bytes events state x = events_are_requests limits framing bytes events state x
