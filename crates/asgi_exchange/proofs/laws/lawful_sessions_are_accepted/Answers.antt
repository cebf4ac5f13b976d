use Rattle.asgi_exchange.proofs.laws.lawful_sessions_are_accepted.Goals as goal
use Rattle.asgi_exchange.proofs.SessionLemmas as lemma

pub returns : goal.returns
returns c facts events lawful = lemma.lawful_is_accepted facts events lawful
