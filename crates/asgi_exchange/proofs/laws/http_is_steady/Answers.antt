use Rattle.asgi_exchange.proofs.laws.http_is_steady.Goals as goal
use Rattle.asgi_exchange.proofs.HttpLemmas as lemma

pub returns : goal.returns
returns c limits facts = lemma.http_is_steady limits facts
