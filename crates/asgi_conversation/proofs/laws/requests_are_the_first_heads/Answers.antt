use Rattle.asgi_conversation.proofs.laws.requests_are_the_first_heads.Goals as goal
use Rattle.asgi_conversation.proofs.RequestLemmas.{heads_are, all_heads}

pub returns-clause-first : goal.returns-clause-first
returns-clause-first c limits end read exchanges written report results rest x g = heads_are limits end read exchanges written report results rest x g

pub returns-clause-all : goal.returns-clause-all
returns-clause-all c limits end read exchanges after written results rest s none g = all_heads limits end read exchanges after written results rest s none g
