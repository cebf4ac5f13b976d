use Rattle.asgi_conversation.proofs.laws.what_is_written_is_a_beginning.Goals as goal
use Rattle.asgi_conversation.proofs.BeginningLemmas.{written_first}

pub returns : goal.returns
returns c outcome end x state text e = written_first x state outcome end text e
