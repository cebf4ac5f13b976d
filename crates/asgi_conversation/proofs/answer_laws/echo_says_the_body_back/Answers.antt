use Rattle.asgi_conversation.proofs.ServedLemmas.{said_of_body}
use Rattle.asgi_conversation.proofs.ToldLemmas.{echo_says}
use Rattle.asgi_conversation.proofs.answer_laws.echo_says_the_body_back.Goals as goal

pub returns : goal.returns
returns c limits end bytes x state client server values arrived events s p r head body =
    said_of_body _ _ echo_says limits end bytes x state client server values arrived events s p r head body
