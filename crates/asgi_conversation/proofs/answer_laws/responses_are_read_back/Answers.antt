use Rattle.asgi_conversation.proofs.ReadResponsesLemmas.{answered_are_read, conversation_is_read, end_is_read}
use Rattle.asgi_conversation.proofs.answer_laws.responses_are_read_back.Goals as goal

pub returns-clause-answered : goal.returns-clause-answered
returns-clause-answered c limits end read exchanges after more a sent = answered_are_read limits end read exchanges after more a sent

pub returns-clause-conversation : goal.returns-clause-conversation
returns-clause-conversation c limits end read exchanges written report x sent = conversation_is_read limits end read exchanges written report x sent

pub returns-clause-last : goal.returns-clause-last
returns-clause-last c limits end read exchanges written report x sent uncut last is closed =
    end_is_read limits end read exchanges written report x sent uncut last is closed
