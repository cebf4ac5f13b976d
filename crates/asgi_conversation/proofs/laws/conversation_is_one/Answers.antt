use Rattle.asgi_conversation.proofs.laws.conversation_is_one.Goals as goal
use Rattle.asgi_conversation.proofs.OneConversationLemmas.{one_conversation, next_follows}

pub returns-clause-one : goal.returns-clause-one
returns-clause-one c limits end read exchanges written other report another x y uncut whole =
    one_conversation limits end read exchanges written other report another x y uncut whole

pub returns-clause-follows : goal.returns-clause-follows
returns-clause-follows c x state f = next_follows x state f
