use Rattle.asgi_conversation.proofs.SessionAnswerLemmas.{same_messages, front_of_messages}
use Rattle.asgi_conversation.proofs.session_laws.same_messages_are_answered_alike.Goals as goal

pub returns-clause-messages : goal.returns-clause-messages
returns-clause-messages c limits end late read other_read exchanges others traffic other_traffic written other report another x y same =
    same_messages limits end late read other_read exchanges others traffic other_traffic written other report another x y same

pub returns-clause-front : goal.returns-clause-front
returns-clause-front c limits early late read other_read exchanges others traffic other_traffic written other report another x y first =
    front_of_messages limits early late read other_read exchanges others traffic other_traffic written other report another x y first
