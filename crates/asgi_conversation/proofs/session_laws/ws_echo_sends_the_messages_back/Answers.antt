use Rattle.asgi_conversation.proofs.SessionAnswerLemmas.{all_sent_back, requests_are_denied}
use Rattle.asgi_conversation.proofs.SessionEchoLemmas.{session_echoes}
use Rattle.asgi_conversation.proofs.session_laws.ws_echo_sends_the_messages_back.Goals as goal

pub returns-clause-whole : goal.returns-clause-whole
returns-clause-whole c limits end read exchanges traffic written report w = all_sent_back limits end read exchanges traffic written report w

pub returns-clause-by_outcome : goal.returns-clause-by_outcome
returns-clause-by_outcome c limits end read exchanges traffic written report client server values x p =
    session_echoes limits end read exchanges traffic written report client server values x p

pub returns-clause-requests : goal.returns-clause-requests
returns-clause-requests c limits end read exchanges traffic written report client server values x p =
    requests_are_denied limits end read exchanges traffic written report client server values x p
