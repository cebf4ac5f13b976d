use Rattle.asgi_conversation.proofs.ConversationLemmas as lemma
use Rattle.asgi_conversation.proofs.conversation_laws.a_conversation_is_over_http_or_in_a_session.Goals as goal

pub returns-clause-over_http : goal.returns-clause-over_http
returns-clause-over_http c limits end read exchanges traffic written report x = lemma.over_http limits end read exchanges traffic written report x.0 x.1

pub returns-clause-in_session : goal.returns-clause-in_session
returns-clause-in_session c limits end read exchanges traffic written report x = lemma.in_session limits end read exchanges traffic written report x

pub returns-clause-either : goal.returns-clause-either
returns-clause-either c limits end read exchanges traffic written report x = lemma.either limits end read exchanges traffic written report x
