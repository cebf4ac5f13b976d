use Rattle.asgi_conversation.proofs.PromisedLemmas.{same_bytes}
use Rattle.asgi_conversation.proofs.SessionAnswerLemmas.{same_session_bytes}
use Rattle.asgi_conversation.proofs.ToldLemmas.{echo_says, hello_says, ws_echo_says}
use Rattle.asgi_conversation.proofs.answer_laws.same_bytes_are_answered_alike.Goals as goal

pub returns-clause-echo : goal.returns-clause-echo
returns-clause-echo c limits end late read exchanges others written other report another x y =
    same_bytes _ _ echo_says limits end late read exchanges others written other report another x y

pub returns-clause-hello : goal.returns-clause-hello
returns-clause-hello c limits end late read exchanges others written other report another x y =
    same_bytes _ _ hello_says limits end late read exchanges others written other report another x y

pub returns-clause-ws_echo : goal.returns-clause-ws_echo
returns-clause-ws_echo c limits end late read exchanges others written other report another x y =
    same_bytes _ _ ws_echo_says limits end late read exchanges others written other report another x y

pub returns-clause-session : goal.returns-clause-session
returns-clause-session c limits end late read exchanges others traffic other_traffic written other report another x y =
    same_session_bytes limits end late read exchanges others traffic other_traffic written other report another x y
