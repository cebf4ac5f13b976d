use Rattle.asgi_conversation.proofs.PromisedLemmas.{one_answer}
use Rattle.asgi_conversation.proofs.ToldLemmas.{echo_says, hello_says, ws_echo_says}
use Rattle.asgi_conversation.proofs.answer_laws.answers_are_one.Goals as goal

pub returns-clause-echo : goal.returns-clause-echo
returns-clause-echo c limits end read exchanges others written other report another x y =
    one_answer _ _ echo_says limits end read exchanges others written other report another x y

pub returns-clause-hello : goal.returns-clause-hello
returns-clause-hello c limits end read exchanges others written other report another x y =
    one_answer _ _ hello_says limits end read exchanges others written other report another x y

pub returns-clause-ws_echo : goal.returns-clause-ws_echo
returns-clause-ws_echo c limits end read exchanges others written other report another x y =
    one_answer _ _ ws_echo_says limits end read exchanges others written other report another x y
