use Rattle.asgi_conversation.proofs.PromisedLemmas.{front_comes_first}
use Rattle.asgi_conversation.proofs.ToldLemmas.{echo_says, hello_says, ws_echo_says}
use Rattle.asgi_conversation.proofs.answer_laws.answers_to_a_front_come_first.Goals as goal

pub returns-clause-echo : goal.returns-clause-echo
returns-clause-echo c limits early late read more exchanges others written other report another x y =
    front_comes_first _ _ echo_says limits early late read more exchanges others written other report another x y

pub returns-clause-hello : goal.returns-clause-hello
returns-clause-hello c limits early late read more exchanges others written other report another x y =
    front_comes_first _ _ hello_says limits early late read more exchanges others written other report another x y

pub returns-clause-ws_echo : goal.returns-clause-ws_echo
returns-clause-ws_echo c limits early late read more exchanges others written other report another x y =
    front_comes_first _ _ ws_echo_says limits early late read more exchanges others written other report another x y
