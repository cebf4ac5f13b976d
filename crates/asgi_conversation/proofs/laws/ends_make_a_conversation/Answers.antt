use Rattle.asgi_conversation.proofs.laws.ends_make_a_conversation.Goals as goal
use Rattle.asgi_conversation.proofs.SoFarLemmas as lemma

pub returns-clause-between : goal.returns-clause-between
returns-clause-between c limits end read exchanges after written text report s e n = lemma.ends_between limits end read exchanges after written text report s e n

pub returns-clause-by_task : goal.returns-clause-by_task
returns-clause-by_task c limits end read exchanges written scope facts w kind events state report o i e body input_broke by_cut f out uncut why n =
    lemma.ends_by_task limits end read exchanges written scope facts w kind events state report o i e body input_broke by_cut f out uncut why n

pub returns-clause-cut : goal.returns-clause-cut
returns-clause-cut c limits end read exchanges written scope facts w events state report o i body input_broke cut stops n =
    lemma.ends_cut limits end read exchanges written scope facts w events state report o i body input_broke cut stops n
