use Rattle.asgi_conversation.proofs.laws.exchanges_make_a_conversation_so_far.Goals as goal
use Rattle.asgi_conversation.proofs.SoFarLemmas as lemma

pub returns-clause-starts : goal.returns-clause-starts
returns-clause-starts c limits end = lemma.start limits end

pub returns-clause-grows : goal.returns-clause-grows
returns-clause-grows c limits end read more exchanges after written s = lemma.grows limits end read more exchanges after written s

pub returns-clause-sees_end : goal.returns-clause-sees_end
returns-clause-sees_end c limits old new read exchanges after written on s = lemma.sees_end limits old new read exchanges after written on s

pub returns-clause-one_grows : goal.returns-clause-one_grows
returns-clause-one_grows c limits end read more exchanges written scope facts arrived o = lemma.one_grows limits end read more exchanges written scope facts arrived o

pub returns-clause-one_more : goal.returns-clause-one_more
returns-clause-one_more c limits end read exchanges written scope facts w kind events after o i e body input_broke uncut f out =
    lemma.one_more limits end read exchanges written scope facts w kind events after o i e body input_broke uncut f out
