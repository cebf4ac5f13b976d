use Rattle.asgi_conversation.proofs.laws.a_failed_write_ends_an_exchange.Goals as goal
use Rattle.asgi_conversation.proofs.TaskEndLemmas as lemma

pub returns-clause-beginning : goal.returns-clause-beginning
returns-clause-beginning c limits end read opened exchanges written scope facts w report n x input_broke h out o = lemma.beginning_unsent limits end read opened exchanges written scope facts w report x.within x.exchange x.counts n input_broke h out o

pub returns-clause-event : goal.returns-clause-event
returns-clause-event c limits end read opened exchanges written scope facts w report n before event text x input_broke e adds h out o =
    lemma.event_unsent limits end read opened exchanges written scope facts w report x.within x.exchange x.counts n before event text input_broke e adds h out o

pub returns-clause-failure : goal.returns-clause-failure
returns-clause-failure c reader end read opened exchanges written scope facts w report kind events n x t r input_broke p h out o =
    lemma.failure_unsent reader.limits end read opened exchanges written scope facts w report x.within x.exchange x.counts kind t events reader.place reader.held n r input_broke p h out o

pub returns-clause-refusal : goal.returns-clause-refusal
returns-clause-refusal c reader end read opened exchanges written scope facts w report kind events status n x t r p h out o =
    lemma.refusal_unsent reader.limits end read opened exchanges written scope facts w report x.within x.exchange x.counts kind t events reader.place reader.held n status r p h out o
