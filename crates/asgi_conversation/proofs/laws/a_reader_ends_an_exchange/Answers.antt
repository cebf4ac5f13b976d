use Rattle.asgi_conversation.proofs.laws.a_reader_ends_an_exchange.Goals as goal
use Rattle.asgi_conversation.proofs.TaskEndLemmas as lemma

pub returns-clause-closes : goal.returns-clause-closes
returns-clause-closes c limits end read opened exchanges written scope facts w report kind x t input_broke p out o = lemma.closes limits end read opened exchanges written scope facts w report x.within x.exchange x.counts kind t input_broke p out o

pub returns-clause-leaves_off : goal.returns-clause-leaves_off
returns-clause-leaves_off c limits end read opened exchanges written scope facts w report kind x t input_broke p out o = lemma.leaves_off limits end read opened exchanges written scope facts w report x.within x.exchange x.counts kind t input_broke p out o

pub returns-clause-leaves_off_after : goal.returns-clause-leaves_off_after
returns-clause-leaves_off_after c reader end read opened exchanges written scope facts w report kind events x t r input_broke p out o =
    lemma.leaves_off_after reader.limits end read opened exchanges written scope facts w report x.within x.exchange x.counts kind t events reader.place reader.held r input_broke p out o

pub returns-clause-fails : goal.returns-clause-fails
returns-clause-fails c reader end read opened exchanges written scope facts w report kind events x t r input_broke p out o = lemma.fails reader.limits end read opened exchanges written scope facts w report x.within x.exchange x.counts kind t events reader.place reader.held r input_broke p out o

pub returns-clause-refuses_body : goal.returns-clause-refuses_body
returns-clause-refuses_body c reader end read opened exchanges written scope facts w report kind events status x t r p out o =
    lemma.refuses_body reader.limits end read opened exchanges written scope facts w report x.within x.exchange x.counts kind t events reader.place reader.held status r p out o

pub returns-clause-breaks_in_a_faulty_body : goal.returns-clause-breaks_in_a_faulty_body
returns-clause-breaks_in_a_faulty_body c reader end read opened exchanges written scope facts w report kind events status x t r p out o =
    lemma.breaks_in_a_faulty_body reader.limits end read opened exchanges written scope facts w report x.within x.exchange x.counts kind t events reader.place reader.held status r p out o

pub returns-clause-breaks_off : goal.returns-clause-breaks_off
returns-clause-breaks_off c reader end read opened exchanges written scope facts w report kind events x t g over p out o =
    lemma.breaks_off reader.limits end read opened exchanges written scope facts w report x.within x.exchange x.counts kind t events reader.place reader.held g.0 g.1 over p out o
