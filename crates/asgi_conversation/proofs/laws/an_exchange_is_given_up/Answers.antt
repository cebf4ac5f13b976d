use Rattle.asgi_conversation.proofs.laws.an_exchange_is_given_up.Goals as goal
use Rattle.asgi_conversation.proofs.TaskEndLemmas as lemma

pub returns : goal.returns
returns c limits end read opened exchanges written scope facts w report x input_broke o = lemma.gives_up limits end read opened exchanges written scope facts w report x.within x.exchange x.counts input_broke o
