use Rattle.asgi_exchange.proofs.laws.results_are_steps.Goals as goal
use Rattle.asgi_exchange.proofs.ResultLemmas.{fed_arrives, event_is_offered, broken_off, refused_off, whole_off}

pub returns-clause-arrives : goal.returns-clause-arrives
returns-clause-arrives c limits bytes piece opened facts conn x b = fed_arrives limits bytes piece opened facts conn x b

pub returns-clause-offers : goal.returns-clause-offers
returns-clause-offers c reader bytes opened facts conn event x stands b = event_is_offered reader bytes opened facts conn event x stands b

pub returns-clause-breaks : goal.returns-clause-breaks
returns-clause-breaks c reader bytes opened facts conn x g b e = broken_off reader bytes opened facts conn x g b e

pub returns-clause-refused : goal.returns-clause-refused
returns-clause-refused c reader bytes opened facts conn status x stands b e = refused_off reader bytes opened facts conn status x stands b e

pub returns-clause-whole : goal.returns-clause-whole
returns-clause-whole c reader bytes opened facts conn x stands b e = whole_off reader bytes opened facts conn x stands b e
