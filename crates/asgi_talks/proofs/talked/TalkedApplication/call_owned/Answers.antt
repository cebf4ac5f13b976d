use Rattle.asgi_talks.proofs.talked.TalkedApplication.call_owned.Goals as goal

pub returns-clause-answers : goal.returns-clause-answers
returns-clause-answers g c = rw c.new.ensures at c.task_of_owned.ensures.answers

pub returns-clause-fault : goal.returns-clause-fault
returns-clause-fault g c = rw c.new.ensures at c.task_of_owned.ensures.fault
