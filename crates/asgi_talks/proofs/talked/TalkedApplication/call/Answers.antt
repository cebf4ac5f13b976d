use Rattle.asgi_talks.proofs.talked.TalkedApplication.call.Goals as goal

pub returns-clause-answers : goal.returns-clause-answers
returns-clause-answers g c = rw c.new.ensures at c.task_of.ensures.answers

pub returns-clause-fault : goal.returns-clause-fault
returns-clause-fault g c = rw c.new.ensures at c.task_of.ensures.fault
