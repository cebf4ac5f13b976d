use Rattle.asgi_talks.proofs.talking.tell.Goals as goal

pub returns-in-Ok-clause-told : goal.returns-in-Ok-clause-told
returns-in-Ok-clause-told g c = (c.tell.new.self, c.in-Ok.answer, c.in-Ok.ensures.told, c.answering.ensures)
