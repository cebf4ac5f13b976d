use Rattle.asgi_ws.proofs.tap.TapWrite.write.Goals as goal

pub returns-clause-tries : goal.returns-clause-tries
returns-clause-tries g c = λ free. rw c.note.ensures.stays c.write_retrying-wrote.ensures.tries
