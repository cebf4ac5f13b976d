use Rattle.asgi_ws.proofs.wired.WiredMessages.read_message.Goals as goal

pub returns-clause-answers : goal.returns-clause-answers
returns-clause-answers g c none = rw c.note_read.ensures.answer (c.read_session-answer.ensures.answers none)
