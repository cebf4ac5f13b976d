use Rattle.asgi_talks.proofs.talking.reply_to.Goals as goal

pub returns-in-Ok : goal.returns-in-Ok
returns-in-Ok g c = (c.hear.new.self, c.in-Ok.answer, c.in-Ok.ensures, c.answering.ensures)
