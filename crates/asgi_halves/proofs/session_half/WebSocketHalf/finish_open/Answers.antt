use Rattle.asgi_halves.proofs.SessionEndLemmas.{ends_broken, ends_left}
use Rattle.asgi_halves.proofs.session_half.WebSocketHalf.finish_open.Goals as goal

pub returns-in-Broken : goal.returns-in-Broken
returns-in-Broken g c = record { leads = λ scene read view x. ends_broken x c.args.code c.requires.ending c.requires.open c.in-Broken.is }

pub returns-in-Closed : goal.returns-in-Closed
returns-in-Closed g c = record { leads = λ scene read view x. ends_left x c.args.code c.requires.ending c.requires.open c.in-Closed.field-0 c.in-Closed.field-1 c.in-Closed.is }
