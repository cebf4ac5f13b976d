use Rattle.asgi_pipes.proofs.StateLemmas.{heard_in, lawful_in}
use Rattle.asgi_pipes.proofs.rings.RingsPipes.meet.Goals as goal

pub returns-clause-heard : goal.returns-clause-heard
returns-clause-heard c = heard_in c.args.app.now.state

pub returns-clause-lawful : goal.returns-clause-lawful
returns-clause-lawful c = lawful_in c.args.app.now.state
