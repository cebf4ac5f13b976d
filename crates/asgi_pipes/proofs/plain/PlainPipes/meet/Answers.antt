use Rattle.std.proofs.Common.{sym}
use Rattle.asgi_pipes.proofs.StateLemmas.{heard_in, lawful_in}
use Rattle.asgi_pipes.proofs.PairLemmas.{left_inward, left_outward}
use Rattle.asgi_pipes.proofs.plain.PlainPipes.meet.Goals as goal

pub returns-clause-inward : goal.returns-clause-inward
returns-clause-inward c = rw (c.len.ensures, c.len-2.ensures, sym c.args.app.now.pulled_is) (left_inward c.args.conn.now c.args.app.now c.requires)

pub returns-clause-outward : goal.returns-clause-outward
returns-clause-outward c = rw (c.len-3.ensures, c.len-4.ensures) (left_outward c.args.conn.now c.args.app.now c.requires)

pub returns-clause-heard : goal.returns-clause-heard
returns-clause-heard c = heard_in c.args.app.now.state.value

pub returns-clause-lawful : goal.returns-clause-lawful
returns-clause-lawful c = lawful_in c.args.app.now.state.value
