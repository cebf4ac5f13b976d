use Rattle.std.proofs.Common.{[]}
use Rattle.asgi_many_tests.proofs.held.table_of.Goals as goal

pub returns-in-Ok : goal.returns-in-Ok
returns-in-Ok g c = ([], [], c.in-Ok.ensures.holds c.args.calls.now.app.now c.args.state.now)
