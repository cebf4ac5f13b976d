use Rattle.asgi_halves.proofs.SessionWords.{[], append-nil}
use Rattle.asgi_halves.proofs.session_half.WebSocketHalfExchangeKind.read_on.Goals as goal

pub returns-clause-leads : goal.returns-clause-leads
returns-clause-leads g c scene read view x = let y = c.read.ensures.leads scene read view x in ([], y.0, y.1, rw append-nil y.2)
