use Rattle.asgi_halves.proofs.HalfWords.{[], append-nil}
use Rattle.asgi_halves.proofs.half.HttpHalf.read_rest_or_end.Goals as goal

pub returns-in-Waits-clause-leads : goal.returns-in-Waits-clause-leads
returns-in-Waits-clause-leads g c scene read view x = ([], view.arrived, view.written, rw append-nil x)
