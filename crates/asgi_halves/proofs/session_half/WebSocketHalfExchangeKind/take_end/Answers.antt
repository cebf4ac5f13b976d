use Rattle.asgi_halves.proofs.{SessionTakeLemmas.ended_taken, SessionWords.is_by_input}
use Rattle.asgi_halves.proofs.session_half.WebSocketHalfExchangeKind.take_end.Goals as goal

pub returns : goal.returns
returns c = record { ends = λ scene now read view x. (is_by_input view.broken, ended_taken x c.requires.running c.args.kind) }
