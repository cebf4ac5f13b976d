use Rattle.asgi_halves.proofs.{SessionTakeLemmas.judged_after, SessionTakeLemmas.not_passed, SessionTakeLemmas.passed, SessionWords.WebSocket, SessionWords.false}
use Rattle.asgi_halves.proofs.session_half.WebSocketHalf.say.Goals as goal

pub returns-in-Pass-clause-says : goal.returns-in-Pass-clause-says
returns-in-Pass-clause-says g c scene read view x =
    let e = c.judge.ensures in
    c.speak.ensures.speaks scene read view c.args.self.now.judge x (passed x c.requires.running c.args.event c.judge.result (λ said. e.verdict WebSocket said false) c.in-Pass.is)
    (judged_after x c.requires.running c.args.event c.judge.new.self (λ said. e.passed c.in-Pass.is WebSocket said false))

pub returns-in_default-clause-says : goal.returns-in_default-clause-says
returns-in_default-clause-says g c scene read view x =
    let e = c.judge.ensures in
    not_passed x c.requires.running c.args.event c.judge.result (λ said. e.verdict WebSocket said false) c.judge.new.self c.in_default.not-Pass e.kept
