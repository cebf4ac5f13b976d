use Rattle.asgi_halves.proofs.{SessionPassLemmas.is_in_scope, SessionTakeLemmas.none_left, SessionWords.said_in}
use Rattle.asgi_halves.proofs.session_half.WebSocketHalf.speak_of.Goals as goal

pub returns-in-WsClose-clause-speaks : goal.returns-in-WsClose-clause-speaks
returns-in-WsClose-clause-speaks g c = rw c.in-WsClose.is c.close_by.ensures.speaks

pub returns-in_default-clause-speaks : goal.returns-in_default-clause-speaks
returns-in_default-clause-speaks g c scene read view before x pass judged =
    let n = c.in_default in
    none_left c.args.event.now c.requires.no_message n.not-WsAccept n.not-WsClose n.not-DenialStart n.not-DenialBody (is_in_scope scene.facts (said_in scene view) c.args.event.now pass)
