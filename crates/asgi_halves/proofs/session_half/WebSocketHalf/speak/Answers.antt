use Rattle.asgi_halves.proofs.session_half.WebSocketHalf.speak.Goals as goal

pub returns-in-WsSend-clause-speaks : goal.returns-in-WsSend-clause-speaks
returns-in-WsSend-clause-speaks g c = rw c.in-WsSend.is c.send.ensures.speaks
