use Rattle.asgi_halves.proofs.session_half.WebSocketHalf.close_by.Goals as goal

pub returns-in_default-clause-speaks : goal.returns-in_default-clause-speaks
returns-in_default-clause-speaks g c = c.refuse.ensures.speaks c.args.code c.args.reason.now
