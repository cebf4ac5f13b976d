use Rattle.asgi_reactor.proofs.CountLemmas.{asked_within}
use Rattle.asgi_reactor.proofs.reactor.SocketReactorReactor.try_next.Goals as goal

pub returns-clause-kept : goal.returns-clause-kept
returns-clause-kept g c =
    rw (c.note.ensures.same, c.with.ensures, c.accept-next.ensures.told.0)
    (asked_within _ c.args.self.now.told.items c.accept-next.result c.args.self.now.left _ c.args.self.now.ticketer _ c.accept-next.ensures.some c.accept-next.ensures.none c.accept-next.ensures.share)
