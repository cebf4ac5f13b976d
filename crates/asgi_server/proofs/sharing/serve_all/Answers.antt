use Rattle.asgi_crew.proofs.Seen.{shared_by}
use Rattle.asgi_server.specs.Connections.{served_by}
use Rattle.asgi_server.proofs.sharing.serve_all.Goals as goal

pub returns-clause-served : goal.returns-clause-served
returns-clause-served g c =
    shared_by g.G.Engine.pauses _ (served_by g.L.Line.state (g.G.Engine.answers c.args.app.now) c.args.limits.now c.args.state.now)
    (λ was is given report h. h) _ _ _ _ _ _ c.share.ensures.shared
