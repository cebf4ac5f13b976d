use Rattle.std.proofs.Common.{sym, ◌∙◌}
use Rattle.asgi_routes.proofs.EndpointLemmas.{has_before, has_own}
use Rattle.asgi_routes.proofs.chain.ChainEndpoints.has.Goals as goal

pub returns-then-serves : goal.returns-then-serves
returns-then-serves g c =
    sym (has_own (g.R.Endpoints.methods c.args.self.now.rest c.args.pattern) c.args.self.now.pattern c.args.self.now.method c.args.pattern c.args.name.now (sym c.serves.ensures ∙ c.if-serves.true))

pub returns : goal.returns
returns g c =
    c.has.ensures
    ∙ sym (has_before (g.R.Endpoints.methods c.args.self.now.rest c.args.pattern) c.args.self.now.pattern c.args.self.now.method c.args.pattern c.args.name.now
    (sym c.serves.ensures ∙ c.if-serves.false))
