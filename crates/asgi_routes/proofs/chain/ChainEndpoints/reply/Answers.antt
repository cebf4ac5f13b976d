use Rattle.std.proofs.Common.{sym, ◌∙◌}
use Rattle.std.proofs.lemmas.Result.{IfOk-weaker}
use Rattle.asgi_handlers.specs.Params.{params_of}
use Rattle.asgi_routes.proofs.EndpointLemmas.{gives_before, gives_own}
use Rattle.asgi_routes.proofs.chain.ChainEndpoints.reply.Goals as goal

pub returns-then-serves : goal.returns-then-serves
returns-then-serves g c =
    gives_own (g.R.Endpoints.methods c.args.self.now.rest c.args.pattern) c.args.self.now.pattern c.args.self.now.method c.args.pattern c.args.name.now
    (g.E.Endpoint.replies c.args.self.now.endpoint c.args.request.now.scope.now (params_of c.args.request.now.params.now) c.args.request.now.body.now)
    (g.R.Endpoints.allows c.args.self.now.rest c.args.pattern c.args.name.now c.args.request.now.scope.now (params_of c.args.request.now.params.now) c.args.request.now.body.now)
    c.in_ok-reply.field-0 (sym c.serves.ensures ∙ c.if-serves.true) c.in_ok-reply.ensures

pub returns : goal.returns
returns g c =
    IfOk-weaker c.reply-2.result _ _
    (λ found gives. gives_before (g.R.Endpoints.methods c.args.self.now.rest c.args.pattern) c.args.self.now.pattern c.args.self.now.method c.args.pattern c.args.name.now
    (g.E.Endpoint.replies c.args.self.now.endpoint c.args.request.now.scope.now (params_of c.args.request.now.params.now) c.args.request.now.body.now)
    (g.R.Endpoints.allows c.args.self.now.rest c.args.pattern c.args.name.now c.args.request.now.scope.now (params_of c.args.request.now.params.now) c.args.request.now.body.now)
    found (sym c.serves.ensures ∙ c.if-serves.false) gives) c.reply-2.ensures
