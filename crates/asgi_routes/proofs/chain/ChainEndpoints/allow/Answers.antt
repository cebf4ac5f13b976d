use Rattle.std.specs.Prelude.{string_bytes}
use Rattle.std.proofs.lemmas.Result.{on_ok_weaker}
use Rattle.asgi_routes.specs.Endpoints.{own_methods}
use Rattle.asgi_routes.proofs.EndpointLemmas.{listed_after}
use Rattle.asgi_routes.proofs.chain.ChainEndpoints.allow.Goals as goal

pub returns : goal.returns
returns g c =
    on_ok_weaker c.allow_own.result
    (listed_after (g.R.Endpoints.methods c.args.self.now.rest c.args.pattern) (own_methods c.args.self.now.pattern c.args.self.now.method c.args.pattern)
    (string_bytes c.args.text.now) (string_bytes c.allow.new.text) (string_bytes c.allow_own.new.text) c.in_ok-allow.ensures) c.allow_own.ensures
