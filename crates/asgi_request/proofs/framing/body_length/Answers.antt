use Rattle.std.proofs.Common.{sym, ◌∙◌}
use Rattle.asgi_request.proofs.NamedLemmas.{no_body}
use Rattle.asgi_request.proofs.framing.body_length.Goals as goal

pub returns-then-not-delimits_body-clause-first : goal.returns-then-not-delimits_body-clause-first
returns-then-not-delimits_body-clause-first c =
    sym (no_body c.args.version c.args.headers.now c.args.max_body (sym c.delimits_body.ensures ∙ c.if-not-delimits_body.true))
