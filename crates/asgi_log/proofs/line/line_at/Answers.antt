use Rattle.asgi_log.proofs.LineLemmas.{prefixed}
use Rattle.asgi_log.proofs.line.line_at.Goals as goal

pub returns : goal.returns
returns g c = prefixed _ _ _ _ (rw c.as_str.ensures.value at c.in_ok-line.ensures) c.in_ok-text.ensures
