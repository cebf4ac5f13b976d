use Rattle.std.proofs.Common.{List, ℕ, ap, ◌∙◌, reverse}
use Rattle.httparse.specs.Grammar.{skip_ows, trim_ows}
use Rattle.asgi_types.proofs.tokens.trimmed.Goals as goal

pub returns : goal.returns
unfolding trim_ows
returns c = c.trim_end.ensures ∙ ap (λ (p : List ℕ). reverse (skip_ows (reverse p))) c.trim_start.ensures
