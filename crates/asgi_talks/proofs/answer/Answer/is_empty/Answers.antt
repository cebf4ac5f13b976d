use Rattle.std.proofs.Common.{sym, ◌∙◌}
use Rattle.asgi_talks.proofs.StepLemmas.{closing_is_left, messages_are_left}
use Rattle.asgi_talks.proofs.answer.Answer.is_empty.Goals as goal

pub returns-then-is_some : goal.returns-then-is_some
returns-then-is_some c = closing_is_left c.args.self.now (sym c.is_some.ensures ∙ c.if-is_some.true)

pub returns : goal.returns
returns c = messages_are_left c.args.self.now c.is_empty.result (sym c.is_some.ensures ∙ c.if-is_some.false) c.is_empty.ensures
