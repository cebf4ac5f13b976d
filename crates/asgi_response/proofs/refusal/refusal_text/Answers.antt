use Rattle.std.proofs.Common.{sym, ap}
use Rattle.std.specs.Fmt.{digits}
use Rattle.asgi_response.specs.Exchange as spec
use Rattle.asgi_response.proofs.RefusalLemmas.{only_500}
use Rattle.asgi_response.proofs.refusal.refusal_text.Goals as goal

pub returns-then-status-eq400 : goal.returns-then-status-eq400
unfolding digits
returns-then-status-eq400 c = ap spec.refusal_text (sym c.if-status-eq400.true)

pub returns-then-status-eq403 : goal.returns-then-status-eq403
unfolding digits
returns-then-status-eq403 c = ap spec.refusal_text (sym c.if-status-eq403.true)

pub returns-then-status-eq413 : goal.returns-then-status-eq413
unfolding digits
returns-then-status-eq413 c = ap spec.refusal_text (sym c.if-status-eq413.true)

pub returns-then-status-eq426 : goal.returns-then-status-eq426
unfolding digits
returns-then-status-eq426 c = ap spec.refusal_text (sym c.if-status-eq426.true)

pub returns-then-status-eq431 : goal.returns-then-status-eq431
unfolding digits
returns-then-status-eq431 c = ap spec.refusal_text (sym c.if-status-eq431.true)

pub returns-then-status-eq501 : goal.returns-then-status-eq501
unfolding digits
returns-then-status-eq501 c = ap spec.refusal_text (sym c.if-status-eq501.true)

pub returns : goal.returns
unfolding digits
returns c =
    ap spec.refusal_text (sym (only_500 c.args.status c.requires c.if-status-eq400.false c.if-status-eq403.false c.if-status-eq413.false
    c.if-status-eq426.false c.if-status-eq431.false c.if-status-eq501.false))
