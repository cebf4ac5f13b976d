use Rattle.std.proofs.lemmas.Result.{IfOk-weaker, on_ok_weaker}
use Rattle.asgi_routes.proofs.PatternLemmas.{known_fit, known_kept, known_number, new_fit, new_kept, new_number}
use Rattle.asgi_routes.proofs.table.Table.with.Goals as goal

pub returns-in-Some-clause-patterns : goal.returns-in-Some-clause-patterns
returns-in-Some-clause-patterns c = known_kept c.args.self.patterns.items c.as_slice.result.now c.args.pattern.now c.as_slice.ensures.value c.in-Some.number c.in-Some.ensures

pub returns-in-Some-clause-number : goal.returns-in-Some-clause-number
returns-in-Some-clause-number c = known_number c.args.self.patterns.items c.as_slice.result.now c.args.pattern.now c.as_slice.ensures.value c.in-Some.number c.in-Some.ensures

pub returns-in-Some-clause-fit : goal.returns-in-Some-clause-fit
returns-in-Some-clause-fit c = known_fit c.args.self.patterns.items c.as_slice.result.now c.args.pattern.now c.as_slice.ensures.value c.in-Some.number c.in-Some.ensures

pub returns-in-None-clause-patterns : goal.returns-in-None-clause-patterns
returns-in-None-clause-patterns c =
    IfOk-weaker c.with_new.result _ _
    (λ made is. new_kept c.args.self.patterns.items c.as_slice.result.now c.args.pattern.now c.as_slice.ensures.value made.0.patterns.items c.in-None.ensures is) c.with_new.ensures.patterns

pub returns-in-None-clause-number : goal.returns-in-None-clause-number
returns-in-None-clause-number c =
    IfOk-weaker c.with_new.result _ _
    (λ made is. new_number c.args.self.patterns.items c.as_slice.result.now c.args.pattern.now c.as_slice.ensures.value made.1 c.in-None.ensures is) c.with_new.ensures.number

pub returns-in-None-clause-fit : goal.returns-in-None-clause-fit
returns-in-None-clause-fit c =
    on_ok_weaker c.with_new.result (new_fit c.args.self.patterns.items c.as_slice.result.now c.args.pattern.now c.as_slice.ensures.value c.in-None.ensures) c.with_new.ensures.fit
