use Rattle.std.proofs.Common.{length, map, ap, sym, ◌∙◌, ◌++◌, List, arith, length-append}
use Rattle.asgi_types.specs.Fields.{shown, HeaderField}
use Rattle.asgi_response.specs.Fields as spec
use Rattle.asgi_response.proofs.HeadLemmas.{line_fits}
use Rattle.asgi_response.proofs.RoomLemmas.{on_err}
use Rattle.asgi_response.proofs.head.write_fields.Goals as goal

pub returns-in_err-write_field-clause-full : goal.returns-in_err-write_field-clause-full
returns-in_err-write_field-clause-full c =
    let before = map shown c.loop-name.yielded in
    let all = ap (λ (l : List HeaderField). before ++ l) (sym c.in-Some.ensures.steps) ∙ c.loop-name.invariant.all in
    let fits = line_fits c.args.status before c.next.new.self c.args.headers.now (shown (c.in-Some.name, c.in-Some.value)) (sym c.is_shown.ensures ∙ c.if-is_shown.true) all in
    let len = ap length c.loop-name.invariant.items ∙ length-append c.args.out.now.items (spec.field_lines c.args.status before) in
    on_err c.from_residual.result
    (omega (arith, c.in_err-write_field.ensures.full, c.loop-name.invariant.capacity, c.loop-name.out.ok.0, c.args.out.now.ok.0, len, fits))
