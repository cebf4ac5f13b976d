use Rattle.std.proofs.Common.{◌≡◌, arith, sym, ◌∙◌, ap, rules}
use Rattle.std.specs.Prelude.{string_bytes, codes, not, bytes_eq}
use Rattle.asgi_command.proofs.WordLemmas.{four_have, four_none}
use Rattle.asgi_command.proofs.words.serve_by_two.Goals as goal

pub returns-clause-some : goal.returns-clause-some
returns-clause-some c =
    let two : c.in_ok-new.field-0.count ≡ 2 = search rules in
    four_have string_bytes c.args.words.now c.first-item.result c.port-item.result c.count-item.result c.name-item.result c.in_ok-new.field-0.count c.serve_with.result
    (omega (arith, c.requires)) c.first-item.is c.port-item.is c.count-item.is c.name-item.is
    (sym c.if-ne.false ∙ c.ne.ensures ∙ ap (λ l. not (bytes_eq l (codes "serve"))) c.as_str.ensures.value) two
    (rw (sym c.as_str-2.ensures.value) (rw (sym c.as_str-3.ensures.value) (rw (sym c.as_str-4.ensures.value) c.serve_with.ensures.some)))

pub returns-clause-none : goal.returns-clause-none
returns-clause-none c =
    let two : c.in_ok-new.field-0.count ≡ 2 = search rules in
    four_none string_bytes c.args.words.now c.first-item.result c.port-item.result c.count-item.result c.name-item.result c.in_ok-new.field-0.count c.serve_with.result
    (omega (arith, c.requires)) c.first-item.is c.port-item.is c.count-item.is c.name-item.is two
    (rw (sym c.as_str-2.ensures.value) (rw (sym c.as_str-3.ensures.value) (rw (sym c.as_str-4.ensures.value) c.serve_with.ensures.none)))
