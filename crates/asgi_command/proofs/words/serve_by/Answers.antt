use Rattle.std.proofs.Common.{◌≡◌, arith, sym, ◌∙◌, ap, rules}
use Rattle.std.specs.Prelude.{string_bytes, codes, not, bytes_eq, Some}
use Rattle.asgi_command.specs.Words.{number_in}
use Rattle.asgi_command.proofs.WordLemmas.{five_have, five_none}
use Rattle.asgi_command.proofs.words.serve_by.Goals as goal

pub returns-clause-some : goal.returns-clause-some
returns-clause-some c =
    let many : number_in 1 8 (string_bytes c.workers-item.result) ≡ Some c.in_ok-workers.workers.count = search rules in
    five_have string_bytes c.args.words.now c.serve-item.result c.port-item.result c.count-item.result c.name-item.result c.workers-item.result c.in_ok-workers.workers.count c.serve_with.result
    (omega (arith, c.requires)) c.serve-item.is c.port-item.is c.count-item.is c.name-item.is c.workers-item.is
    (sym c.if-ne.false ∙ c.ne.ensures ∙ ap (λ l. not (bytes_eq l (codes "serve"))) c.as_str.ensures.value) many
    (rw (sym c.as_str-3.ensures.value) (rw (sym c.as_str-4.ensures.value) (rw (sym c.as_str-5.ensures.value) c.serve_with.ensures.some)))

pub returns-clause-none : goal.returns-clause-none
returns-clause-none c =
    let many : number_in 1 8 (string_bytes c.workers-item.result) ≡ Some c.in_ok-workers.workers.count = search rules in
    five_none string_bytes c.args.words.now c.serve-item.result c.port-item.result c.count-item.result c.name-item.result c.workers-item.result c.in_ok-workers.workers.count c.serve_with.result
    (omega (arith, c.requires)) c.serve-item.is c.port-item.is c.count-item.is c.name-item.is c.workers-item.is many
    (rw (sym c.as_str-3.ensures.value) (rw (sym c.as_str-4.ensures.value) (rw (sym c.as_str-5.ensures.value) c.serve_with.ensures.none)))
