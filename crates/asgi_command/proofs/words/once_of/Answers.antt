use Rattle.std.proofs.Common.{arith, sym, ◌∙◌, ap}
use Rattle.std.specs.Prelude.{string_bytes, codes, not, bytes_eq}
use Rattle.asgi_command.specs.Words.{word_of}
use Rattle.asgi_command.proofs.WordLemmas.{both_have}
use Rattle.asgi_command.proofs.words.once_of.Goals as goal

pub returns-clause-some : goal.returns-clause-some
returns-clause-some c =
    both_have string_bytes c.args.words.now c.once-item.result c.name-item.result (codes "once") word_of c.app_named.result
    (omega arith) c.once-item.is c.name-item.is
    (sym c.if-ne.false ∙ c.ne.ensures ∙ ap (λ l. not (bytes_eq l (codes "once"))) c.as_str.ensures.value)
    (rw (sym c.as_str-2.ensures.value) c.app_named.ensures.some)
