use Rattle.std.proofs.Common.{◌≡◌, ◌++◌}
use Rattle.std.specs.Prelude.{codes}
use Rattle.std.specs.Option.{option_copied, option_to_list}
use Rattle.asgi_protocol.specs.ContentLengths.{values_of}
use Rattle.asgi_protocol.proofs.content_length.ContentLength.of.Given as goal

abbrev pub invariant-loop-name : goal.invariant-loop-name
invariant-loop-name l =
    (goal.iterator-loop-name).can_next l.name-iterator ×
    (goal.iterator-loop-name).is_finite l.name-iterator ×
    (values_of l.fn.headers (codes "content-length")
    ≡ option_to_list (option_copied l.found) ++ values_of l.name-iterator (codes "content-length"))
