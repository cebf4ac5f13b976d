use Rattle.std.proofs.Common.{◌≡◌}
use Rattle.std.specs.List.{list_any}
use Rattle.asgi_protocol.specs.Rules.{is_handshake_name as is_name}
use Rattle.asgi_protocol.proofs.rules.has_handshake_field.Given as goal

abbrev pub invariant-loop-name : goal.invariant-loop-name
invariant-loop-name l =
    (goal.iterator-loop-name).can_next l.name-iterator ×
    (goal.iterator-loop-name).is_finite l.name-iterator ×
    (list_any (λ field. is_name field.name) l.fn.headers ≡ list_any (λ field. is_name field.name) l.name-iterator)
