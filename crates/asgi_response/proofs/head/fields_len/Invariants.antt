use Rattle.std.proofs.Common.{◌≡◌, ◌-◌, ◌^◌, length, map, min}
use Rattle.asgi_types.specs.Fields.{shown}
use Rattle.asgi_response.specs.Fields as spec
use Rattle.asgi_response.proofs.head.fields_len.Given as goal

abbrev pub invariant-loop-name : goal.invariant-loop-name
invariant-loop-name l = l.size ≡ min (length (spec.field_lines l.status (map shown l.yielded))) (2 ^ 64 - 1)
