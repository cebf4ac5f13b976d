use Rattle.std.proofs.Common.{◌≡◌, ◌-◌, ◌^◌, length, map, min, flat_map}
use Rattle.asgi_types.specs.Fields.{shown}
use Rattle.asgi_response.specs.Fields as spec
use Rattle.asgi_response.proofs.head.lines_len.Given as goal

abbrev pub invariant-loop-name : goal.invariant-loop-name
invariant-loop-name l = l.size ≡ min (length (flat_map spec.field_line (map shown l.yielded))) (2 ^ 64 - 1)
