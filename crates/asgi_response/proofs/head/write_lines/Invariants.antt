use Rattle.std.proofs.Common.{◌≡◌, ◌≤◌, ◌++◌, map, flat_map}
use Rattle.std.specs.Vec.{vec_capacity}
use Rattle.asgi_types.specs.Fields.{shown}
use Rattle.asgi_response.specs.Fields as spec
use Rattle.asgi_response.proofs.head.write_lines.Given as goal

abbrev pub invariant-loop-name : goal.invariant-loop-name
invariant-loop-name l = record {
  items : l.out.items ≡ l.initial.out.items ++ flat_map spec.field_line (map shown l.yielded);
  all : map shown l.yielded ++ l.name-iterator ≡ l.headers;
  capacity : vec_capacity l.initial.out ≤ vec_capacity l.out;
}
