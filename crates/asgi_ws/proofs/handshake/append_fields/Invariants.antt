use Rattle.std.proofs.Common.{◌≡◌, ◌++◌, flat_map}
use Rattle.asgi_response.specs.Fields.{field_line}
use Rattle.asgi_ws.proofs.handshake.append_fields.Given as goal

abbrev pub invariant-loop-name : goal.invariant-loop-name
invariant-loop-name l = l.initial.out.items ++ flat_map field_line l.headers ≡ l.out.items ++ flat_map field_line l.name-iterator
