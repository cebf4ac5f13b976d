use Rattle.std.proofs.Common.{◌≡◌}
use Rattle.asgi_request.specs.FieldValues as spec
use Rattle.asgi_request.proofs.fields.value_named.Given as goal

abbrev pub invariant-loop-field_name : goal.invariant-loop-field_name
invariant-loop-field_name l = spec.value_named l.headers l.name ≡ spec.value_named l.field_name-iterator l.name
