use Rattle.std.proofs.Common.{◌≡◌, take, map}
use Rattle.asgi_request.specs.private.Steps.{field_at}
use Rattle.asgi_request.proofs.head.headers_of.Given as goal

abbrev pub invariant-loop-span : goal.invariant-loop-span
invariant-loop-span l = l.headers ≡ map (field_at l.text) (take l.span-index l.spans)
