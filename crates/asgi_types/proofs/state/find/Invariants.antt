use Rattle.std.proofs.Common.{◌≡◌, take, None}
use Rattle.asgi_types.specs.States.{value_of}
use Rattle.asgi_types.proofs.state.find.Given as goal

abbrev pub invariant-loop-index : goal.invariant-loop-index
invariant-loop-index l = value_of (take l.index l.entries) l.name ≡ None
