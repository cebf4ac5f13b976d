use Rattle.std.proofs.Common.{◌≡◌, ◌++◌, ℕ, length, List}
use Rattle.asgi_request.specs.Upgrade as spec
use Rattle.asgi_request.proofs.subprotocols.push_tokens.Given as goal

abbrev pub invariant-loop-part : goal.invariant-loop-part
invariant-loop-part l = (done : List (List ℕ)) × (l.names ≡ l.fn.names ++ done) × (spec.tokens_of l.value ≡ done ++ spec.tokens_of l.rest)

abbrev pub decreases-loop-part : goal.decreases-loop-part
decreases-loop-part l = length l.rest
