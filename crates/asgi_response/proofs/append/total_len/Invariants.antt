use Rattle.std.proofs.Common.{◌≡◌, take, flat_map, length, List, ℕ, Bor}
use Rattle.asgi_response.proofs.append.total_len.Given as goal

abbrev pub invariant-loop-text : goal.invariant-loop-text
invariant-loop-text l = l.total ≡ length (flat_map (λ (t : Bor (List ℕ)). t.now) (take l.text-index l.texts))
