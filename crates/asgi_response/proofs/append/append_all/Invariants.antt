use Rattle.std.proofs.Common.{◌≡◌, ◌≤◌, ◌+◌, ◌++◌, take, flat_map, length, List, ℕ, Bor}
use Rattle.std.specs.Vec.{vec_len, vec_capacity}
use Rattle.asgi_response.proofs.append.append_all.Given as goal

abbrev pub invariant-loop-text : goal.invariant-loop-text
invariant-loop-text l = record {
  items : l.out.items ≡ l.fn.out.items ++ flat_map (λ (t : Bor (List ℕ)). t.now) (take l.text-index l.texts);
  len : vec_len l.out ≡ vec_len l.fn.out + length (flat_map (λ (t : Bor (List ℕ)). t.now) (take l.text-index l.texts));
  room : vec_len l.fn.out + length (flat_map (λ (t : Bor (List ℕ)). t.now) l.texts) ≤ vec_capacity l.out;
  capacity : vec_capacity l.fn.out ≤ vec_capacity l.out;
}
