use Rattle.std.proofs.Common.{◌≡◌, ◌≤◌, ◌<◌, ◌^◌, ◌+◌, drop, length, false}
use Rattle.std.specs.Fmt.{digits, digits_onto}
use Rattle.asgi_response.proofs.append.hexadecimal.Given as goal

abbrev pub invariant-loop-at : goal.invariant-loop-at
invariant-loop-at l = record {
  inside : l.at ≤ 16;
  size : length l.buffer ≡ 16;
  rest : l.rest < 16 ^ l.at;
  more : l.at < 16 → 0 < l.rest;
  front : digits_onto (l.at + 48) 16 false l.rest (drop l.at l.buffer) ≡ digits 16 false l.number;
}

abbrev pub decreases-loop-at : goal.decreases-loop-at
decreases-loop-at l = l.at
