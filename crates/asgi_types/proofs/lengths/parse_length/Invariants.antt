use Rattle.std.proofs.Common.{◌≡◌, ◌<◌, ◌^◌, true, take}
use Rattle.std.specs.List.{list_all}
use Rattle.asgi_types.specs.Lengths.{is_digit, number_of}
use Rattle.asgi_types.proofs.lengths.parse_length.Given as goal

abbrev pub invariant-loop-byte : goal.invariant-loop-byte
invariant-loop-byte l =
    (l.number ≡ number_of (take l.byte-index l.text)) × (list_all is_digit (take l.byte-index l.text) ≡ true) × (l.number < 10 ^ l.byte-index)
