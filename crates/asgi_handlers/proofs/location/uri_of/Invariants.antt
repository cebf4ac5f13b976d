use Rattle.std.proofs.Common.{◌≡◌, ◌++◌, flat_map, take}
use Rattle.asgi_handlers.specs.Locations.{uri_octet}
use Rattle.asgi_handlers.proofs.location.uri_of.Given as goal

abbrev pub invariant-loop-byte : goal.invariant-loop-byte
invariant-loop-byte l = l.uri.items ≡ flat_map uri_octet (take l.byte-index l.text)
