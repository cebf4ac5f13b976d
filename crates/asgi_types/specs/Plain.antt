-- What is kept of a request that wishes nothing.
use Rattle.std.specs.Prelude.{false, [], replicate}
use Rattle.asgi_types.specs.declared.facts.Facts.{Facts}
use Rattle.asgi_types.specs.declared.facts.Framing.TheVariants.{Length}
use Rattle.asgi_types.specs.declared.outgoing.HttpVersion.TheVariants.{V11}

-- HTTP/1.1, by another method than HEAD, without a body, with no field that asks for something, and no opening handshake
abbrev pub plain_request : Facts
plain_request = record { version = V11; head_only = false; close = false; expect = false; trailers_ok = false; framing = Length 0; key = replicate 24 0; subprotocols = [] }
