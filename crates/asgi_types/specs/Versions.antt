-- The version of a request (RFC 9112, section 2.3).
use Rattle.std.specs.Prelude.{Bool, true, false}
use Rattle.asgi_types.specs.declared.outgoing.HttpVersion.{HttpVersion}
use Rattle.asgi_types.specs.declared.outgoing.HttpVersion.TheVariants.{V10, V11}

-- HTTP/1.1, and not HTTP/1.0
abbrev pub is_v11 : HttpVersion → Bool
is_v11 V10 = false
is_v11 V11 = true
