-- The `sec-websocket-accept` value for a key (RFC 6455, sections 1.3 and 4.2.2, item 5.4).
use Rattle.std.specs.Prelude.{◌≡◌, ℕ, List, ◌++◌, codes}
use Rattle.sha1.specs.Sha1.{sha1}
use Rattle.asgi_request.specs.Key.{base64}

-- the globally unique identifier (section 1.3)
abbrev pub guid : List ℕ
guid = codes "258EAFA5-E914-47DA-95CA-C5AB0DC85B11"

-- the key and the identifier are concatenated, "taking the SHA-1 hash of this concatenated value to obtain a 20-byte
-- value and base64-encoding" it (section 4.2.2, item 5.4)
abbrev pub accept_value_of : List ℕ → List ℕ
accept_value_of key = base64 (sha1 (key ++ guid))

-- the example of section 1.3
abbrev pub AcceptValueExample : Type 0
AcceptValueExample = accept_value_of (codes "dGhlIHNhbXBsZSBub25jZQ==") ≡ codes "s3pPLMBiTxaQ9kYGzzhZRbK+xOo="
