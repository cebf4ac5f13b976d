-- The key of the opening handshake (RFC 6455, sections 4.1 and 4.2.1; RFC 4648, section 4).
use Rattle.std.specs.Prelude.{◌≡◌, ℕ, Bool, true, false, ◌&&◌, List, length, ◌==◌, codes, Option, Some, None}
use Rattle.base64.specs.Engines.{standard}
use Rattle.base64.specs.GeneralPurpose.{IsBytes, decoded_of}
use Rattle.base64.specs.Rfc4648.{encode}

-- "=", which fills up the last group (RFC 4648, section 4)
abbrev pub padding : ℕ
padding = 61

-- the alphabet of RFC 4648, section 4
abbrev pub alphabet : List ℕ
alphabet = codes "ABCDEFGHIJKLMNOPQRSTUVWXYZabcdefghijklmnopqrstuvwxyz0123456789+/"

-- base64 with padding (RFC 4648, section 4)
unfoldable pub base64 : List ℕ → List ℕ
base64 = encode alphabet padding true

-- a key: "a nonce consisting of a randomly selected 16-byte value that has been base64-encoded" (RFC 6455, section 4.1,
-- item 7), which is 24 bytes
pub record IsKey (key : List ℕ) : Type 0 where
  pub size : length key ≡ 24
  pub nonce : List ℕ
  pub nonce_size : length nonce ≡ 16
  pub nonce_bytes : IsBytes nonce
  pub encoded : key ≡ base64 nonce

-- 16 bytes were decoded
abbrev pub is_nonce : Option (List ℕ) → Bool
is_nonce None = false
is_nonce (Some nonce) = length nonce == 16

-- "when decoded, is 16 bytes in length" (RFC 6455, section 4.2.1, item 5), by a strict decoder: it holds exactly if the bytes are
-- a key
abbrev pub is_key : List ℕ → Bool
is_key key = length key == 24 && is_nonce (decoded_of standard key)
