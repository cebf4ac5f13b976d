-- A key is what the standard decoder decodes to 16 bytes.
use Rattle.std.proofs.Common.{◌≡◌, ℕ, false, List, length, take, drop, take-append-drop, Ok, Err, refl, ap, ◌∙◌, sym, subst}
use Rattle.std.specs.Prelude.{◌==◌}
use Rattle.base64.specs.declared.decode.DecodeError.{DecodeError}
use Rattle.base64.specs.Engines.{standard}
use Rattle.base64.specs.GeneralPurpose.{IsBytes, IsConsistent, IsStrict, decode_of, decoded_of, encode_of}
use Rattle.base64.proofs.EngineFacts.{decode_of-encode_of, decode_of_strict, front_bytes}
use Rattle.asgi_request.specs.Key.{base64, IsKey, is_nonce}

-- the decoder's own encoding is that of RFC 4648
pub standard_encodes : (bytes : List ℕ) → encode_of standard bytes ≡ base64 bytes
unfolding base64
standard_encodes bytes = refl

standard_is_strict : IsStrict standard
standard_is_strict = (refl, refl)

standard_is_consistent : IsConsistent standard
standard_is_consistent = refl

decode_of_key : (key : List ℕ) → (k : IsKey key) → decode_of standard key ≡ Ok k.nonce
decode_of_key key k =
    rw (k.encoded, ← standard_encodes k.nonce) (decode_of-encode_of standard k.nonce standard_is_consistent k.nonce_bytes)

pub decoded_test : (key nonce : List ℕ) (size : ℕ) → decode_of standard key ≡ Ok nonce → length nonce ≡ size → (size == 16) ≡ is_nonce (decoded_of standard key)
unfolding decoded_of
decoded_test key nonce size decoded len = rw (decoded, len) refl

pub failed_test : (key : List ℕ) (e : DecodeError) → decode_of standard key ≡ Err e → false ≡ is_nonce (decoded_of standard key)
unfolding decoded_of
failed_test key e failed = rw failed refl

pub key_from_decode : (key nonce : List ℕ) → IsBytes key → length key ≡ 24 → length nonce ≡ 16 → IsBytes nonce → decode_of standard key ≡ Ok nonce → IsKey key
key_from_decode key nonce bytes size nonce_size nonce_bytes decoded = record {
  size = size;
  nonce = nonce;
  nonce_size = nonce_size;
  nonce_bytes = nonce_bytes;
  encoded = decode_of_strict standard key nonce standard_is_strict bytes decoded ∙ standard_encodes nonce;
}

pub nonce_of_key : (key nonce : List ℕ) → decode_of standard key ≡ Ok nonce → IsKey key → length nonce ≡ 16
nonce_of_key key nonce decoded k =
    let same : nonce ≡ k.nonce = cc (decode_of_key key k, decoded) in
    ap length same ∙ k.nonce_size

pub no_key : (key : List ℕ) (e : DecodeError) → decode_of standard key ≡ Err e → ¬ (IsKey key)
no_key key e failed k = cc (decode_of_key key k, failed)

pub first_bytes : (n : ℕ) (bytes : List ℕ) → IsBytes bytes → IsBytes (take n bytes)
first_bytes n bytes h = front_bytes (take n bytes) (drop n bytes) (subst IsBytes (sym (take-append-drop n bytes)) h)
