-- A URI reference is a value that a field may have.
use Rattle.std.proofs.Common.{◌≡◌, ℕ, true, List, [], ◌∷◌, IsTrue, sym, subst, arith}
use Rattle.std.proofs.lemmas.Bool.{cond_both}
use Rattle.std.proofs.lemmas.Bool.Decides.{nat_tests}
use Rattle.std.proofs.lemmas.List.Elements.{All-nil, All-cons, All-append, All-weaker}
use Rattle.http_header.specs.FieldValue.{IsFieldValue}
use Rattle.http_header.specs.Token.{is_value_byte}
use Rattle.percent_encoding.specs.Percent.{percent_encode_byte}
use Rattle.percent_encoding.proofs.PercentLemmas.{IsEscapeByte, All-percent_encode_byte}
use Rattle.asgi_handlers.specs.Locations.{is_uri_byte, uri_octet, uri_reference}

escape_is_a_value : (b : ℕ) → IsEscapeByte b → IsTrue (is_value_byte b)
escape_is_a_value b is = grind (arith, nat_tests)

byte_is_a_value : (b : ℕ) → is_uri_byte b ≡ true → IsTrue (is_value_byte b)
byte_is_a_value b is = grind (arith, nat_tests)

octet_is_a_value : (b : ℕ) → IsFieldValue (uri_octet b)
octet_is_a_value b =
    cond_both (is_uri_byte b) (b ∷ []) (percent_encode_byte b) IsFieldValue
    (λ is. All-cons (λ x. IsTrue (is_value_byte x)) b [] (byte_is_a_value b is) (All-nil (λ x. IsTrue (is_value_byte x))))
    (λ is. All-weaker IsEscapeByte (λ x. IsTrue (is_value_byte x)) escape_is_a_value (percent_encode_byte b) (All-percent_encode_byte b))

reference_is_a_value : (bytes : List ℕ) → IsFieldValue (uri_reference bytes)
reference_is_a_value [] = All-nil (λ x. IsTrue (is_value_byte x))
reference_is_a_value (b ∷ bytes) = All-append (λ x. IsTrue (is_value_byte x)) (uri_octet b) (uri_reference bytes) (octet_is_a_value b) (reference_is_a_value bytes)

pub is_a_value : (uri text : List ℕ) → uri ≡ uri_reference text → IsFieldValue uri
is_a_value uri text is = subst IsFieldValue (sym is) (reference_is_a_value text)
