-- The fields that the makers of replies add are fields that may stand.
use Rattle.std.proofs.Common.{ℕ, ◌<◌, ◌^◌, List, [], ◌∷◌, IsTrue, refl, arith}
use Rattle.std.specs.Prelude.{codes, decimal}
use Rattle.std.proofs.lemmas.Fmt.{decimal_is_IsNumeral}
use Rattle.http_header.specs.FieldName.{IsFieldName}
use Rattle.http_header.specs.FieldValue.{IsFieldValue}
use Rattle.http_header.specs.Token.{is_value_byte}
use Rattle.http_header.proofs.TokenLemmas.{AllPass-from_test, IsFieldName-from_test}
use Rattle.std.proofs.lemmas.Bool.Decides.{nat_tests}
use Rattle.std.proofs.lemmas.List.Elements.{All-nil, All-cons}
use Rattle.std.specs.Str.Parse.{AllDigits}

pub content_type_is_a_name : IsFieldName (codes "content-type")
content_type_is_a_name = IsFieldName-from_test (codes "content-type") refl

pub content_length_is_a_name : IsFieldName (codes "content-length")
content_length_is_a_name = IsFieldName-from_test (codes "content-length") refl

pub location_is_a_name : IsFieldName (codes "location")
location_is_a_name = IsFieldName-from_test (codes "location") refl

pub text_is_a_value : IsFieldValue (codes "text/plain; charset=utf-8")
text_is_a_value = AllPass-from_test is_value_byte (codes "text/plain; charset=utf-8") refl

pub html_is_a_value : IsFieldValue (codes "text/html; charset=utf-8")
html_is_a_value = AllPass-from_test is_value_byte (codes "text/html; charset=utf-8") refl

pub json_is_a_value : IsFieldValue (codes "application/json")
json_is_a_value = AllPass-from_test is_value_byte (codes "application/json") refl

digits_are_a_value : (bytes : List ℕ) → AllDigits 10 bytes → IsFieldValue bytes
digits_are_a_value [] h = All-nil (λ x. IsTrue (is_value_byte x))
digits_are_a_value (b ∷ bytes) h = All-cons (λ x. IsTrue (is_value_byte x)) b bytes (grind (arith, nat_tests)) (digits_are_a_value bytes h.1)

-- a length in decimal
pub length_is_a_value : (n : ℕ) → n < 2 ^ 64 → IsFieldValue (decimal n)
length_is_a_value n fits = digits_are_a_value (decimal n) (decimal_is_IsNumeral n fits).0.1
