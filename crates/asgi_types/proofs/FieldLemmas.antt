-- What was judged is a valid field, and what is valid is read by the grammar of heads (RFC 9110, sections 5.1 and 5.5).
use Rattle.std.proofs.Common.{ℕ, List, IsTrue}
use Rattle.std.proofs.lemmas.List.Elements.{All-weaker}
use Rattle.http_header.specs.Token.{IsToken, is_token_byte}
use Rattle.http_header.specs.FieldName.{IsFieldName}
use Rattle.http_header.specs.FieldValue.{IsFieldValue}
use Rattle.http_header.proofs.TokenLemmas.{IsHeaderName-lowercase}
use Rattle.httparse.specs.Grammar.{AllPass, is_value_byte, IsToken as IsTokenRead, is_token_byte as is_token_byte_read}
use Rattle.asgi_types.specs.Fields.{HeaderField, IsValidField, field_of}

-- a name that was judged is valid in lower case
pub valid-field_of : (name value : List ℕ) → IsFieldName name → IsFieldValue value → IsValidField (field_of name value)
valid-field_of name value named valued =
    let kept = IsHeaderName-lowercase name named in
    record { name = kept.0.0; in_lower_case = kept.1; within_limit = kept.0.1; value = valued }

-- tchar is the same to `http_header` and to `httparse`
token_byte-read : (b : ℕ) → IsTrue (is_token_byte b) → IsTrue (is_token_byte_read b)
unfolding is_token_byte is_token_byte_read
token_byte-read b h = h

token-read : (bytes : List ℕ) → IsToken bytes → IsTokenRead bytes
token-read bytes h = (h.0, All-weaker (λ b. IsTrue (is_token_byte b)) (λ b. IsTrue (is_token_byte_read b)) token_byte-read bytes h.1)

-- a valid field has a name and a value by `httparse`'s grammar
pub valid-read : (f : HeaderField) → IsValidField f → IsTokenRead f.name × AllPass is_value_byte f.value
valid-read f h = (token-read f.name h.name, h.value)
