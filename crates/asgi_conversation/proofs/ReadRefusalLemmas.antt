-- The text of a refusal is read back.
use Rattle.std.proofs.Common.{◌≡◌, ℕ, Bool, true, false, List, [], ◌∷◌, ◌++◌, refl, sym, subst, codes, arith, All, IsTrue}
use Rattle.std.proofs.lemmas.Bool.Decides.{nat_tests}
use Rattle.std.proofs.lemmas.List.Elements.{All-nil, All-cons}
use Rattle.std.specs.Prelude.{◌==◌}
use Rattle.std.specs.Fmt.{digits}
use Rattle.std.specs.List.{list_all}
use Rattle.httparse.specs.Grammar.{is_token_byte, is_value_byte}
use Rattle.asgi_types.specs.Fields.{HeaderField, field_of}
use Rattle.asgi_response.specs.Exchange.{refusal_text}
use Rattle.asgi_response.specs.ReadBack.{IsReadAs, IsSendable}
use Rattle.asgi_response.specs.Refusals.{is_refusal}
use Rattle.asgi_response.proofs.ReadBackLemmas.{all_pass, fields_are_read_back, own_sendable}
use Rattle.asgi_response.proofs.RefusalLemmas.{only_500}
use Rattle.asgi_conversation.specs.ReadResponses.{refusal_fields}

-- ---- its fields can be sent

-- a field before others
in_front : (name value : List ℕ) (fields : List HeaderField) → IsSendable (field_of name value) → All IsSendable fields → All IsSendable (field_of name value ∷ fields)
in_front name value fields h rest = All-cons IsSendable (field_of name value) fields h rest

connection : (value : List ℕ) → list_all is_value_byte value ≡ true → All IsSendable (field_of (codes "content-length") (codes "0") ∷ field_of (codes "connection") value ∷ [])
unfolding is_token_byte
connection value h =
    in_front (codes "content-length") (codes "0") (field_of (codes "connection") value ∷ []) (own_sendable (codes "content-length") (codes "0") (omega arith) refl refl)
    (in_front (codes "connection") value [] (own_sendable (codes "connection") value (omega arith) refl h) (All-nil IsSendable))

closing_sendable : All IsSendable (refusal_fields 400)
closing_sendable = connection (codes "close") refl

upgrade_sendable : All IsSendable (refusal_fields 426)
unfolding is_token_byte
upgrade_sendable =
    let last : List HeaderField = field_of (codes "content-length") (codes "0") ∷ field_of (codes "connection") (codes "upgrade, close") ∷ [] in
    in_front (codes "upgrade") (codes "websocket") (field_of (codes "sec-websocket-version") (codes "13") ∷ last) (own_sendable (codes "upgrade") (codes "websocket") (omega arith) refl refl)
    (in_front (codes "sec-websocket-version") (codes "13") last (own_sendable (codes "sec-websocket-version") (codes "13") (omega arith) refl refl) (connection (codes "upgrade, close") refl))

-- ---- each of them

IsReadBack : ℕ → Type 0
IsReadBack status = (more : List ℕ) → IsReadAs (refusal_text status ++ more) status (refusal_fields status) more

bad_request : IsReadBack 400
unfolding IsReadBack digits
bad_request more = fields_are_read_back 400 (codes "Bad Request") (refusal_fields 400) more (omega arith) (omega arith) (all_pass is_value_byte (codes "Bad Request") refl) closing_sendable

forbidden : IsReadBack 403
unfolding IsReadBack digits
forbidden more = fields_are_read_back 403 (codes "Forbidden") (refusal_fields 403) more (omega arith) (omega arith) (all_pass is_value_byte (codes "Forbidden") refl) closing_sendable

too_large : IsReadBack 413
unfolding IsReadBack digits
too_large more =
    fields_are_read_back 413 (codes "Content Too Large") (refusal_fields 413) more (omega arith) (omega arith) (all_pass is_value_byte (codes "Content Too Large") refl) closing_sendable

upgrade_required : IsReadBack 426
unfolding IsReadBack digits
upgrade_required more =
    fields_are_read_back 426 (codes "Upgrade Required") (refusal_fields 426) more (omega arith) (omega arith) (all_pass is_value_byte (codes "Upgrade Required") refl) upgrade_sendable

fields_too_large : IsReadBack 431
unfolding IsReadBack digits
fields_too_large more =
    fields_are_read_back 431 (codes "Request Header Fields Too Large") (refusal_fields 431) more (omega arith) (omega arith)
    (all_pass is_value_byte (codes "Request Header Fields Too Large") refl) closing_sendable

server_error : IsReadBack 500
unfolding IsReadBack digits
server_error more =
    fields_are_read_back 500 (codes "Internal Server Error") (refusal_fields 500) more (omega arith) (omega arith) (all_pass is_value_byte (codes "Internal Server Error") refl) closing_sendable

not_implemented : IsReadBack 501
unfolding IsReadBack digits
not_implemented more =
    fields_are_read_back 501 (codes "Not Implemented") (refusal_fields 501) more (omega arith) (omega arith) (all_pass is_value_byte (codes "Not Implemented") refl) closing_sendable

-- ---- all of them

either : (status n : ℕ) (R : Type 0) → (n ≡ status → R) → ((status ≡ n → ⊥) → R) → R
either status n R is_n other = by (status == n) refl
  where
    by : (b : Bool) → (status == n) ≡ b → R
    by true e = is_n (grind (arith, nat_tests, e))
    by false e = other (λ same. grind (arith, nat_tests, e, same))

to : (status n : ℕ) → IsReadBack n → n ≡ status → IsReadBack status
to status n r e = subst IsReadBack e r

pub refusal_is_read : (status : ℕ) → IsTrue (is_refusal status) → (more : List ℕ) → IsReadAs (refusal_text status ++ more) status (refusal_fields status) more
unfolding IsReadBack
refusal_is_read status h =
    either status 400 (IsReadBack status) (to status 400 bad_request) (λ a.
    either status 403 (IsReadBack status) (to status 403 forbidden) (λ b.
    either status 413 (IsReadBack status) (to status 413 too_large) (λ c.
    either status 426 (IsReadBack status) (to status 426 upgrade_required) (λ d.
    either status 431 (IsReadBack status) (to status 431 fields_too_large) (λ e.
    either status 501 (IsReadBack status) (to status 501 not_implemented) (λ f.
    to status 500 server_error (sym (only_500 status h a b c d e f))))))))
