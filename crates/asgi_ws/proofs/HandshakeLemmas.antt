-- The response to an opening handshake is read back by the grammar of heads.
use Rattle.std.proofs.Common.{◌≡◌, ℕ, ◌<◌, Bool, true, false, List, [], ◌∷◌, ◌++◌, length, flat_map, refl, subst, append_assoc, arith, All, IsTrue, Option, Some, None}
use Rattle.std.proofs.lemmas.List.Elements.{All-nil, All-cons, All-append, All-weaker}
use Rattle.std.proofs.lemmas.Bool.Decides.{nat_tests}
use Rattle.std.specs.Prelude.{◌&&◌, codes}
use Rattle.std.specs.List.{list_all}
use Rattle.std.specs.Char.{is_ascii_graphic}
use Rattle.httparse.specs.Ascii.{crlf_bytes}
use Rattle.httparse.specs.Grammar.{AllPass, is_token_byte, is_value_byte}
use Rattle.websocket.specs.Handshake.{accept_key_of, base64}
use Rattle.websocket.proofs.AcceptKey.{accept_key_is_graphic}
use Rattle.asgi_types.specs.Fields.{HeaderField}
use Rattle.asgi_response.specs.Fields.{field_line}
use Rattle.asgi_response.specs.StatusLine.{status_line_with}
use Rattle.asgi_response.specs.ReadBack.{IsReadAs, IsSendable}
use Rattle.asgi_response.proofs.ReadBackLemmas.{all_pass, fields_are_read_back, own_sendable}
use Rattle.asgi_request.specs.Key as key_spec
use Rattle.asgi_ws.specs.AcceptValue.{accept_value_of}
use Rattle.asgi_ws.specs.Handshake.{field, handshake_fields, protocol_field}
use Rattle.asgi_ws.specs.Laws.{CanBeNamed, HandshakeIsReadBack}

regroup : (a b c rest : List ℕ) → (a ++ (b ++ c)) ++ rest ≡ (a ++ b ++ c) ++ rest
regroup a b c rest = simp append_assoc

-- ---- the value that answers a key

graphic_is_value : (b : ℕ) → IsTrue (is_ascii_graphic b) → IsTrue (is_value_byte b)
graphic_is_value b h = grind (arith, nat_tests)

both_hold : (a b : Bool) → (a && b) ≡ true → b ≡ true
both_hold true b h = h
both_hold false b h = cc h

value_is_graphic : (key : List ℕ) → list_all is_ascii_graphic (accept_value_of key) ≡ true
unfolding base64 key_spec.base64
value_is_graphic key = both_hold _ (list_all is_ascii_graphic (accept_key_of key)) (accept_key_is_graphic key)

value_passes : (key : List ℕ) → AllPass is_value_byte (accept_value_of key)
value_passes key =
    All-weaker (λ b. IsTrue (is_ascii_graphic b)) (λ b. IsTrue (is_value_byte b)) graphic_is_value (accept_value_of key) (all_pass is_ascii_graphic (accept_value_of key) (value_is_graphic key))

-- ---- the fields

named_field : (name value : List ℕ) → 0 < length name → list_all is_token_byte name ≡ true → AllPass is_value_byte value → IsSendable (field name value)
named_field name value some token bytes = record { name = (some, all_pass is_token_byte name token); value = bytes }

protocol_sendable : (subprotocol : Option (List ℕ)) → CanBeNamed subprotocol → All IsSendable (protocol_field subprotocol)
unfolding is_token_byte
protocol_sendable None named = All-nil IsSendable
protocol_sendable (Some name) named =
    All-cons IsSendable (field (codes "sec-websocket-protocol") name) [] (named_field (codes "sec-websocket-protocol") name (omega arith) refl named) (All-nil IsSendable)

all_sendable : (key : List ℕ) (subprotocol : Option (List ℕ)) (headers : List HeaderField) → CanBeNamed subprotocol → All IsSendable headers
    → All IsSendable (handshake_fields key subprotocol headers)
unfolding is_token_byte
all_sendable key subprotocol headers named clean =
    let upgrade : HeaderField = field (codes "upgrade") (codes "websocket") in
    let connection : HeaderField = field (codes "connection") (codes "Upgrade") in
    let accept : HeaderField = field (codes "sec-websocket-accept") (accept_value_of key) in
    let after : List HeaderField = protocol_field subprotocol ++ headers in
    All-cons IsSendable upgrade (connection ∷ accept ∷ after) (own_sendable (codes "upgrade") (codes "websocket") (omega arith) refl refl)
    (All-cons IsSendable connection (accept ∷ after) (own_sendable (codes "connection") (codes "Upgrade") (omega arith) refl refl)
    (All-cons IsSendable accept after (named_field (codes "sec-websocket-accept") (accept_value_of key) (omega arith) refl (value_passes key))
    (All-append IsSendable (protocol_field subprotocol) headers (protocol_sendable subprotocol named) clean)))

-- ---- the whole text

pub handshake_is_read_back : HandshakeIsReadBack
handshake_is_read_back headers clean key subprotocol frames named =
    let fields : List HeaderField = handshake_fields key subprotocol headers in
    let phrase : List ℕ = codes "Switching Protocols" in
    subst (λ (text : List ℕ). IsReadAs text 101 fields frames) (regroup (status_line_with 101 phrase) (flat_map field_line fields) crlf_bytes frames)
    (fields_are_read_back 101 phrase fields frames (omega arith) (omega arith) (all_pass is_value_byte phrase refl) (all_sendable key subprotocol headers named clean))
