-- The client's opening handshake (RFC 6455, section 4.2.1): which requests ask for it, and which are refused.
use Rattle.std.specs.Prelude.{◌≡◌, ℕ, Bool, true, false, ◌&&◌, not, List, [], ◌∷◌, if◌then◌else◌, ◌==◌, nat_lt, codes, bytes_eq, Result, Ok, Err}
use Rattle.std.specs.List.{flat_map, slice_split}
use Rattle.httparse.specs.Ascii.{comma}
use Rattle.httparse.specs.Grammar.{is_token, trim_ows}
use Rattle.asgi_types.specs.Fields.{HeaderField}
use Rattle.asgi_types.specs.Tokens.{has_token}
use Rattle.asgi_types.specs.Versions.{is_v11}
use Rattle.asgi_request.specs.declared.framing.HeadFraming.{HeadFraming}
use Rattle.asgi_request.specs.declared.framing.HeadFraming.TheVariants as framing
use Rattle.asgi_request.specs.declared.head.HeadRecord.{HeadRecord}
use Rattle.asgi_request.specs.declared.refusal.Refusal.{Refusal}
use Rattle.asgi_request.specs.declared.refusal.Refusal.TheVariants.{BadRequest, UpgradeRequired}
use Rattle.asgi_request.specs.declared.upgrade.UpgradeAsk.{UpgradeAsk}
use Rattle.asgi_request.specs.declared.upgrade.UpgradeAsk.TheVariants.{Plain, Upgrade, Bad}
use Rattle.asgi_request.specs.FieldValues.{count_named, value_named}
use Rattle.asgi_request.specs.Key.{IsKey, is_key}
use Rattle.asgi_request.specs.Refusals.{status_of}

-- The request asks to switch to WebSocket: it is HTTP/1.1 (item 1), `websocket` is a token of Upgrade (item 3) and `upgrade` one
-- of Connection (item 4), each in any case (RFC 9110, section 7.8).
abbrev pub asks_for_websocket : HeadRecord → Bool
asks_for_websocket head =
    is_v11 head.version && has_token head.headers (codes "upgrade") (codes "websocket")
    && has_token head.headers (codes "connection") (codes "upgrade")

-- one field gives the version, which is 13 (item 6), and there is no other (section 11.3.5)
abbrev pub has_version : List HeaderField → Bool
has_version fields =
    count_named fields (codes "sec-websocket-version") == 1
    && bytes_eq (value_named fields (codes "sec-websocket-version")) (codes "13")

-- the value of the first Sec-WebSocket-Key field
abbrev pub key_of : List HeaderField → List ℕ
key_of fields = value_named fields (codes "sec-websocket-key")

-- one field is a key (item 5), and there is no other (section 11.3.1)
abbrev pub has_key : List HeaderField → Bool
has_key fields = count_named fields (codes "sec-websocket-key") == 1 && is_key (key_of fields)

-- Whether the request is an opening handshake, or why it is refused: the first case that holds.
abbrev pub handshake_or_refusal : HeadRecord → Bool → Result Bool Refusal
handshake_or_refusal head has_body =
    -- a server may ignore an Upgrade field (RFC 9110, section 7.8)
    if not (asks_for_websocket head) then Ok false else (
    -- item 1: the method is GET
    if not (bytes_eq head.method (codes "GET")) then Err BadRequest else (
    -- what follows the head would be taken for frames
    if has_body then Err BadRequest else (
    -- a version that is not served (section 4.2.2, item 4)
    if not (has_version head.headers) then Err UpgradeRequired else (
    if not (has_key head.headers) then Err BadRequest else
    Ok true))))

-- the parts of a value between commas (RFC 9110, section 5.6.1)
abbrev pub parts_of : List ℕ → List (List ℕ)
parts_of value = slice_split (λ b. b == comma) value

-- the part as it is spelled, if it is a token (RFC 9110, section 5.6.2)
abbrev pub token_of : List ℕ → List (List ℕ)
token_of part = if is_token part then part ∷ [] else []

-- the tokens that a value lists, without the spaces and tabs at their ends; a part that is no token is left out
abbrev pub tokens_of : List ℕ → List (List ℕ)
tokens_of value = flat_map (λ part. token_of (trim_ows part)) (parts_of value)

-- the tokens that a field lists, if it has the name
abbrev pub tokens_if_named : List ℕ → HeaderField → List (List ℕ)
tokens_if_named name f = if bytes_eq f.name name then tokens_of f.value else []

-- the subprotocols that the client offers, "ordered by preference" (section 4.1, item 10; item 8 of 4.2.1)
abbrev pub subprotocols_of : List HeaderField → List (List ℕ)
subprotocols_of fields = flat_map (tokens_if_named (codes "sec-websocket-protocol")) fields

-- what is returned: the key and the offers of an opening handshake, or the status of its refusal
abbrev pub upgrade_answer : List HeaderField → Result Bool Refusal → UpgradeAsk
upgrade_answer fields (Ok false) = Plain
upgrade_answer fields (Ok true) = Upgrade (key_of fields) (subprotocols_of fields)
upgrade_answer fields (Err refusal) = Bad (status_of refusal)

-- What the head asks for, by the framing of its body. A head that is refused for its framing stays refused.
abbrev pub upgrade_of : HeadRecord → HeadFraming → UpgradeAsk
upgrade_of head (framing.Length n) = upgrade_answer head.headers (handshake_or_refusal head (nat_lt 0 n))
upgrade_of head framing.Chunked = upgrade_answer head.headers (handshake_or_refusal head true)
upgrade_of head (framing.Bad status) = Bad status

-- the result has subprotocols, which alone take memory
abbrev pub OffersSome : UpgradeAsk → Type 0
OffersSome (Upgrade key subprotocols) = ¬ (subprotocols ≡ [])
OffersSome _ = ⊥

-- the key of an opening handshake is a key
abbrev pub HasKey : UpgradeAsk → Type 0
HasKey (Upgrade key subprotocols) = IsKey key
HasKey _ = Unit {0}
