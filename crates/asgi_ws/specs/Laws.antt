-- What a client reads of the response to its opening handshake, by the grammar of `httparse` (RFC 6455, section 4.1).
use Rattle.std.specs.Prelude.{ℕ, List, ◌++◌, Option, Some, None, All}
use Rattle.httparse.specs.Grammar.{AllPass, is_value_byte}
use Rattle.asgi_types.specs.Fields.{HeaderField}
use Rattle.asgi_response.specs.ReadBack.{IsSendable, IsReadAs}
use Rattle.asgi_ws.specs.Handshake.{handshake_fields, handshake_text}

-- no byte of the chosen subprotocol, if there is one, ends its line: a token has no such byte
abbrev pub CanBeNamed : Option (List ℕ) → Type 0
CanBeNamed None = Unit {0}
CanBeNamed (Some name) = AllPass is_value_byte name

-- with these application fields the response is read as 101 and exactly the fields sent, and the frames follow
abbrev pub IsHandshakeReadBack : List HeaderField → Type 0
IsHandshakeReadBack headers = (key : List ℕ) (subprotocol : Option (List ℕ)) (frames : List ℕ) → CanBeNamed subprotocol
    → IsReadAs (handshake_text key subprotocol headers ++ frames) 101 (handshake_fields key subprotocol headers) frames

-- the same for all fields that can be sent
abbrev pub HandshakeIsReadBack : Type 0
HandshakeIsReadBack = (headers : List HeaderField) → All IsSendable headers → IsHandshakeReadBack headers
