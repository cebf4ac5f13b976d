-- The text by which a server accepts an opening handshake (RFC 6455, section 4.2.2, item 5; ASGI WebSocket message
-- format 2.4, "Accept").
use Rattle.std.specs.Prelude.{ℕ, List, [], ◌∷◌, ◌++◌, codes, Option, Some, None, flat_map}
use Rattle.httparse.specs.Ascii.{crlf_bytes}
use Rattle.asgi_types.specs.declared.facts.Facts.{Facts}
use Rattle.asgi_types.specs.declared.outgoing.Outgoing.{Outgoing}
use Rattle.asgi_types.specs.declared.outgoing.Outgoing.TheVariants.{WsAccept}
use Rattle.asgi_types.specs.Fields.{HeaderField}
use Rattle.asgi_response.specs.Fields.{field_line}
use Rattle.asgi_response.specs.StatusLine.{status_line_with}
use Rattle.asgi_ws.specs.AcceptValue.{accept_value_of}

-- a field of this name and value
abbrev pub field : List ℕ → List ℕ → HeaderField
field name value = record { name = name; value = value }

-- the chosen subprotocol (item 5.5)
abbrev pub protocol_field : Option (List ℕ) → List HeaderField
protocol_field None = []
protocol_field (Some name) = field (codes "sec-websocket-protocol") name ∷ []

-- the server's fields (items 5.2 to 5.5), then the application's in their order
abbrev pub handshake_fields : List ℕ → Option (List ℕ) → List HeaderField → List HeaderField
handshake_fields key subprotocol headers =
    field (codes "upgrade") (codes "websocket")
    ∷ field (codes "connection") (codes "Upgrade")
    ∷ field (codes "sec-websocket-accept") (accept_value_of key)
    ∷ protocol_field subprotocol ++ headers

-- the status line (item 5.1), the fields and the empty line
abbrev pub handshake_text : List ℕ → Option (List ℕ) → List HeaderField → List ℕ
handshake_text key subprotocol headers =
    status_line_with 101 (codes "Switching Protocols") ++ flat_map field_line (handshake_fields key subprotocol headers)
    ++ crlf_bytes

-- the response that accepts the handshake of the facts; an event that is no "Accept" has none
abbrev pub accept_text : Facts → Outgoing → List ℕ
accept_text facts (WsAccept subprotocol headers) = handshake_text facts.key subprotocol headers
accept_text facts _ = []
