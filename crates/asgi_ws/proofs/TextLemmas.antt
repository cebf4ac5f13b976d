-- The parts that are written in order are the text of the response.
use Rattle.std.proofs.Common.{◌≡◌, ℕ, List, [], ◌∷◌, ◌++◌, flat_map, ap, ◌∙◌, sym, append_assoc, append-nil, Option}
use Rattle.std.proofs.lemmas.List.Concat.{flat_map-append}
use Rattle.std.specs.Prelude.{codes}
use Rattle.std.specs.Fmt.{digits}
use Rattle.httparse.specs.Ascii.{crlf_bytes}
use Rattle.asgi_types.specs.Fields.{HeaderField}
use Rattle.asgi_response.specs.Fields.{field_line}
use Rattle.asgi_response.specs.StatusLine.{status_line_with}
use Rattle.asgi_ws.specs.AcceptValue.{accept_value_of}
use Rattle.asgi_ws.specs.Handshake.{field, handshake_text, protocol_field}

-- the bytes before the accept value
abbrev front : List ℕ
front = codes "HTTP/1.1 101 Switching Protocols\r\nupgrade: websocket\r\nconnection: Upgrade\r\nsec-websocket-accept: "

-- the text with this value and these lines after the server's first three
abbrev text_with : List ℕ → List ℕ → List ℕ
text_with value lines =
    (status_line_with 101 (codes "Switching Protocols")
    ++ (field_line (field (codes "upgrade") (codes "websocket"))
    ++ (field_line (field (codes "connection") (codes "Upgrade"))
    ++ (field_line (field (codes "sec-websocket-accept") value) ++ lines))))
    ++ crlf_bytes

lines_in_front : (value lines more : List ℕ) → front ++ (value ++ (crlf_bytes ++ [])) ++ lines ++ more ++ crlf_bytes ≡ text_with value (lines ++ more)
unfolding digits
lines_in_front value lines more = ap (λ (x : List ℕ). front ++ x ++ crlf_bytes) (append_assoc (value ++ crlf_bytes) lines more)

pub text_of_parts : (key : List ℕ) (subprotocol : Option (List ℕ)) (headers : List HeaderField) (start first second third all value : List ℕ)
    → start ≡ [] → value ≡ accept_value_of key → first ≡ start ++ (front ++ (value ++ (crlf_bytes ++ [])))
    → second ≡ first ++ flat_map field_line (protocol_field subprotocol) → third ≡ second ++ flat_map field_line headers → all ≡ third ++ crlf_bytes
    → all ≡ handshake_text key subprotocol headers
text_of_parts key subprotocol headers start first second third all value none is a b c d =
    let chosen : List ℕ = flat_map field_line (protocol_field subprotocol) in
    let own : List ℕ = flat_map field_line headers in
    let begun : first ≡ front ++ (accept_value_of key ++ (crlf_bytes ++ [])) =
    a ∙ ap (λ (x : List ℕ). x ++ (front ++ (value ++ (crlf_bytes ++ [])))) none ∙ ap (λ (x : List ℕ). front ++ (x ++ (crlf_bytes ++ []))) is in
    d ∙ ap (λ (x : List ℕ). x ++ crlf_bytes) (c ∙ ap (λ (x : List ℕ). x ++ own) (b ∙ ap (λ (x : List ℕ). x ++ chosen) begun))
    ∙ lines_in_front (accept_value_of key) chosen own
    ∙ ap (text_with (accept_value_of key)) (sym (flat_map-append field_line (protocol_field subprotocol) headers))

-- one field more is its line more
pub one_line : (f : HeaderField) (old new : List ℕ) → new ≡ old ++ field_line f → new ≡ old ++ flat_map field_line (f ∷ [])
one_line f old new e = e ∙ ap (λ (x : List ℕ). old ++ x) (sym (append-nil (field_line f)))
