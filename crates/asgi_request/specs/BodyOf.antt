-- The events of a body as one computation over its bytes, for steps that compute; chunks are decoded as RFC 9112, section 7.1.3,
-- does it. What a body is, is defined in `RequestEvents.antt`: by the law `body_is_computed` both are the same.
use Rattle.std.specs.Prelude.{ℕ, zero, suc, ◌+◌, ◌==◌, nat_lt, List, [], ◌∷◌, length, take, drop, bytes_eq, if◌then◌else◌, Option, Some, None}
use Rattle.httparse.specs.Ascii.{crlf_bytes}
use Rattle.asgi_types.specs.declared.facts.Framing.{Framing}
use Rattle.asgi_types.specs.declared.facts.Framing.TheVariants.{Length, Chunked, Upgrade}
use Rattle.asgi_types.specs.declared.incoming.Incoming.{Incoming}
use Rattle.asgi_types.specs.declared.limits.Limits.{Limits}
use Rattle.asgi_request.specs.declared.refusal.Refusal.TheVariants.{BadRequest, ContentTooLarge}
use Rattle.asgi_request.specs.BodyTexts.{size_in, is_section}
use Rattle.asgi_request.specs.ChunkedBody.{BodyState, partial, complete, faulty, Piece, size_line_limit}
use Rattle.asgi_request.specs.Fronts.{Front, found, too_long, unfinished, front_at, line_len, trailer_len}
use Rattle.asgi_request.specs.RequestEvents.{length_events, length_state, chunked_events}

-- ---- a chunked body

-- what was decoded: the pieces of data, and how far the body has come
pub record Decoded : Type 0 where
  pub pieces : List Piece
  pub state : BodyState

-- no more data
abbrev pub no_piece : BodyState → Decoded
no_piece state = record { pieces = []; state = state }

-- this piece, and then what was decoded after it
abbrev pub with_piece : Piece → Decoded → Decoded
with_piece p d = record { pieces = p ∷ d.pieces; state = d.state }

-- after the last chunk: what the front of the bytes makes of the body, when a trailer section is due
abbrev pub trailers_at : Limits → List ℕ → Front → BodyState
trailers_at limits bytes unfinished = partial
trailers_at limits bytes too_long = faulty BadRequest
trailers_at limits bytes (found text) = if is_section limits.max_headers text then complete (drop (length text) bytes) else faulty BadRequest

-- after the last chunk: the trailer section
abbrev pub trailers_of : Limits → List ℕ → BodyState
trailers_of limits bytes = trailers_at limits bytes (front_at limits.max_head bytes (trailer_len bytes))

-- the data of a chunk of n bytes, CR LF, and what follows
abbrev pub chunk_of : ℕ → List ℕ → (List ℕ → Decoded) → Decoded
chunk_of n bytes go = with_piece (record { size = n; data_bytes = take n bytes })
    (if nat_lt (length bytes) (n + 2) then no_piece partial else
    (if bytes_eq (take 2 (drop n bytes)) crlf_bytes then go (drop (n + 2) bytes) else no_piece (faulty BadRequest)))

-- after a size line, if the chunks before it have sum bytes of data
abbrev pub after_size_line : Limits → ℕ → List ℕ → (ℕ → List ℕ → Decoded) → Option ℕ → Decoded
after_size_line limits sum bytes go None = no_piece (faulty BadRequest)
after_size_line limits sum bytes go (Some n) =
    if nat_lt limits.max_body (sum + n) then no_piece (faulty ContentTooLarge) else
    (if n == 0 then no_piece (trailers_of limits bytes) else chunk_of n bytes (go (sum + n)))

-- what the front of the bytes makes of the body, when a size line is due
abbrev pub at_line : Limits → ℕ → List ℕ → (ℕ → List ℕ → Decoded) → Front → Decoded
at_line limits sum bytes go unfinished = no_piece partial
at_line limits sum bytes go too_long = no_piece (faulty BadRequest)
at_line limits sum bytes go (found text) = after_size_line limits sum (drop (length text) bytes) go (size_in text)

-- at most count size lines and what stands after them, if the chunks before them have sum bytes of data
abbrev pub chunks_from : ℕ → Limits → ℕ → List ℕ → Decoded
chunks_from zero limits sum bytes = no_piece partial
chunks_from (suc count) limits sum bytes = at_line limits sum bytes (chunks_from count limits) (front_at size_line_limit bytes (line_len bytes))

-- a chunked body: it has no more size lines than bytes
abbrev pub chunks_of : Limits → List ℕ → Decoded
chunks_of limits bytes = chunks_from (suc (length bytes)) limits 0 bytes

-- ---- the body of a request

-- the events that the bytes after a head give
abbrev pub body_events : Limits → Framing → List ℕ → List Incoming
body_events limits (Length n) bytes = length_events limits.block n bytes
body_events limits Chunked bytes = (let d = chunks_of limits bytes in chunked_events limits.block d.pieces d.state)
body_events limits Upgrade bytes = []

-- and how far the body has come
abbrev pub body_state : Limits → Framing → List ℕ → BodyState
body_state limits (Length n) bytes = length_state n bytes
body_state limits Chunked bytes = (let d = chunks_of limits bytes in d.state)
body_state limits Upgrade bytes = complete bytes
