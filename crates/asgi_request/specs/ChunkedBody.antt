-- Chunked bodies (RFC 9112, section 7.1): whole, begun or faulty.
use Rattle.std.specs.Prelude.{◌≡◌, ℕ, ◌+◌, ◌<◌, ◌≤◌, ◌⊎◌, List, [], ◌∷◌, ◌++◌, length, take, drop, map, All}
use Rattle.std.specs.List.{flat_map}
use Rattle.httparse.specs.Ascii.{line_feed, crlf_bytes}
use Rattle.httparse.specs.Grammar.{ChunkLine, IsChunkLine, ReadsChunkLine, chunk_size, print_chunk_line, Field, LineEnd, print_end, print_section, ReadsSection}
use Rattle.asgi_types.specs.declared.limits.Limits.{Limits}
use Rattle.asgi_request.specs.declared.refusal.Refusal.{Refusal}
use Rattle.asgi_request.specs.declared.refusal.Refusal.TheVariants.{BadRequest, ContentTooLarge}
use Rattle.asgi_request.specs.Texts.{IsFirstWithin, IsTooLong, IsUnfinished}

-- How far the bytes of a body have come.
pub data BodyState : Type 0 where
  -- more bytes are needed
  partial : BodyState
  -- the body is whole, and these bytes stand after it
  complete : List ℕ → BodyState
  -- the bytes can't be a body
  faulty : Refusal → BodyState

-- The data of one chunk, as far as it is there, and the size that was announced.
pub record Piece : Type 0 where
  pub size : ℕ
  pub data_bytes : List ℕ

-- ---- chunks

-- chunk = chunk-size [ chunk-ext ] CRLF chunk-data CRLF
pub record Chunk : Type 0 where
  pub line : ChunkLine
  pub data_bytes : List ℕ

-- the bytes of a chunk
abbrev pub print_chunk : Chunk → List ℕ
print_chunk c = print_chunk_line c.line ++ (c.data_bytes ++ crlf_bytes)

-- the most bytes of a size line
abbrev pub size_line_limit : ℕ
size_line_limit = 256

-- a size line that is accepted
pub record IsSizeLine (line : ChunkLine) : Type 0 where
  pub valid : IsChunkLine line
  pub short : length (print_chunk_line line) ≤ size_line_limit

-- the line announces the data, of which there is some
pub record IsChunk (c : Chunk) : Type 0 where
  pub line : IsSizeLine c.line
  pub size : length c.data_bytes ≡ chunk_size c.line
  pub some_data : 0 < chunk_size c.line

-- how many bytes of data the chunks have
abbrev pub total : List Chunk → ℕ
total [] = 0
total (c ∷ chunks) = chunk_size c.line + total chunks

-- ---- the last chunk and the trailer section (section 7.1.2)

-- last-chunk = 1*"0" [ chunk-ext ] CRLF, then the field lines and the empty line that ends them
pub record LastChunk : Type 0 where
  pub line : ChunkLine
  pub fields : List Field
  pub end : LineEnd

-- the bytes of both
abbrev pub print_last : LastChunk → List ℕ
print_last l = print_chunk_line l.line ++ print_section l.fields l.end

-- the text is these field lines, an empty line and nothing else, with at most max_headers field lines
pub record IsTrailerSection (max_headers : ℕ) (text : List ℕ) (fields : List Field) (end : LineEnd) : Type 0 where
  pub reads : ReadsSection text fields end []
  pub few : length fields ≤ max_headers

-- a last chunk whose lines and trailer section are within their limits
pub record IsLastChunk (limits : Limits) (l : LastChunk) : Type 0 where
  pub line : IsSizeLine l.line
  pub zero_size : chunk_size l.line ≡ 0
  pub section : IsTrailerSection limits.max_headers (print_section l.fields l.end) l.fields l.end
  pub short : length (print_section l.fields l.end) ≤ limits.max_head

-- ---- texts that are judged once they are whole

-- a size line ends with the first line feed
abbrev pub EndsAsLine : List ℕ → Type 0
EndsAsLine text = (front : List ℕ) × (text ≡ front ++ line_feed ∷ [])

-- a trailer section ends with an empty line, which is all of it or stands after a line feed
pub record EndsAsSection (text : List ℕ) : Type 0 where
  pub lines : List ℕ
  pub last : LineEnd
  pub closed : (lines ≡ []) ⊎ EndsAsLine lines
  pub text_is : text ≡ lines ++ print_end last

-- ---- what stands after the whole chunks

-- How a chunked body goes on after its whole chunks.
pub data Tail : Type 0 where
  -- with a size line that is not whole
  open_line : Tail
  -- with what is no size line
  bad_line : Tail
  -- with the size line of a chunk that takes the data over the limit
  large_chunk : ChunkLine → Tail
  -- with a size line and then these bytes: not all of the data and the two bytes after it
  open_chunk : ChunkLine → List ℕ → Tail
  -- with a size line and then these bytes: the data, and two bytes after it that are not CR LF
  bad_chunk : ChunkLine → List ℕ → Tail
  -- with a size line of 0 and a trailer section that is not whole
  open_trailers : ChunkLine → List ℕ → Tail
  -- with a size line of 0 and what is no trailer section
  bad_trailers : ChunkLine → List ℕ → Tail
  -- with the last chunk, and these bytes stand after the body
  last : LastChunk → List ℕ → Tail

-- the first line is no size line
abbrev pub IsBadLine : List ℕ → Type 0
IsBadLine bytes =
    IsTooLong EndsAsLine size_line_limit bytes
    ⊎ ((text : List ℕ) × (rest : List ℕ) × IsFirstWithin EndsAsLine size_line_limit bytes text rest
    × ((line : ChunkLine) → ¬ (ReadsChunkLine text line [])))

-- the section at the front is no trailer section
abbrev pub IsBadSection : Limits → List ℕ → Type 0
IsBadSection limits bytes =
    IsTooLong EndsAsSection limits.max_head bytes
    ⊎ ((text : List ℕ) × (rest : List ℕ) × IsFirstWithin EndsAsSection limits.max_head bytes text rest
    × ((fields : List Field) (end : LineEnd) → ¬ (IsTrailerSection limits.max_headers text fields end)))

-- the bytes are a size line of some data, which stays within the limit, and then the bytes after it
pub record BeginsChunk (limits : Limits) (sum : ℕ) (bytes : List ℕ) (line : ChunkLine) (after : List ℕ) : Type 0 where
  pub splits : bytes ≡ print_chunk_line line ++ after
  pub line_is : IsSizeLine line
  pub some_data : 0 < chunk_size line
  pub fits : sum + chunk_size line ≤ limits.max_body

-- the bytes are a size line of 0, and then the bytes after it
pub record BeginsTrailers (bytes : List ℕ) (line : ChunkLine) (after : List ℕ) : Type 0 where
  pub splits : bytes ≡ print_chunk_line line ++ after
  pub line_is : IsSizeLine line
  pub zero_size : chunk_size line ≡ 0

-- the bytes after chunks of sum bytes of data go on that way
abbrev pub IsTail : Limits → ℕ → List ℕ → Tail → Type 0
IsTail limits sum bytes open_line = IsUnfinished EndsAsLine size_line_limit bytes
IsTail limits sum bytes bad_line = IsBadLine bytes
IsTail limits sum bytes (large_chunk line) =
    (after : List ℕ) × (bytes ≡ print_chunk_line line ++ after) × IsSizeLine line × (limits.max_body < sum + chunk_size line)
IsTail limits sum bytes (open_chunk line after) = BeginsChunk limits sum bytes line after × (length after < chunk_size line + 2)
IsTail limits sum bytes (bad_chunk line after) =
    BeginsChunk limits sum bytes line after × (chunk_size line + 2 ≤ length after) × ¬ (take 2 (drop (chunk_size line) after) ≡ crlf_bytes)
IsTail limits sum bytes (open_trailers line after) = BeginsTrailers bytes line after × IsUnfinished EndsAsSection limits.max_head after
IsTail limits sum bytes (bad_trailers line after) = BeginsTrailers bytes line after × IsBadSection limits after
IsTail limits sum bytes (last l after) = IsLastChunk limits l × (bytes ≡ print_last l ++ after)

-- the data in a tail
abbrev pub tail_pieces : Tail → List Piece
tail_pieces open_line = []
tail_pieces bad_line = []
tail_pieces (large_chunk line) = []
tail_pieces (open_chunk line after) = record { size = chunk_size line; data_bytes = take (chunk_size line) after } ∷ []
tail_pieces (bad_chunk line after) = record { size = chunk_size line; data_bytes = take (chunk_size line) after } ∷ []
tail_pieces (open_trailers line after) = []
tail_pieces (bad_trailers line after) = []
tail_pieces (last l after) = []

-- what a tail makes of the body
abbrev pub tail_state : Tail → BodyState
tail_state open_line = partial
tail_state bad_line = faulty BadRequest
tail_state (large_chunk line) = faulty ContentTooLarge
tail_state (open_chunk line after) = partial
tail_state (bad_chunk line after) = faulty BadRequest
tail_state (open_trailers line after) = partial
tail_state (bad_trailers line after) = faulty BadRequest
tail_state (last l after) = complete after

-- ---- a chunked body

-- the data of a whole chunk
abbrev pub chunk_piece : Chunk → Piece
chunk_piece c = record { size = chunk_size c.line; data_bytes = c.data_bytes }

-- After chunks of sum bytes of data, the bytes are whole chunks and a tail: these are the pieces of data in them, and
-- this is what the body is.
pub record ReadsChunks (limits : Limits) (sum : ℕ) (bytes : List ℕ) (pieces : List Piece) (state : BodyState) : Type 0 where
  pub chunks : List Chunk
  pub left : List ℕ
  pub tail : Tail
  pub splits : bytes ≡ flat_map print_chunk chunks ++ left
  pub each : All IsChunk chunks
  pub fits : sum + total chunks ≤ limits.max_body
  pub goes_on : IsTail limits (sum + total chunks) left tail
  pub pieces_are : pieces ≡ map chunk_piece chunks ++ tail_pieces tail
  pub state_is : state ≡ tail_state tail

-- The bytes after a head are a chunked body, as far as they go.
abbrev pub ReadsChunked : Limits → List ℕ → List Piece → BodyState → Type 0
ReadsChunked limits bytes pieces state = ReadsChunks limits 0 bytes pieces state
