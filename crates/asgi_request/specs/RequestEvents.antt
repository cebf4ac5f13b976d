-- The events of a request's body (ASGI HTTP message format 2.4, "Request - receive event").
use Rattle.std.specs.Prelude.{◌≡◌, ℕ, zero, suc, ◌+◌, ◌-◌, ◌*◌, ◌/◌, true, false, List, [], ◌∷◌, ◌++◌, length, take, drop, map, if◌then◌else◌, nat_le}
use Rattle.std.specs.List.{flat_map}
use Rattle.asgi_types.specs.declared.facts.Framing.{Framing}
use Rattle.asgi_types.specs.declared.facts.Framing.TheVariants.{Length, Chunked, Upgrade}
use Rattle.asgi_types.specs.declared.incoming.Incoming.{Incoming}
use Rattle.asgi_types.specs.declared.incoming.Incoming.TheVariants.{HttpRequest}
use Rattle.asgi_types.specs.declared.limits.Limits.{Limits}
use Rattle.asgi_request.specs.ChunkedBody.{BodyState, partial, complete, faulty, Piece, ReadsChunked}

-- ---- blocks

-- the first count blocks of the bytes, each of `block` bytes but the last, which may have fewer
abbrev pub first_blocks : ℕ → ℕ → List ℕ → List (List ℕ)
first_blocks zero block bytes = []
first_blocks (suc count) block bytes = take block bytes ∷ first_blocks count block (drop block bytes)

-- all blocks of the bytes
abbrev pub blocks : ℕ → List ℕ → List (List ℕ)
blocks block bytes = first_blocks ((length bytes + (block - 1)) / block) block bytes

-- the blocks that have `block` bytes
abbrev pub full_blocks : ℕ → List ℕ → List (List ℕ)
full_blocks block bytes = first_blocks (length bytes / block) block bytes

-- ---- events

-- an event with more to follow
abbrev pub more_event : List ℕ → Incoming
more_event bytes = HttpRequest bytes true

-- the event that is the last of its body
abbrev pub last_event : List ℕ → Incoming
last_event bytes = HttpRequest bytes false

-- ---- a body of n bytes (RFC 9112, section 6.3, rules 6 and 7)

-- how many blocks stand before the last one
abbrev pub blocks_before_last : ℕ → ℕ → ℕ
blocks_before_last block n = (n - 1) / block

-- Once the body is whole there is an event a block, and an empty body has one event; before, there is one for each
-- full block.
abbrev pub length_events : ℕ → ℕ → List ℕ → List Incoming
length_events block n bytes =
    if nat_le n (length bytes)
    then map more_event (first_blocks (blocks_before_last block n) block (take n bytes))
    ++ last_event (drop (blocks_before_last block n * block) (take n bytes)) ∷ []
    else map more_event (full_blocks block bytes)

-- the body is whole once n bytes are there
abbrev pub length_state : ℕ → List ℕ → BodyState
length_state n bytes = if nat_le n (length bytes) then complete (drop n bytes) else partial

-- ---- a chunked body (RFC 9112, section 7.1)

-- the blocks of one chunk, as far as its data is there
abbrev pub piece_blocks : ℕ → Piece → List (List ℕ)
piece_blocks block p = if nat_le p.size (length p.data_bytes) then blocks block p.data_bytes else full_blocks block p.data_bytes

-- an empty event ends the body
abbrev pub closing_event : BodyState → List Incoming
closing_event partial = []
closing_event (complete after) = last_event [] ∷ []
closing_event (faulty why) = []

-- Each chunk is cut into blocks of its own.
abbrev pub chunked_events : ℕ → List Piece → BodyState → List Incoming
chunked_events block pieces state = map more_event (flat_map (piece_blocks block) pieces) ++ closing_event state

-- ---- the body of a request

-- The bytes after a head give these events, and are a body in this state.
abbrev pub ReadsBody : Limits → Framing → List ℕ → List Incoming → BodyState → Type 0
ReadsBody limits (Length n) bytes events state = (events ≡ length_events limits.block n bytes) × (state ≡ length_state n bytes)
ReadsBody limits Chunked bytes events state =
    (pieces : List Piece) × ReadsChunked limits bytes pieces state × (events ≡ chunked_events limits.block pieces state)
-- an opening handshake has no body
ReadsBody limits Upgrade bytes events state = (events ≡ []) × (state ≡ complete bytes)
