-- What is due next in a reader, and what the bytes give there. `StandsFor` is stated by these words; the laws
-- `places_give_the_results` and `given_results_are_the_first` state what they mean in the words of `Results.antt`.
use Rattle.std.specs.Prelude.{◌≡◌, ℕ, ◌+◌, ◌-◌, ◌≤◌, List, [], ◌∷◌, ◌++◌, length, min, if◌then◌else◌, nat_lt, ◌==◌, Bool, true, false, bytes_eq, Option, Some, None, Result, Ok, Err}
use Rattle.asgi_types.specs.declared.limits.Limits.{Limits}
use Rattle.asgi_types.specs.declared.facts.Framing.{Framing}
use Rattle.asgi_types.specs.declared.facts.Framing.TheVariants.{Length, Chunked, Upgrade}
use Rattle.asgi_types.specs.declared.incoming.Incoming.TheVariants.{HttpRequest}
use Rattle.asgi_request.specs.declared.head.HeadRecord.{HeadRecord}
use Rattle.asgi_request.specs.declared.place.Place.{Place}
use Rattle.asgi_request.specs.declared.place.Place.TheVariants.{Start, Counted, SizeLine, Chunk, ChunkEnd, Trailers, BodyEnd, HandshakeEnd, Upgraded, Stopped}
use Rattle.asgi_request.specs.declared.next.Next.{Next}
use Rattle.asgi_request.specs.declared.next.Next.TheVariants.{Head, Event, Whole, Bad}
use Rattle.asgi_request.specs.Fronts.{Front, found, too_long, unfinished, front_at, first, front_text, head_len, line_len, trailer_len}
use Rattle.asgi_request.specs.ChunkedBody.{size_line_limit}
use Rattle.asgi_request.specs.Head.{ParsesHead}
use Rattle.asgi_request.specs.RequestFraming.{request_framing}
use Rattle.asgi_request.specs.Refusals.{status_of}
use Rattle.asgi_request.specs.Scopes.{scope_of, facts_of}
use Rattle.asgi_request.specs.declared.refusal.Refusal.{Refusal}
use Rattle.asgi_request.specs.declared.refusal.Refusal.TheVariants.{BadRequest, ContentTooLarge, HeaderFieldsTooLarge}
use Rattle.httparse.specs.Ascii.{crlf_bytes}
use Rattle.asgi_request.specs.Parts.{ParsesSize, ParsesTrailers}

-- the text that the bytes begin with, at this place
abbrev pub front : Limits → Place → List ℕ → Front
front limits Start bytes = front_at limits.max_head bytes (head_len bytes)
front limits (Counted n) bytes = first (min n limits.block) bytes
front limits (SizeLine sum) bytes = front_at size_line_limit bytes (line_len bytes)
front limits (Chunk left sum) bytes = first (min left limits.block) bytes
front limits (ChunkEnd sum) bytes = first 2 bytes
front limits Trailers bytes = front_at limits.max_head bytes (trailer_len bytes)
front limits BodyEnd bytes = found []
front limits HandshakeEnd bytes = found []
front limits Upgraded bytes = unfinished
front limits (Stopped refusal) bytes = unfinished

-- what a text gives, if anything, and what is due after it
pub record Judged : Type 0 where
  pub item : Option Next
  pub place : Place

-- nothing follows a refusal
abbrev pub bad : Refusal → Judged
bad refusal = record { item = Some (Bad (status_of refusal)); place = Stopped refusal }

-- no result
abbrev pub silent : Place → Judged
silent place = record { item = None; place = place }

-- a result
abbrev pub gives : Next → Place → Judged
gives item place = record { item = Some item; place = place }

-- the place after the head
abbrev pub body_place : Framing → Place
body_place (Length n) = Counted n
body_place Chunked = SizeLine 0
body_place Upgrade = HandshakeEnd

-- a head is given, or refused
abbrev pub after_framing : HeadRecord → Result Framing Refusal → Judged
after_framing r (Ok framing) = gives (Head (scope_of r framing) (facts_of r framing)) (body_place framing)
after_framing r (Err refusal) = bad refusal

-- a head text is a head, or a bad request
abbrev pub after_head : Limits → Option HeadRecord → Judged
after_head limits None = bad BadRequest
after_head limits (Some r) = after_framing r (request_framing r limits)

-- a block is the last one if no bytes are left
abbrev pub after_counted : ℕ → List ℕ → Judged
after_counted n block =
    if nat_lt (length block) n then gives (Event (HttpRequest block true)) (Counted (n - length block)) else gives (Event (HttpRequest block false)) BodyEnd

-- a size of 0 ends the chunks
abbrev pub after_size : ℕ → ℕ → Option ℕ → Judged
after_size max_body sum None = bad BadRequest
after_size max_body sum (Some n) =
    if nat_lt max_body (sum + n) then bad ContentTooLarge else
    (if n == 0 then silent Trailers else silent (Chunk n (sum + n)))

-- CR LF comes after the last block of a chunk
abbrev pub after_chunk : ℕ → ℕ → List ℕ → Judged
after_chunk left sum block =
    if nat_lt (length block) left then gives (Event (HttpRequest block true)) (Chunk (left - length block) sum) else gives (Event (HttpRequest block true)) (ChunkEnd sum)

-- after a chunk comes a size line
abbrev pub after_chunk_end : ℕ → List ℕ → Judged
after_chunk_end sum pair = if bytes_eq pair crlf_bytes then silent (SizeLine sum) else bad BadRequest

-- an empty event ends a chunked body
abbrev pub after_trailers : Bool → Judged
after_trailers true = gives (Event (HttpRequest [] false)) BodyEnd
after_trailers false = bad BadRequest

-- what a whole text gives at this place
abbrev pub JudgesText : Limits → Place → List ℕ → Judged → Type 0
JudgesText limits Start text turn = (r : Option HeadRecord) × ParsesHead limits.max_headers text r × (turn ≡ after_head limits r)
JudgesText limits (Counted n) text turn = turn ≡ after_counted n text
JudgesText limits (SizeLine sum) text turn = (n : Option ℕ) × ParsesSize text n × (turn ≡ after_size limits.max_body sum n)
JudgesText limits (Chunk left sum) text turn = turn ≡ after_chunk left sum text
JudgesText limits (ChunkEnd sum) text turn = turn ≡ after_chunk_end sum text
JudgesText limits Trailers text turn = (ok : Bool) × ParsesTrailers limits.max_headers text ok × (turn ≡ after_trailers ok)
JudgesText limits BodyEnd text turn = turn ≡ gives Whole Start
JudgesText limits HandshakeEnd text turn = turn ≡ gives Whole Upgraded
JudgesText limits Upgraded text turn = ⊥
JudgesText limits (Stopped refusal) text turn = ⊥

-- a head that is too long has a status of its own
abbrev pub after_too_long : Place → Judged
after_too_long Start = bad HeaderFieldsTooLarge
after_too_long (Counted n) = bad BadRequest
after_too_long (SizeLine sum) = bad BadRequest
after_too_long (Chunk left sum) = bad BadRequest
after_too_long (ChunkEnd sum) = bad BadRequest
after_too_long Trailers = bad BadRequest
after_too_long BodyEnd = bad BadRequest
after_too_long HandshakeEnd = bad BadRequest
after_too_long Upgraded = bad BadRequest
after_too_long (Stopped refusal) = bad BadRequest

-- nothing is judged before it is whole or its limit is reached
abbrev pub Judges : Limits → Place → Front → Judged → Type 0
Judges limits place (found text) turn = JudgesText limits place text turn
Judges limits place too_long turn = turn ≡ after_too_long place
Judges limits place unfinished turn = ⊥

-- at this place the bytes give that turn, and rest stands after its text
pub record Takes (limits : Limits) (place : Place) (bytes : List ℕ) (turn : Judged) (rest : List ℕ) : Type 0 where
  pub splits : bytes ≡ front_text (front limits place bytes) ++ rest
  pub judged : Judges limits place (front limits place bytes) turn

-- from one place to another the bytes give these, one after another
abbrev pub Reads : Limits → Place → List ℕ → List (Option Next) → Place → List ℕ → Type 0
Reads limits place bytes [] end rest = (place ≡ end) × (bytes ≡ rest)
Reads limits place bytes (item ∷ items) end rest =
    (mid : Place) × (middle : List ℕ) × Takes limits place bytes (record { item = item; place = mid }) middle
    × Reads limits mid middle items end rest

-- the results among them
abbrev pub shown : List (Option Next) → List Next
shown [] = []
shown (None ∷ items) = shown items
shown (Some item ∷ items) = item ∷ shown items

-- the bytes have these results up to that place, and rest is left there
pub record Reaches (limits : Limits) (bytes : List ℕ) (items : List Next) (place : Place) (rest : List ℕ) : Type 0 where
  pub steps : List (Option Next)
  pub reads : Reads limits Start bytes steps place rest
  pub shows : shown steps ≡ items

-- these are all the results that the bytes have
pub record ResultsOf (limits : Limits) (bytes : List ℕ) (items : List Next) : Type 0 where
  pub place : Place
  pub rest : List ℕ
  pub reaches : Reaches limits bytes items place rest
  pub waits : front limits place rest ≡ unfinished

-- a head text is within its limit
abbrev pub IsShortHead : Limits → Place → List ℕ → Type 0
IsShortHead limits Start text = length text ≤ limits.max_head
IsShortHead limits (Counted n) text = Unit {0}
IsShortHead limits (SizeLine sum) text = Unit {0}
IsShortHead limits (Chunk left sum) text = Unit {0}
IsShortHead limits (ChunkEnd sum) text = Unit {0}
IsShortHead limits Trailers text = Unit {0}
IsShortHead limits BodyEnd text = Unit {0}
IsShortHead limits HandshakeEnd text = Unit {0}
IsShortHead limits Upgraded text = Unit {0}
IsShortHead limits (Stopped refusal) text = Unit {0}
