-- Words of the private functions of the reader, which state no promise: how far a search has come, one turn, and the turns up to
-- a result.
use Rattle.std.specs.Prelude.{◌≡◌, ℕ, ◌≤◌, List, ◌++◌, length, take, drop, Bool, true, false, Option, Some, None}
use Rattle.asgi_request.specs.declared.place.Place.{Place}
use Rattle.asgi_request.specs.declared.place.Place.TheVariants.{Start, Counted, SizeLine, Chunk, ChunkEnd, Trailers, BodyEnd, HandshakeEnd, Upgraded, Stopped}
use Rattle.asgi_request.specs.declared.place.Advance.{Advance}
use Rattle.asgi_request.specs.declared.place.Advance.TheVariants.{Waits, Refuses, Gives}
use Rattle.asgi_request.specs.declared.next.Next.{Next}
use Rattle.asgi_request.specs.declared.next.Next.TheVariants.{Need, Head, Event, Whole, Bad}
use Rattle.asgi_request.specs.declared.search.Search.{Search}
use Rattle.asgi_request.specs.declared.search.Arrival.{Arrival}
use Rattle.asgi_request.specs.declared.search.Arrival.TheVariants.{Text, TooLong, Partial}
use Rattle.asgi_request.specs.Fronts.{Front, found, too_long, unfinished, more, empty_line_len, head_len, lines_len, line_len, trailer_len}
use Rattle.asgi_request.specs.Places.{Judged, JudgesText, Takes, front}
use Rattle.asgi_request.specs.Refusals.{status_of}
use Rattle.asgi_request.specs.declared.refusal.Refusal.{Refusal}
use Rattle.asgi_request.specs.Reading.{Reading, IsWaiting, IsRefused, Keeps, GoesOn}

-- the bytes before `at` hold no end of the text, whatever follows
pub record Continues (whole part : List ℕ → Option ℕ) (at : ℕ) (held : List ℕ) : Type 0 where
  pub inside : at ≤ length held
  pub same : (rest : List ℕ) → whole (held ++ rest) ≡ more at (part (drop at held ++ rest))

-- no end of a text stands between these places, whatever follows
abbrev pub GoesFrom : (List ℕ → Option ℕ) → (List ℕ → Option ℕ) → ℕ → ℕ → List ℕ → Type 0
GoesFrom whole part from at held = (rest : List ℕ) → more from (whole (drop from held ++ rest)) ≡ more at (part (drop at held ++ rest))

-- more bytes at the end make no empty line at the front that isn't there
abbrev pub IsClosed : List ℕ → Type 0
IsClosed bytes = (rest : List ℕ) → empty_line_len (bytes ++ rest) ≡ empty_line_len bytes

-- the search of a head goes on before its first byte or after it
abbrev pub head_part : Bool → List ℕ → Option ℕ
head_part true bytes = lines_len bytes
head_part false bytes = head_len bytes

-- the search of a trailer section goes on if its front is known to be no empty line, else it starts anew
abbrev pub ResumesTrailer : Bool → ℕ → List ℕ → Type 0
ResumesTrailer true at held = Continues trailer_len lines_len at held
ResumesTrailer false at held = Unit {0}

-- a search goes on that way at this place
abbrev pub Resumes : Place → Search → List ℕ → Type 0
Resumes Start s held = Continues head_len (head_part s.begun) s.at held
Resumes (Counted n) s held = Unit {0}
Resumes (SizeLine sum) s held = Continues line_len line_len s.at held
Resumes (Chunk left sum) s held = Unit {0}
Resumes (ChunkEnd sum) s held = Unit {0}
Resumes Trailers s held = ResumesTrailer s.begun s.at held
Resumes BodyEnd s held = Unit {0}
Resumes HandshakeEnd s held = Unit {0}
Resumes Upgraded s held = Unit {0}
Resumes (Stopped refusal) s held = Unit {0}

-- the front that a search found
abbrev pub front_of : List ℕ → Arrival → Front
front_of bytes (Text n) = found (take n bytes)
front_of bytes TooLong = too_long
front_of bytes Partial = unfinished

-- a text that was found lies in the bytes
abbrev pub IsWithin : List ℕ → Arrival → Type 0
IsWithin bytes (Text n) = n ≤ length bytes
IsWithin bytes TooLong = Unit {0}
IsWithin bytes Partial = Unit {0}

-- one turn, with its result if it has one
pub record Stepped (old new : Reading) (item : Option Next) : Type 0 where
  pub limits : new.limits ≡ old.limits
  pub capacity : new.capacity ≡ old.capacity
  pub takes : Takes old.limits old.place old.held (record { item = item; place = new.place }) new.held

-- a text of n bytes is there
pub record IsThere (r : Reading) (n : ℕ) : Type 0 where
  pub inside : n ≤ length r.held
  pub is_front : front r.limits r.place r.held ≡ found (take n r.held)

-- the reader after n bytes, at this place
abbrev pub after : Reading → ℕ → Place → Reading
after r n place = record { limits = r.limits; place = place; held = drop n r.held; capacity = r.capacity }

-- a text of n bytes, judged at this place, gave this
pub record TakesText (old new : Reading) (place : Place) (n : ℕ) (item : Next) : Type 0 where
  pub is_after : new ≡ after old n new.place
  pub judged : JudgesText old.limits place (take n old.held) (record { item = Some item; place = new.place })

-- whether a text that is not refused gives no result here
abbrev pub is_silent : Place → Bool
is_silent Start = false
is_silent (Counted n) = false
is_silent (SizeLine sum) = true
is_silent (Chunk left sum) = false
is_silent (ChunkEnd sum) = true
is_silent Trailers = false
is_silent BodyEnd = false
is_silent HandshakeEnd = false
is_silent Upgraded = false
is_silent (Stopped refusal) = false

-- why the bytes are refused here, if they are
abbrev pub refusal_at : Place → Option Refusal
refusal_at Start = None
refusal_at (Counted n) = None
refusal_at (SizeLine sum) = None
refusal_at (Chunk left sum) = None
refusal_at (ChunkEnd sum) = None
refusal_at Trailers = None
refusal_at BodyEnd = None
refusal_at HandshakeEnd = None
refusal_at Upgraded = None
refusal_at (Stopped refusal) = Some refusal

-- a refusal, or no result
abbrev pub refused : Option Refusal → Option Next
refused None = None
refused (Some why) = Some (Bad (status_of why))

-- a turn without a result, or with a refusal
abbrev pub passing : Place → Judged
passing place = record { item = refused (refusal_at place); place = place }

-- no result of the bytes is there, or they are refused, or a text of n bytes gives one
abbrev pub Advances : Reading → Reading → Advance → Type 0
Advances old new Waits = IsWaiting new × Keeps old new
Advances old new (Refuses why) = GoesOn old new (Bad (status_of why)) × (new.place ≡ Stopped why)
Advances old new (Gives n) = Keeps old new × IsThere new n × (is_silent new.place ≡ false)

-- what holds of the reader after a result: `Need` is no result, and after a refusal the reader has refused
abbrev pub IsResult : Reading → Option Next → Type 0
IsResult new None = Unit {0}
IsResult new (Some Need) = ⊥
IsResult new (Some (Head scope facts)) = Unit {0}
IsResult new (Some (Event event)) = Unit {0}
IsResult new (Some Whole) = Unit {0}
IsResult new (Some (Bad status)) = IsRefused new status

-- how many silent turns can follow
abbrev pub rank : Place → ℕ
rank Start = 0
rank (Counted n) = 0
rank (SizeLine sum) = 1
rank (Chunk left sum) = 0
rank (ChunkEnd sum) = 2
rank Trailers = 0
rank BodyEnd = 0
rank HandshakeEnd = 0
rank Upgraded = 0
rank (Stopped refusal) = 0
