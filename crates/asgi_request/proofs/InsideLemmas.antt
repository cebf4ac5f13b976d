-- A head is due only after a whole request: no other turn ends where one is due.
use Rattle.std.proofs.Common.{◌≡◌, ℕ, ◌-◌, ◌+◌, ◌⊎◌, Bool, true, false, List, [], ◌∷◌, ◌++◌, length, inl, inr, refl, sym, ap, ◌∙◌, subst, Option, Some, None, Result, Ok, Err}
use Rattle.std.specs.Prelude.{nat_lt, ◌==◌, if◌then◌else◌, bytes_eq}
use Rattle.httparse.specs.Ascii.{crlf_bytes}
use Rattle.asgi_types.specs.declared.facts.Framing.{Framing}
use Rattle.asgi_types.specs.declared.facts.Framing.TheVariants.{Length, Chunked, Upgrade}
use Rattle.asgi_types.specs.declared.incoming.Incoming.TheVariants.{HttpRequest}
use Rattle.asgi_types.specs.declared.limits.Limits.{Limits}
use Rattle.asgi_request.specs.declared.head.HeadRecord.{HeadRecord}
use Rattle.asgi_request.specs.declared.next.Next.{Next}
use Rattle.asgi_request.specs.declared.next.Next.TheVariants.{Event, Whole}
use Rattle.asgi_request.specs.declared.place.Place.{Place}
use Rattle.asgi_request.specs.declared.place.Place.TheVariants.{Start, Counted, SizeLine, Chunk, ChunkEnd, Trailers, BodyEnd, HandshakeEnd, Upgraded, Stopped}
use Rattle.asgi_request.specs.declared.refusal.Refusal.{Refusal}
use Rattle.asgi_request.specs.declared.refusal.Refusal.TheVariants.{BadRequest, ContentTooLarge}
use Rattle.asgi_request.specs.RequestFraming.{request_framing}
use Rattle.asgi_request.specs.Scopes.{scope_of, facts_of}
use Rattle.asgi_request.specs.Fronts.{Front, found, too_long, unfinished}
use Rattle.asgi_request.specs.Reading.{Reading, EndsWhole}
use Rattle.asgi_request.specs.private.Searches.{Stepped}
use Rattle.asgi_request.specs.Places.{Judged, front, body_place, bad, silent, gives, after_framing, after_head, after_counted, after_chunk, after_size, after_chunk_end, after_trailers, after_too_long, JudgesText, Judges, Reads, shown, Reaches}

-- if a head is due after the turn, it gave `Whole`
abbrev FromWhole : Judged → Type 0
FromWhole t = t.place ≡ Start → t.item ≡ Some Whole

moved : (turn t : Judged) → turn ≡ t → FromWhole t → FromWhole turn
moved turn t e f = let P : Judged → Type 0 = λ x. FromWhole x in subst P (sym e) f

given_from : (r : HeadRecord) (framing : Framing) → FromWhole (gives (Next.Head (scope_of r framing) (facts_of r framing)) (body_place framing))
given_from r (Length n) e = absurd cc
given_from r Chunked e = absurd cc
given_from r Upgrade e = absurd cc

framing_from : (r : HeadRecord) (f : Result Framing Refusal) → FromWhole (after_framing r f)
framing_from r (Ok framing) e = given_from r framing e
framing_from r (Err why) e = absurd cc

head_from : (limits : Limits) (r : Option HeadRecord) → FromWhole (after_head limits r)
head_from limits None e = absurd cc
head_from limits (Some r) e = framing_from r (request_framing r limits) e

counted_from : (b : Bool) (x : List ℕ) (left : ℕ) → FromWhole (if b then gives (Event (HttpRequest x true)) (Counted left) else gives (Event (HttpRequest x false)) BodyEnd)
counted_from true x left e = absurd cc
counted_from false x left e = absurd cc

chunk_from : (b : Bool) (x : List ℕ) (left sum : ℕ) → FromWhole (if b then gives (Event (HttpRequest x true)) (Chunk left sum) else gives (Event (HttpRequest x true)) (ChunkEnd sum))
chunk_from true x left sum e = absurd cc
chunk_from false x left sum e = absurd cc

pair_from : (b : Bool) (sum : ℕ) → FromWhole (if b then silent (SizeLine sum) else bad BadRequest)
pair_from true sum e = absurd cc
pair_from false sum e = absurd cc

size_from : (a b : Bool) (n total : ℕ) → FromWhole (if a then bad ContentTooLarge else (if b then silent Trailers else silent (Chunk n total)))
size_from true b n total e = absurd cc
size_from false true n total e = absurd cc
size_from false false n total e = absurd cc

sizes_from : (max_body sum : ℕ) (n : Option ℕ) → FromWhole (after_size max_body sum n)
sizes_from max_body sum None e = absurd cc
sizes_from max_body sum (Some n) e = size_from (nat_lt max_body (sum + n)) (n == 0) n (sum + n) e

trailers_from : (ok : Bool) → FromWhole (after_trailers ok)
trailers_from true e = absurd cc
trailers_from false e = absurd cc

long_from : (place : Place) → FromWhole (after_too_long place)
long_from Start e = absurd cc
long_from (Counted n) e = absurd cc
long_from (SizeLine sum) e = absurd cc
long_from (Chunk left sum) e = absurd cc
long_from (ChunkEnd sum) e = absurd cc
long_from Trailers e = absurd cc
long_from BodyEnd e = absurd cc
long_from HandshakeEnd e = absurd cc
long_from Upgraded e = absurd cc
long_from (Stopped why) e = absurd cc

text_from : (limits : Limits) (place : Place) (text : List ℕ) (turn : Judged) → JudgesText limits place text turn → FromWhole turn
text_from limits Start text turn j = moved turn (after_head limits j.0) j.2 (head_from limits j.0)
text_from limits (Counted n) text turn j = moved turn (after_counted n text) j (counted_from (nat_lt (length text) n) text (n - length text))
text_from limits (SizeLine sum) text turn j = moved turn (after_size limits.max_body sum j.0) j.2 (sizes_from limits.max_body sum j.0)
text_from limits (Chunk left sum) text turn j = moved turn (after_chunk left sum text) j (chunk_from (nat_lt (length text) left) text (left - length text) sum)
text_from limits (ChunkEnd sum) text turn j = moved turn (after_chunk_end sum text) j (pair_from (bytes_eq text crlf_bytes) sum)
text_from limits Trailers text turn j = moved turn (after_trailers j.0) j.2 (trailers_from j.0)
text_from limits BodyEnd text turn j = moved turn (gives Whole Start) j (λ e. refl)
text_from limits HandshakeEnd text turn j = moved turn (gives Whole Upgraded) j (λ e. absurd cc)
text_from limits Upgraded text turn j = absurd j
text_from limits (Stopped why) text turn j = absurd j

turn_from : (limits : Limits) (place : Place) (f : Front) (turn : Judged) → Judges limits place f turn → FromWhole turn
turn_from limits place (found text) turn j = text_from limits place text turn j
turn_from limits place too_long turn j = moved turn (after_too_long place) j (long_from place)
turn_from limits place unfinished turn j = absurd j

-- after a turn without a result no head is due
pub silent_inside : (old new : Reading) → Stepped old new None → new.place ≡ Start → ⊥
silent_inside old new step e =
    let never : None ≡ Some Whole = turn_from old.limits old.place (front old.limits old.place old.held) (record { item = None; place = new.place }) step.takes.judged e in
    cc

-- what is shown up to a place where a head is due ends in `Whole`, or no turn was made
shown_ends : (limits : Limits) (place : Place) (bytes : List ℕ) (items : List (Option Next)) (rest : List ℕ) → Reads limits place bytes items Start rest
    → ((items ≡ []) × (place ≡ Start)) ⊎ ((before : List Next) × (shown items ≡ before ++ Whole ∷ []))
shown_ends limits place bytes [] rest r = inl (refl, r.0)
shown_ends limits place bytes (item ∷ items) rest r = by item (turn_from limits place (front limits place bytes) (record { item = item; place = r.0 }) r.2.judged) (shown_ends limits r.0 r.1 items rest r.3)
  where
    by : (i : Option Next) → (r.0 ≡ Start → i ≡ Some Whole) → ((items ≡ []) × (r.0 ≡ Start)) ⊎ ((before : List Next) × (shown items ≡ before ++ Whole ∷ []))
        → ((i ∷ items ≡ []) × (place ≡ Start)) ⊎ ((before : List Next) × (shown (i ∷ items) ≡ before ++ Whole ∷ []))
    by None from (inl e) = let never : None ≡ Some Whole = from e.1 in absurd cc
    by (Some x) from (inl e) = let is : x ≡ Whole = cc (from e.1) in inr ([], ap (λ (l : List (Option Next)). x ∷ shown l) e.0 ∙ ap (λ (n : Next). n ∷ []) is)
    by None from (inr w) = inr w
    by (Some x) from (inr w) = inr (x ∷ w.0, ap (λ (l : List Next). x ∷ l) w.1)

-- where a head is due, the last result is `Whole`, or none was given
pub start_ends : (limits : Limits) (bytes : List ℕ) (given : List Next) (place : Place) (held : List ℕ) → Reaches limits bytes given place held → place ≡ Start → EndsWhole given
start_ends limits bytes given place held x e = by (shown_ends limits Start bytes x.steps held (let P : Place → Type 0 = λ p. Reads limits Start bytes x.steps p held in subst P e x.reads))
  where
    by : ((x.steps ≡ []) × (Start ≡ Start)) ⊎ ((before : List Next) × (shown x.steps ≡ before ++ Whole ∷ [])) → EndsWhole given
    by (inl n) = inl (sym x.shows ∙ ap shown n.0)
    by (inr w) = inr (w.0, sym x.shows ∙ w.1)
