-- After the last result of a request, what is due next is a head.
use Rattle.std.proofs.Common.{◌≡◌, ℕ, ◌-◌, ◌+◌, ◌⊎◌, Bool, true, false, List, [], ◌∷◌, ◌++◌, append-nil, flat_map, length, inl, inr, refl, sym, ap, ◌∙◌, subst, Option, Some, None, Result, Ok, Err}
use Rattle.std.specs.Prelude.{nat_lt, ◌==◌, if◌then◌else◌, bytes_eq}
use Rattle.httparse.specs.Ascii.{crlf_bytes}
use Rattle.asgi_types.specs.declared.facts.Framing.{Framing}
use Rattle.asgi_types.specs.declared.incoming.Incoming.TheVariants.{HttpRequest}
use Rattle.asgi_types.specs.declared.limits.Limits.{Limits}
use Rattle.asgi_request.specs.declared.head.HeadRecord.{HeadRecord}
use Rattle.asgi_request.specs.declared.next.Next.{Next}
use Rattle.asgi_request.specs.declared.next.Next.TheVariants.{Event, Whole, Bad}
use Rattle.asgi_request.specs.declared.place.Place.{Place}
use Rattle.asgi_request.specs.declared.place.Place.TheVariants.{Start, Counted, SizeLine, Chunk, ChunkEnd, Trailers, BodyEnd, HandshakeEnd, Upgraded, Stopped}
use Rattle.asgi_request.specs.Places.{Judged}
use Rattle.asgi_request.specs.declared.refusal.Refusal.{Refusal}
use Rattle.asgi_request.specs.declared.refusal.Refusal.TheVariants.{BadRequest, ContentTooLarge}
use Rattle.asgi_request.specs.RequestFraming.{request_framing}
use Rattle.asgi_request.specs.Fronts.{Front, found, too_long, unfinished}
use Rattle.asgi_request.specs.Reading.{Reading, StandsFor, EndsWhole, WholeGiven}
use Rattle.asgi_request.proofs.HandshakeLemmas.{upgraded_at}
use Rattle.asgi_request.proofs.StandardLemmas.{whole_requests}
use Rattle.asgi_request.specs.Places.{front, bad, silent, gives, after_framing, after_head, after_counted, after_chunk, after_size, after_chunk_end, after_trailers, after_too_long, JudgesText, Judges, Takes, Reads, shown, Reaches}

-- after `Whole` a head is due, or frames stand there
abbrev EndsRequest : Place → Type 0
EndsRequest place = (place ≡ Start) ⊎ (place ≡ Upgraded)

abbrev WholeStart : Judged → Type 0
WholeStart t = t.item ≡ Some Whole → EndsRequest t.place

moved : (turn t : Judged) → turn ≡ t → WholeStart t → WholeStart turn
moved turn t e f = let P : Judged → Type 0 = λ x. WholeStart x in subst P (sym e) f

framing_whole : (r : HeadRecord) (f : Result Framing Refusal) → WholeStart (after_framing r f)
framing_whole r (Ok framing) e = absurd cc
framing_whole r (Err why) e = absurd cc

head_whole : (limits : Limits) (r : Option HeadRecord) → WholeStart (after_head limits r)
head_whole limits None e = absurd cc
head_whole limits (Some r) e = framing_whole r (request_framing r limits) e

event_whole : (b : Bool) (x : List ℕ) (p q : Place) (m n : Bool) → WholeStart (if b then gives (Event (HttpRequest x m)) p else gives (Event (HttpRequest x n)) q)
event_whole true x p q m n e = absurd cc
event_whole false x p q m n e = absurd cc

pair_whole : (b : Bool) (sum : ℕ) → WholeStart (if b then silent (SizeLine sum) else bad BadRequest)
pair_whole true sum e = absurd cc
pair_whole false sum e = absurd cc

size_whole : (a b : Bool) (n total : ℕ) → WholeStart (if a then bad ContentTooLarge else (if b then silent Trailers else silent (Chunk n total)))
size_whole true b n total e = absurd cc
size_whole false true n total e = absurd cc
size_whole false false n total e = absurd cc

sizes_whole : (max_body sum : ℕ) (n : Option ℕ) → WholeStart (after_size max_body sum n)
sizes_whole max_body sum None e = absurd cc
sizes_whole max_body sum (Some n) e = size_whole (nat_lt max_body (sum + n)) (n == 0) n (sum + n) e

trailers_whole : (ok : Bool) → WholeStart (after_trailers ok)
trailers_whole true e = absurd cc
trailers_whole false e = absurd cc

long_whole : (place : Place) → WholeStart (after_too_long place)
long_whole Start e = absurd cc
long_whole (Counted n) e = absurd cc
long_whole (SizeLine sum) e = absurd cc
long_whole (Chunk left sum) e = absurd cc
long_whole (ChunkEnd sum) e = absurd cc
long_whole Trailers e = absurd cc
long_whole BodyEnd e = absurd cc
long_whole HandshakeEnd e = absurd cc
long_whole Upgraded e = absurd cc
long_whole (Stopped why) e = absurd cc

text_whole : (limits : Limits) (place : Place) (text : List ℕ) (turn : Judged) → JudgesText limits place text turn → WholeStart turn
text_whole limits Start text turn j = moved turn (after_head limits j.0) j.2 (head_whole limits j.0)
text_whole limits (Counted n) text turn j = moved turn (after_counted n text) j (event_whole (nat_lt (length text) n) text (Counted (n - length text)) BodyEnd true false)
text_whole limits (SizeLine sum) text turn j = moved turn (after_size limits.max_body sum j.0) j.2 (sizes_whole limits.max_body sum j.0)
text_whole limits (Chunk left sum) text turn j =
    moved turn (after_chunk left sum text) j (event_whole (nat_lt (length text) left) text (Chunk (left - length text) sum) (ChunkEnd sum) true true)
text_whole limits (ChunkEnd sum) text turn j = moved turn (after_chunk_end sum text) j (pair_whole (bytes_eq text crlf_bytes) sum)
text_whole limits Trailers text turn j = moved turn (after_trailers j.0) j.2 (trailers_whole j.0)
text_whole limits BodyEnd text turn j = moved turn (gives Whole Start) j (λ e. inl refl)
text_whole limits HandshakeEnd text turn j = moved turn (gives Whole Upgraded) j (λ e. inr refl)
text_whole limits Upgraded text turn j = absurd j
text_whole limits (Stopped why) text turn j = absurd j

turn_whole : (limits : Limits) (place : Place) (f : Front) (turn : Judged) → Judges limits place f turn → WholeStart turn
turn_whole limits place (found text) turn j = text_whole limits place text turn j
turn_whole limits place too_long turn j = moved turn (after_too_long place) j (long_whole place)
turn_whole limits place unfinished turn j = absurd j

-- before a head no turn is silent
framing_loud : (r : HeadRecord) (f : Result Framing Refusal) → (after_framing r f).item ≡ None → ⊥
framing_loud r (Ok framing) e = cc
framing_loud r (Err why) e = cc

head_loud : (limits : Limits) (r : Option HeadRecord) → (after_head limits r).item ≡ None → ⊥
head_loud limits None e = cc
head_loud limits (Some r) e = framing_loud r (request_framing r limits) e

start_loud : (limits : Limits) (f : Front) (turn : Judged) → Judges limits Start f turn → turn.item ≡ None → ⊥
start_loud limits (found text) turn j e = head_loud limits j.0 (sym (ap (λ (t : Judged). t.item) j.2) ∙ e)
start_loud limits too_long turn j e = let x : Some (Bad 431) ≡ None = sym (ap (λ (t : Judged). t.item) j) ∙ e in cc
start_loud limits unfinished turn j e = j

silent_start : (limits : Limits) (bytes : List ℕ) (items : List (Option Next)) (end : Place) (rest : List ℕ)
    → Reads limits Start bytes items end rest → shown items ≡ [] → end ≡ Start
silent_start limits bytes [] end rest r e = sym r.0
silent_start limits bytes (None ∷ items) end rest r e =
    absurd (start_loud limits (front limits Start bytes) (record { item = None; place = r.0 }) r.2.judged refl)
silent_start limits bytes (Some x ∷ items) end rest r e = cc

-- and after an opening handshake there are no turns
no_turn : (limits : Limits) (bytes rest : List ℕ) (turn : Judged) → Takes limits Upgraded bytes turn rest → ⊥
no_turn limits bytes rest turn t = t.judged

silent_end : (limits : Limits) (place : Place) (bytes : List ℕ) (items : List (Option Next)) (end : Place) (rest : List ℕ) → EndsRequest place
    → Reads limits place bytes items end rest → shown items ≡ [] → EndsRequest end
silent_end limits place bytes items end rest (inl s) r e =
    let P : Place → Type 0 = λ p. Reads limits p bytes items end rest in inl (silent_start limits bytes items end rest (subst P s r) e)
silent_end limits place bytes [] end rest (inr s) r e = inr (sym r.0 ∙ s)
silent_end limits place bytes (item ∷ items) end rest (inr s) r e =
    let P : Place → Type 0 = λ p. Takes limits p bytes (record { item = item; place = r.0 }) r.1 in
    absurd (no_turn limits bytes r.1 (record { item = item; place = r.0 }) (subst P s r.2))

tail_of : (x y : Next) (a b : List Next) → x ∷ a ≡ y ∷ b → (x ≡ y) × (a ≡ b)
tail_of x y a b e = (cc, cc)

whole_start : (limits : Limits) (place : Place) (bytes : List ℕ) (items : List (Option Next)) (end : Place) (rest : List ℕ) (before : List Next)
    → Reads limits place bytes items end rest → shown items ≡ before ++ Whole ∷ [] → EndsRequest end
whole_start limits place bytes [] end rest [] r e = cc
whole_start limits place bytes [] end rest (b ∷ before) r e = cc
whole_start limits place bytes (None ∷ items) end rest before r e = whole_start limits r.0 r.1 items end rest before r.3 e
whole_start limits place bytes (Some x ∷ items) end rest [] r e =
    let parts = tail_of x Whole (shown items) [] e in
    let mid = turn_whole limits place (front limits place bytes) (record { item = Some x; place = r.0 }) r.2.judged (ap (λ (n : Next). Some n) parts.0) in
    silent_end limits r.0 r.1 items end rest mid r.3 parts.1
whole_start limits place bytes (Some x ∷ items) end rest (b ∷ before) r e =
    whole_start limits r.0 r.1 items end rest before r.3 (tail_of x b (shown items) (before ++ Whole ∷ []) e).1

-- if the last result is `Whole`, or none was given, a head is due, or frames stand there
pub between : (limits : Limits) (bytes : List ℕ) (given : List Next) (place : Place) (held : List ℕ) → Reaches limits bytes given place held
    → EndsWhole given → EndsRequest place
between limits bytes given place held x (inl e) = inl (silent_start limits bytes x.steps place held x.reads (x.shows ∙ e))
between limits bytes given place held x (inr w) = whole_start limits Start bytes x.steps place held w.0 x.reads (x.shows ∙ w.1)

pub held_is : (r : Reading) (bytes : List ℕ) (given : List Next) (held : List ℕ) → StandsFor r bytes given → EndsWhole given → held ≡ r.held
    → WholeGiven r bytes given held
held_is r bytes given held stands ends e =
    subst (λ (l : List ℕ). WholeGiven r bytes given l) (sym e) (by (between r.limits bytes given r.place r.held stands ends))
  where
    reached : (place : Place) → r.place ≡ place → Reaches r.limits bytes given place r.held
    reached place s = let P : Place → Type 0 = λ p. Reaches r.limits bytes given p r.held in subst P s stands

    by : EndsRequest r.place → WholeGiven r bytes given r.held
    by (inl s) =
        let whole = whole_requests r.limits r.limits.block_in_range.0 bytes given r.held (reached Start s) in
        record { requests = whole.0; after = r.held; last = []; whole = whole.1; goes_on = inl (refl, refl); given_are = whole.2 ∙ sym (append-nil (flat_map (λ q. q) whole.0)) }
    by (inr s) =
        let h = upgraded_at r.limits bytes given r.held (reached Upgraded s) in
        record { requests = h.requests; after = h.after; last = h.last; whole = h.whole; goes_on = inr h.handshake; given_are = h.given_are }
