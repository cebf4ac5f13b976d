-- A reader that has refused gave the refusal last.
use Rattle.std.proofs.Common.{◌≡◌, ℕ, ◌+◌, ◌-◌, inl, inr, length, Bool, true, false, List, [], ◌∷◌, ◌++◌, refl, sym, ap, ◌∙◌, subst, append_assoc, Option, Some, None}
use Rattle.std.specs.Prelude.{◌⊎◌, Result, Ok, Err, bytes_eq, ◌==◌, nat_lt, if◌then◌else◌}
use Rattle.httparse.specs.Ascii.{crlf_bytes}
use Rattle.asgi_types.specs.declared.facts.Framing.{Framing}
use Rattle.asgi_types.specs.declared.facts.Framing.TheVariants.{Length, Chunked, Upgrade}
use Rattle.asgi_types.specs.declared.incoming.Incoming.TheVariants.{HttpRequest}
use Rattle.asgi_types.specs.declared.limits.Limits.{Limits}
use Rattle.asgi_request.specs.declared.head.HeadRecord.{HeadRecord}
use Rattle.asgi_request.specs.declared.next.Next.{Next}
use Rattle.asgi_request.specs.declared.next.Next.TheVariants.{Event, Whole, Bad}
use Rattle.asgi_request.specs.declared.place.Place.{Place}
use Rattle.asgi_request.specs.declared.place.Place.TheVariants.{Start, Counted, SizeLine, Chunk, ChunkEnd, Trailers, BodyEnd, HandshakeEnd, Upgraded, Stopped}
use Rattle.asgi_request.specs.Places.{Judged}
use Rattle.asgi_request.specs.declared.refusal.Refusal.{Refusal}
use Rattle.asgi_request.specs.declared.refusal.Refusal.TheVariants.{BadRequest, ContentTooLarge}
use Rattle.asgi_request.specs.Refusals.{status_of}
use Rattle.asgi_request.specs.Fronts.{Front, found, too_long, unfinished}
use Rattle.asgi_request.specs.RequestFraming.{request_framing}
use Rattle.asgi_request.specs.Places.{front, bad, silent, gives, after_framing, after_head, after_counted, after_size, after_chunk, after_chunk_end, after_trailers, after_too_long, JudgesText, Judges, Takes, Reads, shown, Reaches}
use Rattle.asgi_request.proofs.UniqueLemmas.{shown-append}

-- the place is a refusal's only if the refusal is given
Stops : Option Next → Place → Type 0
Stops item Start = Unit {0}
Stops item (Counted n) = Unit {0}
Stops item (SizeLine sum) = Unit {0}
Stops item (Chunk left sum) = Unit {0}
Stops item (ChunkEnd sum) = Unit {0}
Stops item Trailers = Unit {0}
Stops item BodyEnd = Unit {0}
Stops item HandshakeEnd = Unit {0}
Stops item Upgraded = Unit {0}
Stops item (Stopped why) = item ≡ Some (Bad (status_of why))

StopsTurn : Judged → Type 0
StopsTurn turn = Stops turn.item turn.place

framing_stops : (r : HeadRecord) (f : Result Framing Refusal) → StopsTurn (after_framing r f)
unfolding StopsTurn Stops
framing_stops r (Ok (Length n)) = tt
framing_stops r (Ok Chunked) = tt
framing_stops r (Ok Upgrade) = tt
framing_stops r (Err why) = refl

head_stops : (limits : Limits) (r : Option HeadRecord) → StopsTurn (after_head limits r)
unfolding StopsTurn Stops
head_stops limits None = refl
head_stops limits (Some r) = framing_stops r (request_framing r limits)

counted_stops : (n : ℕ) (text : List ℕ) → StopsTurn (after_counted n text)
unfolding StopsTurn Stops
counted_stops n text = by (nat_lt (length text) n)
  where
    by : (b : Bool) → StopsTurn (if b then gives (Event (HttpRequest text true)) (Counted (n - length text)) else gives (Event (HttpRequest text false)) BodyEnd)
    by true = tt
    by false = tt

chunk_stops : (left sum : ℕ) (text : List ℕ) → StopsTurn (after_chunk left sum text)
unfolding StopsTurn Stops
chunk_stops left sum text = by (nat_lt (length text) left)
  where
    by : (b : Bool) → StopsTurn (if b then gives (Event (HttpRequest text true)) (Chunk (left - length text) sum) else gives (Event (HttpRequest text true)) (ChunkEnd sum))
    by true = tt
    by false = tt

pair_stops : (sum : ℕ) (text : List ℕ) → StopsTurn (after_chunk_end sum text)
unfolding StopsTurn Stops
pair_stops sum text = by (bytes_eq text crlf_bytes)
  where
    by : (b : Bool) → StopsTurn (if b then silent (SizeLine sum) else bad BadRequest)
    by true = tt
    by false = refl

size_stops : (max_body sum : ℕ) (n : Option ℕ) → StopsTurn (after_size max_body sum n)
unfolding StopsTurn Stops
size_stops max_body sum None = refl
size_stops max_body sum (Some n) = by (nat_lt max_body (sum + n)) (n == 0)
  where
    by : (a b : Bool) → StopsTurn (if a then bad ContentTooLarge else (if b then silent Trailers else silent (Chunk n (sum + n))))
    by true b = refl
    by false true = tt
    by false false = tt

trailers_stop : (ok : Bool) → StopsTurn (after_trailers ok)
unfolding StopsTurn Stops
trailers_stop true = tt
trailers_stop false = refl

long_stops : (place : Place) → StopsTurn (after_too_long place)
unfolding StopsTurn Stops
long_stops Start = refl
long_stops (Counted n) = refl
long_stops (SizeLine sum) = refl
long_stops (Chunk left sum) = refl
long_stops (ChunkEnd sum) = refl
long_stops Trailers = refl
long_stops BodyEnd = refl
long_stops HandshakeEnd = refl
long_stops Upgraded = refl
long_stops (Stopped why) = refl

end_stops : StopsTurn (gives Whole Start)
unfolding StopsTurn Stops
end_stops = tt

upgraded_stops : StopsTurn (gives Whole Upgraded)
unfolding StopsTurn Stops
upgraded_stops = tt

same : (turn t : Judged) → turn ≡ t → StopsTurn t → StopsTurn turn
same turn t e x = subst StopsTurn (sym e) x

text_stops : (limits : Limits) (place : Place) (text : List ℕ) (turn : Judged) → JudgesText limits place text turn → StopsTurn turn
text_stops limits Start text turn j = same turn (after_head limits j.0) j.2 (head_stops limits j.0)
text_stops limits (Counted n) text turn j = same turn (after_counted n text) j (counted_stops n text)
text_stops limits (SizeLine sum) text turn j = same turn (after_size limits.max_body sum j.0) j.2 (size_stops limits.max_body sum j.0)
text_stops limits (Chunk left sum) text turn j = same turn (after_chunk left sum text) j (chunk_stops left sum text)
text_stops limits (ChunkEnd sum) text turn j = same turn (after_chunk_end sum text) j (pair_stops sum text)
text_stops limits Trailers text turn j = same turn (after_trailers j.0) j.2 (trailers_stop j.0)
text_stops limits BodyEnd text turn j = same turn (gives Whole Start) j end_stops
text_stops limits HandshakeEnd text turn j = same turn (gives Whole Upgraded) j upgraded_stops
text_stops limits Upgraded text turn j = absurd j
text_stops limits (Stopped why) text turn j = absurd j

turn_stops : (limits : Limits) (place : Place) (f : Front) (turn : Judged) → Judges limits place f turn → StopsTurn turn
turn_stops limits place (found text) turn j = text_stops limits place text turn j
turn_stops limits place too_long turn j = same turn (after_too_long place) j (long_stops place)
turn_stops limits place unfinished turn j = absurd j

-- the run was at the refusal from the first, or gives it last
Refuses : Place → List (Option Next) → Refusal → Type 0
Refuses place steps why =
    ((place ≡ Stopped why) × (steps ≡ [])) ⊎ ((before : List Next) × (shown steps ≡ before ++ Bad (status_of why) ∷ []))

step_refuses : (limits : Limits) (place : Place) (bytes : List ℕ) (item : Option Next) (steps : List (Option Next)) (mid : Place) (middle : List ℕ) (why : Refusal)
    → Takes limits place bytes (record { item = item; place = mid }) middle → Refuses mid steps why → Refuses place (item ∷ steps) why
unfolding Refuses StopsTurn Stops
step_refuses limits place bytes item steps mid middle why t (inl x) =
    let stops = turn_stops limits place (front limits place bytes) (record { item = item; place = mid }) t.judged in
    let P : Place → Type 0 = λ p. Stops item p in
    let is : item ≡ Some (Bad (status_of why)) = subst P x.0 stops in
    let Q : Option Next → Type 0 = λ i. shown (i ∷ []) ≡ [] ++ Bad (status_of why) ∷ [] in
    let R : List (Option Next) → Type 0 = λ l. shown (item ∷ l) ≡ [] ++ Bad (status_of why) ∷ [] in
    inr ([], subst R (sym x.1) (subst Q (sym is) refl))
step_refuses limits place bytes item steps mid middle why t (inr x) =
    inr (
      shown (item ∷ []) ++ x.0,
      shown-append (item ∷ []) steps ∙ ap (λ (l : List Next). shown (item ∷ []) ++ l) x.1
          ∙ sym (append_assoc (shown (item ∷ [])) x.0 (Bad (status_of why) ∷ [])),
    )

reads_refuse : (limits : Limits) (place : Place) (bytes : List ℕ) (steps : List (Option Next)) (rest : List ℕ) (why : Refusal)
    → Reads limits place bytes steps (Stopped why) rest → Refuses place steps why
unfolding Refuses
reads_refuse limits place bytes [] rest why r = inl (r.0, refl)
reads_refuse limits place bytes (item ∷ steps) rest why r =
    step_refuses limits place bytes item steps r.0 r.1 why r.2 (reads_refuse limits r.0 r.1 steps rest why r.3)

pub refused_last : (limits : Limits) (bytes : List ℕ) (given : List Next) (place : Place) (held : List ℕ) (why : Refusal)
    → Reaches limits bytes given place held → place ≡ Stopped why → (before : List Next) × (given ≡ before ++ Bad (status_of why) ∷ [])
unfolding Refuses
refused_last limits bytes given place held why x e =
    let P : Place → Type 0 = λ p. Reads limits Start bytes x.steps p held in
    by (reads_refuse limits Start bytes x.steps held why (subst P e x.reads))
  where
    by : Refuses Start x.steps why → (before : List Next) × (given ≡ before ++ Bad (status_of why) ∷ [])
    by (inl y) = let never : Start ≡ Stopped why = y.0 in cc
    by (inr y) = (y.0, sym x.shows ∙ y.1)
