-- What a reader stands for after one call.
use Rattle.std.proofs.Common.{◌≡◌, ℕ, ◌+◌, ◌<◌, ◌≤◌, Bool, true, false, List, [], ◌∷◌, ◌++◌, length, take, drop, refl, sym, ap, ◌∙◌, subst, arith, Option, Some, None, Result, Ok, Err}
use Rattle.std.specs.Prelude.{nat_lt, ◌-◌, ◌==◌, if◌then◌else◌, bytes_eq, IfOk, OnErr}
use Rattle.std.proofs.lemmas.List.{append-nil, drop-append-le, take-append-drop}
use Rattle.asgi_types.specs.declared.limits.Limits.{Limits}
use Rattle.asgi_types.specs.declared.facts.Framing.{Framing}
use Rattle.asgi_types.specs.declared.incoming.Incoming.TheVariants.{HttpRequest}
use Rattle.httparse.specs.Ascii.{crlf_bytes}
use Rattle.asgi_request.specs.declared.refusal.Refusal.{Refusal}
use Rattle.asgi_request.specs.declared.refusal.Refusal.TheVariants.{BadRequest, ContentTooLarge, HeaderFieldsTooLarge}
use Rattle.asgi_request.specs.Refusals.{status_of}
use Rattle.asgi_request.specs.declared.head.HeadRecord.{HeadRecord}
use Rattle.asgi_request.specs.declared.place.Place.{Place}
use Rattle.asgi_request.specs.declared.place.Place.TheVariants.{Start, Counted, SizeLine, Chunk, ChunkEnd, Trailers, BodyEnd, HandshakeEnd, Upgraded, Stopped}
use Rattle.asgi_request.specs.declared.next.Next.{Next}
use Rattle.asgi_request.specs.declared.next.Next.TheVariants.{Need, Head, Event, Whole, Bad}
use Rattle.asgi_request.specs.Places.{Judged}
use Rattle.asgi_request.specs.Fronts.{Front, found, too_long, unfinished, front_text}
use Rattle.asgi_request.specs.RequestFraming.{request_framing}
use Rattle.asgi_request.specs.Places.{front, bad, silent, gives, after_framing, after_head, after_counted, after_chunk, after_size, after_chunk_end, after_trailers, after_too_long, JudgesText, Judges, Takes, shown, Reaches}
use Rattle.asgi_request.specs.Reading.{Reading, StandsFor, IsRefused}
use Rattle.asgi_request.specs.private.Searches.{Stepped, IsResult, IsThere, TakesText, refusal_at, rank}
use Rattle.asgi_request.proofs.UniqueLemmas.{Reads-append, Reads-push, shown-append}

pub held_grown : (bytes a new : List ℕ) (start : ℕ) → start ≤ length bytes → new ≡ bytes ++ a → drop start new ≡ drop start bytes ++ a
held_grown bytes a new start h e = ap (drop start) e ∙ drop-append-le start bytes a h

-- also if the bytes before it had moved
pub held_fed : (bytes made a new : List ℕ) (start from : ℕ) → from ≤ length made → new ≡ made ++ a → drop from made ≡ drop start bytes
    → drop from new ≡ drop start bytes ++ a
held_fed bytes made a new start from h e same = held_grown made a new from h e ∙ ap (λ (l : List ℕ). l ++ a) same

Reaches-append : (limits : Limits) (bytes : List ℕ) (items : List Next) (place : Place) (rest a : List ℕ)
    → Reaches limits bytes items place rest → Reaches limits (bytes ++ a) items place (rest ++ a)
Reaches-append limits bytes items place rest a r =
    record { steps = r.steps; reads = Reads-append limits Start bytes r.steps place rest a r.reads; shows = r.shows }

pub feed_stands : (old seen : Reading) (piece grown : List ℕ) → seen ≡ old → grown ≡ seen.held ++ piece
    → (bytes : List ℕ) (given : List Next) → StandsFor old bytes given → Reaches seen.limits (bytes ++ piece) given seen.place grown
feed_stands old seen piece grown same e bytes given stands =
    let P : Reading → Type 0 = λ r. StandsFor r bytes given in
    let Q : List ℕ → Type 0 = λ h. Reaches seen.limits (bytes ++ piece) given seen.place h in
    subst Q (sym e) (Reaches-append seen.limits bytes given seen.place seen.held piece (subst P (sym same) stands))

-- a whole text was judged
takes_text : (limits : Limits) (place : Place) (held rest : List ℕ) (n : ℕ) (turn : Judged) → front limits place held ≡ found (take n held)
    → JudgesText limits place (take n held) turn → drop n held ≡ rest → Takes limits place held turn rest
takes_text limits place held rest n turn e judged r = record {
  splits = sym (take-append-drop n held) ∙ ap (λ (l : List ℕ). take n held ++ l) r ∙ ap (λ (f : Front). front_text f ++ rest) (sym e);
  judged = subst (λ (f : Front). Judges limits place f turn) (sym e) judged;
}

-- a text that gives a result
pub text_stepped : (old new : Reading) (n : ℕ) (item : Next) → IsThere old n → TakesText old new old.place n item → Stepped old new (Some item)
text_stepped old new n item there took = record {
  limits = ap (λ (r : Reading). r.limits) took.is_after;
  capacity = ap (λ (r : Reading). r.capacity) took.is_after;
  takes = takes_text old.limits old.place old.held new.held n (record { item = Some item; place = new.place }) there.is_front took.judged
      (sym (ap (λ (r : Reading). r.held) took.is_after));
}

-- one turn more
pub stepped_stands : (old new : Reading) (item : Option Next) → Stepped old new item → (bytes : List ℕ) (given : List Next)
    → StandsFor old bytes given → Reaches new.limits bytes (given ++ shown (item ∷ [])) new.place new.held
stepped_stands old new item step bytes given stands =
    let L : Limits → Type 0 = λ l. Reaches l bytes (given ++ shown (item ∷ [])) new.place new.held in
    subst L (sym step.limits) record {
      steps = stands.steps ++ item ∷ [];
      reads = Reads-push old.limits Start bytes stands.steps old.place old.held item new.place new.held stands.reads step.takes;
      shows = shown-append stands.steps (item ∷ []) ∙ ap (λ (l : List Next). l ++ shown (item ∷ [])) stands.shows;
    }

pub silent_stands : (old new : Reading) → Stepped old new None → (bytes : List ℕ) (given : List Next)
    → StandsFor old bytes given → Reaches new.limits bytes given new.place new.held
silent_stands old new step bytes given stands =
    let G : List Next → Type 0 = λ g. Reaches new.limits bytes g new.place new.held in
    subst G (append-nil given) (stepped_stands old new None step bytes given stands)

-- ---- few silent turns follow one another

-- a silent turn goes to a place of lower rank
abbrev pub Falls : ℕ → Judged → Type 0
Falls k t = t.item ≡ None → rank t.place < k

moved : (k : ℕ) (turn t : Judged) → turn ≡ t → Falls k t → Falls k turn
moved k turn t e f = let P : Judged → Type 0 = λ x. Falls k x in subst P (sym e) f

framing_falls : (k : ℕ) (r : HeadRecord) (f : Result Framing Refusal) → Falls k (after_framing r f)
framing_falls k r (Ok framing) e = absurd cc
framing_falls k r (Err refusal) e = absurd cc

head_falls : (k : ℕ) (limits : Limits) (r : Option HeadRecord) → Falls k (after_head limits r)
head_falls k limits None e = absurd cc
head_falls k limits (Some r) e = framing_falls k r (request_framing r limits) e

either_falls : (k : ℕ) (b : Bool) (x y : Next) (p q : Place) → Falls k (if b then gives x p else gives y q)
either_falls k true x y p q e = absurd cc
either_falls k false x y p q e = absurd cc

pair_falls : (b : Bool) (sum : ℕ) → Falls 2 (if b then silent (SizeLine sum) else bad BadRequest)
pair_falls true sum e = omega arith
pair_falls false sum e = absurd cc

size_cases : (a b : Bool) (n total : ℕ) → Falls 1 (if a then bad ContentTooLarge else (if b then silent Trailers else silent (Chunk n total)))
size_cases true b n total e = absurd cc
size_cases false true n total e = omega arith
size_cases false false n total e = omega arith

size_falls : (max_body sum : ℕ) (n : Option ℕ) → Falls 1 (after_size max_body sum n)
size_falls max_body sum None e = absurd cc
size_falls max_body sum (Some n) e = size_cases (nat_lt max_body (sum + n)) (n == 0) n (sum + n) e

trailers_falls : (k : ℕ) (ok : Bool) → Falls k (after_trailers ok)
trailers_falls k true e = absurd cc
trailers_falls k false e = absurd cc

long_falls : (k : ℕ) (place : Place) → Falls k (after_too_long place)
long_falls k Start e = absurd cc
long_falls k (Counted n) e = absurd cc
long_falls k (SizeLine sum) e = absurd cc
long_falls k (Chunk left sum) e = absurd cc
long_falls k (ChunkEnd sum) e = absurd cc
long_falls k Trailers e = absurd cc
long_falls k BodyEnd e = absurd cc
long_falls k HandshakeEnd e = absurd cc
long_falls k Upgraded e = absurd cc
long_falls k (Stopped refusal) e = absurd cc

text_falls : (limits : Limits) (place : Place) (text : List ℕ) (turn : Judged) → JudgesText limits place text turn → Falls (rank place) turn
text_falls limits Start text turn j = moved 0 turn (after_head limits j.0) j.2 (head_falls 0 limits j.0)
text_falls limits (Counted n) text turn j =
    moved 0 turn (after_counted n text) j (either_falls 0 (nat_lt (length text) n) (Event (HttpRequest text true)) (Event (HttpRequest text false)) (Counted (n - length text)) BodyEnd)
text_falls limits (SizeLine sum) text turn j = moved 1 turn (after_size limits.max_body sum j.0) j.2 (size_falls limits.max_body sum j.0)
text_falls limits (Chunk left sum) text turn j =
    moved 0 turn (after_chunk left sum text) j
    (either_falls 0 (nat_lt (length text) left) (Event (HttpRequest text true)) (Event (HttpRequest text true)) (Chunk (left - length text) sum) (ChunkEnd sum))
text_falls limits (ChunkEnd sum) text turn j = moved 2 turn (after_chunk_end sum text) j (pair_falls (bytes_eq text crlf_bytes) sum)
text_falls limits Trailers text turn j = moved 0 turn (after_trailers j.0) j.2 (trailers_falls 0 j.0)
text_falls limits BodyEnd text turn j = moved 0 turn (gives Whole Start) j (λ e. absurd cc)
text_falls limits HandshakeEnd text turn j = moved 0 turn (gives Whole Upgraded) j (λ e. absurd cc)
text_falls limits Upgraded text turn j = absurd j
text_falls limits (Stopped refusal) text turn j = absurd j

turn_falls : (limits : Limits) (place : Place) (f : Front) (turn : Judged) → Judges limits place f turn → Falls (rank place) turn
turn_falls limits place (found text) turn j = text_falls limits place text turn j
turn_falls limits place too_long turn j = moved (rank place) turn (after_too_long place) j (long_falls (rank place) place)
turn_falls limits place unfinished turn j = absurd j

pub silent_rank : (old new : Reading) → Stepped old new None → rank new.place < rank old.place
silent_rank old new step = turn_falls old.limits old.place (front old.limits old.place old.held) (record { item = None; place = new.place }) step.takes.judged refl

-- ---- what a turn gives is a result

-- what a turn's item shows of its place
abbrev pub Tells : Option Next → Place → Type 0
Tells None place = Unit {0}
Tells (Some Need) place = ⊥
Tells (Some (Head scope facts)) place = Unit {0}
Tells (Some (Event event)) place = Unit {0}
Tells (Some Whole) place = Unit {0}
Tells (Some (Bad status)) place = (why : Refusal) × (place ≡ Stopped why) × (status ≡ status_of why)

told : (turn t : Judged) → turn ≡ t → Tells t.item t.place → Tells turn.item turn.place
told turn t e f = let P : Judged → Type 0 = λ x. Tells x.item x.place in subst P (sym e) f

bad_tells : (why : Refusal) → Tells (bad why).item (bad why).place
bad_tells why = (why, refl, refl)

framing_tells : (r : HeadRecord) (f : Result Framing Refusal) → Tells (after_framing r f).item (after_framing r f).place
framing_tells r (Ok framing) = tt
framing_tells r (Err why) = bad_tells why

head_tells : (limits : Limits) (r : Option HeadRecord) → Tells (after_head limits r).item (after_head limits r).place
head_tells limits None = bad_tells BadRequest
head_tells limits (Some r) = framing_tells r (request_framing r limits)

counted_tells : (b : Bool) (x : List ℕ) (p q : Place) (m n : Bool)
    → let t = if b then gives (Event (HttpRequest x m)) p else gives (Event (HttpRequest x n)) q in Tells t.item t.place
counted_tells true x p q m n = tt
counted_tells false x p q m n = tt

pair_tells : (b : Bool) (sum : ℕ) → let t = if b then silent (SizeLine sum) else bad BadRequest in Tells t.item t.place
pair_tells true sum = tt
pair_tells false sum = bad_tells BadRequest

size_tells : (a b : Bool) (n total : ℕ) → let t = if a then bad ContentTooLarge else (if b then silent Trailers else silent (Chunk n total)) in Tells t.item t.place
size_tells true b n total = bad_tells ContentTooLarge
size_tells false true n total = tt
size_tells false false n total = tt

sizes_tell : (max_body sum : ℕ) (n : Option ℕ) → Tells (after_size max_body sum n).item (after_size max_body sum n).place
sizes_tell max_body sum None = bad_tells BadRequest
sizes_tell max_body sum (Some n) = size_tells (nat_lt max_body (sum + n)) (n == 0) n (sum + n)

trailers_tell : (ok : Bool) → Tells (after_trailers ok).item (after_trailers ok).place
trailers_tell true = tt
trailers_tell false = bad_tells BadRequest

long_tells : (place : Place) → Tells (after_too_long place).item (after_too_long place).place
long_tells Start = bad_tells HeaderFieldsTooLarge
long_tells (Counted n) = bad_tells BadRequest
long_tells (SizeLine sum) = bad_tells BadRequest
long_tells (Chunk left sum) = bad_tells BadRequest
long_tells (ChunkEnd sum) = bad_tells BadRequest
long_tells Trailers = bad_tells BadRequest
long_tells BodyEnd = bad_tells BadRequest
long_tells HandshakeEnd = bad_tells BadRequest
long_tells Upgraded = bad_tells BadRequest
long_tells (Stopped refusal) = bad_tells BadRequest

text_tells : (limits : Limits) (place : Place) (text : List ℕ) (turn : Judged) → JudgesText limits place text turn → Tells turn.item turn.place
text_tells limits Start text turn j = told turn (after_head limits j.0) j.2 (head_tells limits j.0)
text_tells limits (Counted n) text turn j = told turn (after_counted n text) j (counted_tells (nat_lt (length text) n) text (Counted (n - length text)) BodyEnd true false)
text_tells limits (SizeLine sum) text turn j = told turn (after_size limits.max_body sum j.0) j.2 (sizes_tell limits.max_body sum j.0)
text_tells limits (Chunk left sum) text turn j =
    told turn (after_chunk left sum text) j (counted_tells (nat_lt (length text) left) text (Chunk (left - length text) sum) (ChunkEnd sum) true true)
text_tells limits (ChunkEnd sum) text turn j = told turn (after_chunk_end sum text) j (pair_tells (bytes_eq text crlf_bytes) sum)
text_tells limits Trailers text turn j = told turn (after_trailers j.0) j.2 (trailers_tell j.0)
text_tells limits BodyEnd text turn j = told turn (gives Whole Start) j tt
text_tells limits HandshakeEnd text turn j = told turn (gives Whole Upgraded) j tt
text_tells limits Upgraded text turn j = absurd j
text_tells limits (Stopped refusal) text turn j = absurd j

turn_tells : (limits : Limits) (place : Place) (f : Front) (turn : Judged) → Judges limits place f turn → Tells turn.item turn.place
turn_tells limits place (found text) turn j = text_tells limits place text turn j
turn_tells limits place too_long turn j = told turn (after_too_long place) j (long_tells place)
turn_tells limits place unfinished turn j = absurd j

of_tells : (new : Reading) (item : Option Next) → Tells item new.place → IsResult new item
of_tells new None t = tt
of_tells new (Some Need) t = t
of_tells new (Some (Head scope facts)) t = tt
of_tells new (Some (Event event)) t = tt
of_tells new (Some Whole) t = tt
of_tells new (Some (Bad status)) t = t

pub stepped_result : (old new : Reading) (item : Option Next) → Stepped old new item → IsResult new item
stepped_result old new item step =
    of_tells new item (turn_tells old.limits old.place (front old.limits old.place old.held) (record { item = item; place = new.place }) step.takes.judged)

-- ---- answers from results

pub answers_need : (old new : Reading) (next : Next) → IsResult new (Some next) → next ≡ Need → ⊥
answers_need old new Need r e = r
answers_need old new (Head scope facts) r e = cc
answers_need old new (Event event) r e = cc
answers_need old new Whole r e = cc
answers_need old new (Bad status) r e = cc

pub answers_bad : (new : Reading) (next : Next) (status : ℕ) → IsResult new (Some next) → next ≡ Bad status → IsRefused new status
answers_bad new next status r e = let P : Next → Type 0 = λ n. IsResult new (Some n) in subst P e r

-- two refusals of one place are one
pub same_refusal : (place : Place) (a b : Refusal) → place ≡ Stopped a → place ≡ Stopped b → status_of a ≡ status_of b
same_refusal place a b e f = let x : Stopped a ≡ Stopped b = sym e ∙ f in let y : a ≡ b = cc in ap status_of y

pub refused_place : (place : Place) (why : Refusal) → Some why ≡ refusal_at place → place ≡ Stopped why
refused_place Start why e = cc
refused_place (Counted n) why e = cc
refused_place (SizeLine sum) why e = cc
refused_place (Chunk left sum) why e = cc
refused_place (ChunkEnd sum) why e = cc
refused_place Trailers why e = cc
refused_place BodyEnd why e = cc
refused_place HandshakeEnd why e = cc
refused_place Upgraded why e = cc
refused_place (Stopped refusal) why e = cc

-- ---- when a call may fail

pub when_ok : {A E : Type 0} (P Q : A → Type 0) (r : Result A E) → ((a : A) → P a → Q a) → IfOk r P → IfOk r Q
when_ok P Q (Ok a) f p = f a p
when_ok P Q (Err e) f p = tt

pub when_err : {A E : Type 0} (P Q : Type 0) (r : Result A E) → (P → Q) → OnErr r P → OnErr r Q
when_err P Q (Ok a) f p = tt
when_err P Q (Err e) f p = f p

pub both_ways : {A E : Type 0} (P : A → Type 0) (Q R : Type 0) (r : Result A E) → ((a : A) → P a → R) → (Q → R) → IfOk r P → OnErr r Q → R
both_ways P Q R (Ok a) f g p q = f a p
both_ways P Q R (Err e) f g p q = g q
