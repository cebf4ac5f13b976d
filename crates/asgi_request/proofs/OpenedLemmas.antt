-- What a reader's results show of the bytes, at a head and after it.
use Rattle.std.proofs.Common.{◌≡◌, ◌≢◌, ℕ, ◌+◌, ◌-◌, length, Bool, true, false, List, [], ◌∷◌, ◌++◌, ◌⊎◌, inl, inr, append-nil, flat_map, map, refl, sym, ap, ◌∙◌, subst, Option, Some, None}
use Rattle.std.specs.Prelude.{◌==◌, nat_lt, bytes_eq, if◌then◌else◌}
use Rattle.httparse.specs.Ascii.{crlf_bytes}
use Rattle.asgi_types.specs.declared.facts.Facts.{Facts}
use Rattle.asgi_types.specs.declared.facts.Framing.{Framing}
use Rattle.asgi_types.specs.declared.facts.Framing.TheVariants.{Length, Chunked, Upgrade}
use Rattle.asgi_request.specs.declared.head.HeadRecord.{HeadRecord}
use Rattle.asgi_request.specs.Head.{record_of}
use Rattle.asgi_request.specs.Scopes.{scope_of, http_scope_of}
use Rattle.asgi_types.specs.declared.incoming.Incoming.{Incoming}
use Rattle.asgi_types.specs.declared.incoming.Incoming.TheVariants.{HttpRequest}
use Rattle.asgi_types.specs.declared.limits.Limits.{Limits}
use Rattle.asgi_types.specs.declared.scope.Scope.{Scope}
use Rattle.asgi_request.specs.declared.next.Next.{Next}
use Rattle.asgi_request.specs.declared.next.Next.TheVariants.{Need, Head, Event, Whole, Bad}
use Rattle.asgi_request.specs.Places.{Judged}
use Rattle.asgi_request.specs.declared.place.Place.{Place}
use Rattle.asgi_request.specs.declared.place.Place.TheVariants.{Start, Counted, SizeLine, Chunk, ChunkEnd, Trailers, BodyEnd, HandshakeEnd, Upgraded, Stopped}
use Rattle.asgi_request.specs.declared.refusal.Refusal.TheVariants.{BadRequest, ContentTooLarge}
use Rattle.asgi_request.specs.ChunkedBody.{complete}
use Rattle.asgi_request.specs.Fronts.{Front, found, too_long, unfinished}
use Rattle.asgi_request.specs.Opened.{BeginsWith, HasClosed, HasOpened}
use Rattle.asgi_request.specs.Places.{front, bad, gives, silent, after_counted, after_size, after_chunk, after_chunk_end, after_trailers, after_too_long, Judges, Takes, Reads, shown, Reaches}
use Rattle.asgi_request.specs.RequestEvents.{ReadsBody}
use Rattle.asgi_request.proofs.DueLemmas.{OpensAt, ClosesAt, runs_compare, same_after, whole_goes_on}
use Rattle.asgi_request.proofs.NextLemmas.{begins_with, turn_tells, some_item, next_head}
use Rattle.asgi_request.specs.Reading.{Reading, WholeGiven}
use Rattle.asgi_request.specs.Results.{ReadsHandshake, AreRequests}
use Rattle.asgi_request.proofs.BackwardLemmas.{goes_on}
use Rattle.asgi_request.proofs.ResultsLemmas.{requests_go, handshake_goes}
use Rattle.asgi_request.proofs.StandardLemmas.{whole_requests}
use Rattle.asgi_request.proofs.BodyGrowthLemmas.{Further}
use Rattle.asgi_request.proofs.UniqueLemmas.{shown-append}
use Rattle.asgi_request.proofs.StartLemmas.{begins_is_one, begins_grows, closed_grows, head_reached}

-- ---- the words of the laws, and where the reader stands

pub closed_at : (limits : Limits) (bytes : List ℕ) (closed : List Next) (after : List ℕ) → HasClosed limits bytes closed after → ClosesAt limits bytes closed after
closed_at limits bytes closed after x =
    let go = requests_go limits limits.block_in_range.0 bytes x.0 after x.1 in
    record { steps = go.steps; reads = go.reads; shows = go.shows ∙ sym x.2 }

pub has_closed : (limits : Limits) (bytes : List ℕ) (closed : List Next) (after : List ℕ) → ClosesAt limits bytes closed after → HasClosed limits bytes closed after
has_closed limits bytes closed after x = whole_requests limits limits.block_in_range.0 bytes closed after x

pub opened_at : (limits : Limits) (bytes : List ℕ) (opened : List Next) (framing : Framing) (arrived : List ℕ) → HasOpened limits bytes opened framing arrived
    → OpensAt limits bytes opened framing arrived
opened_at limits bytes opened framing arrived x =
    let reached = head_reached limits bytes x.closed x.after x.scope x.facts arrived (closed_at limits bytes x.closed x.after x.before) x.head in
    let R : List Next → Type 0 = λ l. OpensAt limits bytes l framing arrived in
    let F : Framing → Type 0 = λ f. OpensAt limits bytes (x.closed ++ Head x.scope x.facts ∷ []) f arrived in
    subst R (sym x.opened_is) (subst F (sym x.framing_is) reached)

-- a head with a body after it is no opening handshake
pub opened_plain : (limits : Limits) (bytes : List ℕ) (opened : List Next) (framing : Framing) (arrived : List ℕ) → HasOpened limits bytes opened framing arrived
    → framing ≢ Upgrade
opened_plain limits bytes opened framing arrived x = λ e. x.head.plain (sym x.framing_is ∙ e)

plain_scope : (head : HeadRecord) (framing : Framing) → framing ≢ Upgrade → scope_of head framing ≡ http_scope_of head
plain_scope head (Length n) plain = refl
plain_scope head Chunked plain = refl
plain_scope head Upgrade plain = absurd (plain refl)

-- its scope is one of HTTP
pub http_scope : (limits : Limits) (bytes : List ℕ) (scope : Scope) (facts : Facts) (arrived : List ℕ) (b : BeginsWith limits bytes scope facts arrived)
    → scope ≡ http_scope_of (record_of b.head)
http_scope limits bytes scope facts arrived b = b.scope_is ∙ plain_scope (record_of b.head) facts.framing b.plain

-- after whole requests a head
pub opens_after : (limits : Limits) (bytes : List ℕ) (closed : List Next) (after : List ℕ) (scope : Scope) (facts : Facts) (arrived : List ℕ)
    → HasClosed limits bytes closed after → BeginsWith limits after scope facts arrived
    → HasOpened limits bytes (closed ++ Head scope facts ∷ []) facts.framing arrived
opens_after limits bytes closed after scope facts arrived x b =
    record { closed = closed; after = after; scope = scope; facts = facts; before = x; head = b; framing_is = refl; opened_is = refl }

-- ---- a head is given when one is due

abbrev NoHead : Option Next → Type 0
NoHead None = Unit {0}
NoHead (Some Need) = Unit {0}
NoHead (Some (Head scope facts)) = ⊥
NoHead (Some (Event event)) = Unit {0}
NoHead (Some Whole) = Unit {0}
NoHead (Some (Bad status)) = Unit {0}

told : (turn t : Judged) → turn ≡ t → NoHead t.item → NoHead turn.item
told turn t e f = let P : Judged → Type 0 = λ x. NoHead x.item in subst P (sym e) f

block_tells : (b : Bool) (x : List ℕ) (p q : Place) (m n : Bool)
    → let t = if b then gives (Event (HttpRequest x m)) p else gives (Event (HttpRequest x n)) q in NoHead t.item
block_tells true x p q m n = tt
block_tells false x p q m n = tt

pair_tells : (b : Bool) (sum : ℕ) → let t = if b then silent (SizeLine sum) else bad BadRequest in NoHead t.item
pair_tells true sum = tt
pair_tells false sum = tt

size_tells : (a b : Bool) (n total : ℕ) → let t = if a then bad ContentTooLarge else (if b then silent Trailers else silent (Chunk n total)) in NoHead t.item
size_tells true b n total = tt
size_tells false true n total = tt
size_tells false false n total = tt

sizes_tell : (max_body sum : ℕ) (n : Option ℕ) → NoHead (after_size max_body sum n).item
sizes_tell max_body sum None = tt
sizes_tell max_body sum (Some n) = size_tells (nat_lt max_body (sum + n)) (n == 0) n (sum + n)

trailers_tell : (ok : Bool) → NoHead (after_trailers ok).item
trailers_tell true = tt
trailers_tell false = tt

long_tells : (place : Place) → NoHead (after_too_long place).item
long_tells Start = tt
long_tells (Counted n) = tt
long_tells (SizeLine sum) = tt
long_tells (Chunk left sum) = tt
long_tells (ChunkEnd sum) = tt
long_tells Trailers = tt
long_tells BodyEnd = tt
long_tells HandshakeEnd = tt
long_tells Upgraded = tt
long_tells (Stopped refusal) = tt

never : (place : Place) (item : Option Next) (scope : Scope) (facts : Facts) → item ≡ Some (Head scope facts) → NoHead item → place ≡ Start
never place item scope facts e n = absurd (subst NoHead e n)

head_at_start : (limits : Limits) (place : Place) (f : Front) (turn : Judged) (scope : Scope) (facts : Facts) → Judges limits place f turn
    → turn.item ≡ Some (Head scope facts) → place ≡ Start
head_at_start limits Start f turn scope facts j e = refl
head_at_start limits place unfinished turn scope facts j e = absurd j
head_at_start limits place too_long turn scope facts j e = never place turn.item scope facts e (told turn (after_too_long place) j (long_tells place))
head_at_start limits (Counted n) (found text) turn scope facts j e =
    never (Counted n) turn.item scope facts e (told turn (after_counted n text) j (block_tells (nat_lt (length text) n) text (Counted (n - length text)) BodyEnd true false))
head_at_start limits (SizeLine sum) (found text) turn scope facts j e =
    never (SizeLine sum) turn.item scope facts e (told turn (after_size limits.max_body sum j.0) j.2 (sizes_tell limits.max_body sum j.0))
head_at_start limits (Chunk left sum) (found text) turn scope facts j e =
    never (Chunk left sum) turn.item scope facts e
    (told turn (after_chunk left sum text) j (block_tells (nat_lt (length text) left) text (Chunk (left - length text) sum) (ChunkEnd sum) true true))
head_at_start limits (ChunkEnd sum) (found text) turn scope facts j e =
    never (ChunkEnd sum) turn.item scope facts e (told turn (after_chunk_end sum text) j (pair_tells (bytes_eq text crlf_bytes) sum))
head_at_start limits Trailers (found text) turn scope facts j e = never Trailers turn.item scope facts e (told turn (after_trailers j.0) j.2 (trailers_tell j.0))
head_at_start limits BodyEnd (found text) turn scope facts j e = never BodyEnd turn.item scope facts e (told turn (gives Whole Start) j tt)
head_at_start limits HandshakeEnd (found text) turn scope facts j e = never HandshakeEnd turn.item scope facts e (told turn (gives Whole Upgraded) j tt)
head_at_start limits Upgraded (found text) turn scope facts j e = absurd j
head_at_start limits (Stopped refusal) (found text) turn scope facts j e = absurd j

-- the run up to a head, and the turn that gives it
record ToHead (limits : Limits) (place : Place) (bytes : List ℕ) (before : List Next) (scope : Scope) (facts : Facts) : Type 0 where
  pub after : List ℕ
  pub steps : List (Option Next)
  pub reads : Reads limits place bytes steps Start after
  pub shows : shown steps ≡ before
  pub mid : Place
  pub arrived : List ℕ
  pub turn : Takes limits Start after (record { item = Some (Head scope facts); place = mid }) arrived

run_to_head : (limits : Limits) (place : Place) (bytes : List ℕ) (steps : List (Option Next)) (end : Place) (rest : List ℕ) (before : List Next) (scope : Scope) (facts : Facts) (more : List Next)
    → Reads limits place bytes steps end rest → shown steps ≡ before ++ Head scope facts ∷ more → ToHead limits place bytes before scope facts
run_to_head limits place bytes [] end rest [] scope facts more r e = cc
run_to_head limits place bytes [] end rest (b ∷ before) scope facts more r e = cc
run_to_head limits place bytes (None ∷ steps) end rest before scope facts more r e =
    let o = run_to_head limits r.0 r.1 steps end rest before scope facts more r.3 e in
    record { after = o.after; steps = None ∷ o.steps; reads = (r.0, r.1, r.2, o.reads); shows = o.shows; mid = o.mid; arrived = o.arrived; turn = o.turn }
run_to_head limits place bytes (Some item ∷ steps) end rest (b ∷ before) scope facts more r e =
    let o = run_to_head limits r.0 r.1 steps end rest before scope facts more r.3 (cc e) in
    let first : item ≡ b = cc e in
    record {
      after = o.after;
      steps = Some item ∷ o.steps;
      reads = (r.0, r.1, r.2, o.reads);
      shows = ap (λ (l : List Next). item ∷ l) o.shows ∙ ap (λ (i : Next). i ∷ before) first;
      mid = o.mid;
      arrived = o.arrived;
      turn = o.turn;
    }
run_to_head limits place bytes (Some item ∷ steps) end rest [] scope facts more r e =
    let first : item ≡ Head scope facts = cc e in
    let start = head_at_start limits place (front limits place bytes) (record { item = Some item; place = r.0 }) scope facts r.2.judged (ap (λ (i : Next). Some i) first) in
    let P : Place → Type 0 = λ p. Takes limits p bytes (record { item = Some item; place = r.0 }) r.1 in
    let Q : Next → Type 0 = λ i. Takes limits Start bytes (record { item = Some i; place = r.0 }) r.1 in
    record { after = bytes; steps = []; reads = (start, refl); shows = refl; mid = r.0; arrived = r.1; turn = subst Q first (subst P start r.2) }

pub head_opens : (limits : Limits) (bytes : List ℕ) (place : Place) (held : List ℕ) (before : List Next) (scope : Scope) (facts : Facts) (more : List Next)
    → Reaches limits bytes (before ++ Head scope facts ∷ more) place held → facts.framing ≢ Upgrade
    → (arrived : List ℕ) × HasOpened limits bytes (before ++ Head scope facts ∷ []) facts.framing arrived
head_opens limits bytes place held before scope facts more x plain =
    let o = run_to_head limits Start bytes x.steps place held before scope facts more x.reads x.shows in
    let told = turn_tells limits o.after o.arrived (record { item = Some (Head scope facts); place = o.mid }) o.turn scope facts refl in
    let closed = has_closed limits bytes before o.after (record { steps = o.steps; reads = o.reads; shows = o.shows }) in
    (o.arrived, opens_after limits bytes before o.after scope facts o.arrived closed (begins_with limits o.after scope facts o.arrived told.0 plain))

-- ---- more bytes, the end of a body and the next head

pub closed_stays : (limits : Limits) (bytes more : List ℕ) (closed : List Next) (after : List ℕ)
    → HasClosed limits bytes closed after → HasClosed limits (bytes ++ more) closed (after ++ more)
closed_stays limits bytes more closed after x =
    has_closed limits (bytes ++ more) closed (after ++ more) (closed_grows limits bytes more closed after (closed_at limits bytes closed after x))

pub opened_stays : (limits : Limits) (bytes more : List ℕ) (opened : List Next) (framing : Framing) (arrived : List ℕ)
    → HasOpened limits bytes opened framing arrived → HasOpened limits (bytes ++ more) opened framing (arrived ++ more)
opened_stays limits bytes more opened framing arrived x = record {
  closed = x.closed;
  after = x.after ++ more;
  scope = x.scope;
  facts = x.facts;
  before = closed_stays limits bytes more x.closed x.after x.before;
  head = begins_grows limits x.after more x.scope x.facts arrived x.head;
  framing_is = x.framing_is;
  opened_is = x.opened_is;
}

pub whole_closes : (limits : Limits) (bytes : List ℕ) (opened : List Next) (framing : Framing) (arrived : List ℕ) (events : List Incoming) (after : List ℕ)
    → HasOpened limits bytes opened framing arrived → ReadsBody limits framing arrived events (complete after)
    → HasClosed limits bytes (opened ++ (map Event events ++ Whole ∷ [])) after
whole_closes limits bytes opened framing arrived events after x body =
    has_closed limits bytes (opened ++ (map Event events ++ Whole ∷ [])) after
    (whole_goes_on limits bytes opened framing arrived events after (opened_at limits bytes opened framing arrived x) (opened_plain limits bytes opened framing arrived x) body)

pub next_opens : (limits : Limits) (bytes : List ℕ) (closed : List Next) (after : List ℕ) (place : Place) (held : List ℕ) (scope : Scope) (facts : Facts) (more : List Next)
    → HasClosed limits bytes closed after → Reaches limits bytes (closed ++ Head scope facts ∷ more) place held → facts.framing ≢ Upgrade
    → (arrived : List ℕ) × BeginsWith limits after scope facts arrived × HasOpened limits bytes (closed ++ Head scope facts ∷ []) facts.framing arrived
next_opens limits bytes closed after place held scope facts more x r plain =
    let n = next_head limits bytes closed after place held scope facts more (closed_at limits bytes closed after x) r in
    let begins = begins_with limits after scope facts n.0 n.1 plain in
    (n.0, begins, opens_after limits bytes closed after scope facts n.0 x begins)

-- ---- what stands after is unique

silent_stays : (limits : Limits) (bytes : List ℕ) (items : List (Option Next)) (rest : List ℕ) → Reads limits Start bytes items Start rest → [] ≡ shown items → bytes ≡ rest
silent_stays limits bytes [] rest r e = r.1
silent_stays limits bytes (None ∷ items) rest r e = absurd (some_item limits bytes r.1 r.0 r.2)
silent_stays limits bytes (Some item ∷ items) rest r e = cc

nothing_after : (a b : List Next) → a ≡ a ++ b → [] ≡ b
nothing_after a b e = same_after a [] b (append-nil a ∙ e)

pub closed_is_one : (limits : Limits) (bytes : List ℕ) (closed : List Next) (after others : List ℕ)
    → HasClosed limits bytes closed after → HasClosed limits bytes closed others → after ≡ others
closed_is_one limits bytes closed after others x y = by (runs_compare limits Start bytes a.steps Start after b.steps Start others a.reads b.reads)
  where
    a : ClosesAt limits bytes closed after
    a = closed_at limits bytes closed after x

    b : ClosesAt limits bytes closed others
    b = closed_at limits bytes closed others y

    by : Further limits a.steps Start after b.steps Start others ⊎ Further limits b.steps Start others a.steps Start after → after ≡ others
    by (inl f) =
        silent_stays limits after f.items_after others f.reads
        (nothing_after closed (shown f.items_after)
        (sym b.shows ∙ ap shown f.splits ∙ shown-append a.steps f.items_after ∙ ap (λ (l : List Next). l ++ shown f.items_after) a.shows))
    by (inr f) =
        sym (silent_stays limits others f.items_after after f.reads
        (nothing_after closed (shown f.items_after)
        (sym a.shows ∙ ap shown f.splits ∙ shown-append b.steps f.items_after ∙ ap (λ (l : List Next). l ++ shown f.items_after) b.shows)))

-- ---- after whole requests no frames stand

silent_here : (limits : Limits) (bytes : List ℕ) (items : List (Option Next)) (end : Place) (rest : List ℕ) → Reads limits Start bytes items end rest → [] ≡ shown items → Start ≡ end
silent_here limits bytes [] end rest r e = r.0
silent_here limits bytes (None ∷ items) end rest r e = absurd (some_item limits bytes r.1 r.0 r.2)
silent_here limits bytes (Some item ∷ items) end rest r e = cc

no_turn : (limits : Limits) (bytes rest : List ℕ) (turn : Judged) → Takes limits Upgraded bytes turn rest → ⊥
no_turn limits bytes rest turn t = t.judged

up_here : (limits : Limits) (bytes : List ℕ) (items : List (Option Next)) (end : Place) (rest : List ℕ) → Reads limits Upgraded bytes items end rest → Upgraded ≡ end
up_here limits bytes [] end rest r = r.0
up_here limits bytes (item ∷ items) end rest r = absurd (no_turn limits bytes r.1 (record { item = item; place = r.0 }) r.2)

pub closed_not_upgraded : (limits : Limits) (bytes : List ℕ) (given : List Next) (after held : List ℕ) → HasClosed limits bytes given after → Reaches limits bytes given Upgraded held → ⊥
closed_not_upgraded limits bytes given after held x r = by (runs_compare limits Start bytes c.steps Start after r.steps Upgraded held c.reads r.reads)
  where
    c : ClosesAt limits bytes given after
    c = closed_at limits bytes given after x

    by : Further limits c.steps Start after r.steps Upgraded held ⊎ Further limits r.steps Upgraded held c.steps Start after → ⊥
    by (inl f) =
        let silent = nothing_after given (shown f.items_after)
        (sym r.shows ∙ ap shown f.splits ∙ shown-append c.steps f.items_after ∙ ap (λ (l : List Next). l ++ shown f.items_after) c.shows) in
        let never : Start ≡ Upgraded = silent_here limits after f.items_after Upgraded held f.reads silent in
        cc
    by (inr f) = let never : Upgraded ≡ Start = up_here limits held f.items_after Start after f.reads in cc

-- the bytes after them, in the words of a reader
pub whole_is_closed : (r : Reading) (bytes : List ℕ) (given : List Next) (after held : List ℕ) → HasClosed r.limits bytes given after → WholeGiven r bytes given held
    → HasClosed r.limits bytes given held
whole_is_closed r bytes given after held x w = by w.goes_on
  where
    requests : List Next
    requests = flat_map (λ request. request) w.requests

    by : ((w.last ≡ []) × (w.after ≡ held)) ⊎ ReadsHandshake r.limits w.after w.last held → HasClosed r.limits bytes given held
    by (inl e) = (
      w.requests,
      subst (λ (l : List ℕ). AreRequests r.limits bytes w.requests l) e.1 w.whole,
      w.given_are ∙ ap (λ (l : List Next). requests ++ l) e.0 ∙ append-nil requests,
    )
    by (inr h) = absurd (
        let up = goes_on r.limits Start bytes requests Start w.after w.last Upgraded held
        (requests_go r.limits r.limits.block_in_range.0 bytes w.requests w.after w.whole) (handshake_goes r.limits w.after w.last held h) in
        closed_not_upgraded r.limits bytes given after held x (record { steps = up.steps; reads = up.reads; shows = up.shows ∙ sym w.given_are }))

last_same : (a b : List Next) (x y : Next) → a ++ x ∷ [] ≡ b ++ y ∷ [] → a ≡ b
last_same [] [] x y e = refl
last_same [] (q ∷ []) x y e = cc
last_same [] (q ∷ r ∷ b) x y e = cc
last_same (p ∷ []) [] x y e = cc
last_same (p ∷ r ∷ a) [] x y e = cc
last_same (p ∷ a) (q ∷ b) x y e =
    let first : p ≡ q = cc in
    let on = last_same a b x y cc in
    cc

pub opened_is_one : (limits : Limits) (bytes : List ℕ) (opened : List Next) (framing other : Framing) (arrived left : List ℕ)
    → HasOpened limits bytes opened framing arrived → HasOpened limits bytes opened other left → (framing ≡ other) × (arrived ≡ left)
opened_is_one limits bytes opened framing other arrived left x y =
    let closeds = last_same x.closed y.closed (Head x.scope x.facts) (Head y.scope y.facts) (sym x.opened_is ∙ y.opened_is) in
    let closed = subst (λ (l : List Next). HasClosed limits bytes l y.after) (sym closeds) y.before in
    let afters = closed_is_one limits bytes x.closed x.after y.after x.before closed in
    let head = subst (λ (l : List ℕ). BeginsWith limits l y.scope y.facts left) (sym afters) y.head in
    let one = begins_is_one limits x.after x.scope y.scope x.facts y.facts arrived left x.head head in
    (x.framing_is ∙ ap (λ (f : Facts). f.framing) one.1 ∙ sym y.framing_is, one.2)
