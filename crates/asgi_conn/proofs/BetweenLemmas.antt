-- Between two requests: the next result is a head or a refusal, more is read, and the connection ends.
use Rattle.asgi_conn.proofs.ConnWords.{flat_map, take, ◌<◌, ◌≤◌, ◌≡◌, ℕ, true, List, [], ◌∷◌, ◌++◌, ◌⊎◌, inl, inr, map, refl, sym, ap, ◌∙◌, append-nil, append_assoc, subst, Option, length, Facts}
use Rattle.asgi_conn.proofs.ConnWords.{Upgrade, Scope, Limits, Next, Head, Bad, record_of, BeginsWithHandshake, HasClosed, Reaches, Reading, StandsFor, AllGiven, IsRefused, scope_of, RefusesWith}
use Rattle.asgi_conn.proofs.ConnWords.{Finished, Refused, InputBroke, Idle, NoMemory, class_of, requests_of, ExchangeRecord, Between, has_ended, Wire, ReadsAhead, LineState, Transferred, piece_size}
use Rattle.asgi_conn.proofs.ConnWords.{BetweenRequests, EndsSo}
use Rattle.asgi_request.specs.{Results.Opens, Results.AreRequests, Results.GivesResults, declared.next.Next.TheVariants.Event, declared.next.Next.TheVariants.Whole, declared.place.Place.Place}
use Rattle.asgi_request.specs.{declared.place.Place.TheVariants.Start, declared.place.Place.TheVariants.Stopped, Places.Reads, Places.shown}
use Rattle.asgi_request.specs.{Reading.EndsWhole, Reading.WholeGiven, Scopes.facts_of}
use Rattle.std.specs.Io.KnownBytes.{Appends}
use Rattle.asgi_io.specs.{Counting.RoseBy, Writing.TriesWrites}
use Rattle.asgi_request.proofs.BodyGrowthLemmas.{Further}
use Rattle.asgi_request.proofs.DueLemmas.{ClosesAt, runs_compare, same_after}
use Rattle.asgi_request.proofs.FirstLemmas.{first_of}
use Rattle.asgi_request.proofs.HeldLemmas.{between}
use Rattle.asgi_request.proofs.NextLemmas.{begins_with_handshake, next_head}
use Rattle.asgi_request.proofs.OpenedLemmas.{closed_at, closed_is_one, closed_not_upgraded, whole_is_closed}
use Rattle.asgi_conversation.specs.{declared.input.InputEnd.TheVariants.AtEnd, declared.input.InputEnd.TheVariants.Failed, declared.report.Outcome.TheVariants.WriteFailed, After.IsBlank}
use Rattle.asgi_request.proofs.OpeningLemmas.{first_opens}
use Rattle.asgi_request.proofs.UniqueLemmas.{shown-append}
use Rattle.asgi_response.specs.Exchange.{refusal_text}
use Rattle.asgi_conn.proofs.LeaveLemmas.{http_ends}
use Rattle.asgi_run.proofs.LineLemmas.{moved_by_write, tries_front}
use Rattle.asgi_halves.proofs.ReadAheadLemmas.{reads_at_need}
use Rattle.asgi_io.specs.declared.write.Wrote.TheVariants as wrote
use Rattle.asgi_conversation.proofs.LoopLemmas as loop

-- ---- what the reader gives there

all_whole : (limits : Limits) (bytes : List ℕ) (requests : List (List Next)) (rest : List ℕ) → AreRequests limits bytes requests rest → EndsWhole (flat_map (λ request. request) requests)
all_whole limits bytes [] rest are = inl refl
all_whole limits bytes (results ∷ requests) rest are = by (all_whole limits are.0 requests rest are.2)
  where
    later : List Next
    later = flat_map (λ request. request) requests

    by : EndsWhole later → EndsWhole (results ++ later)
    by (inl none) =
        let x = are.1 in
        inr (Head (scope_of (record_of x.head) x.framing) (facts_of (record_of x.head) x.framing) ∷ map Event x.events, ap (λ (l : List Next). results ++ l) none ∙ append-nil results ∙ x.results_are)
    by (inr some) = inr (results ++ some.0, ap (λ (l : List Next). results ++ l) some.1 ∙ sym (append_assoc results some.0 (Whole ∷ [])))

pub ends_whole : (limits : Limits) (bytes : List ℕ) (given : List Next) (after : List ℕ) → HasClosed limits bytes given after → EndsWhole given
ends_whole limits bytes given after x = subst EndsWhole (sym x.2) (all_whole limits bytes x.0 after x.1)

module _ (reader : Reading) (bytes : List ℕ) (given : List Next) (after : List ℕ) (x : HasClosed reader.limits bytes given after) (stands : StandsFor reader bytes given) where
  at_start : reader.place ≡ Start
  at_start =
      let here = between reader.limits bytes given reader.place reader.held stands (ends_whole reader.limits bytes given after x) in
      elim here [ inl start ↦ start | inr upgraded ↦ absurd (closed_not_upgraded reader.limits bytes given after reader.held x (rw upgraded at stands)) ]

  pub unrefused : (status : ℕ) → IsRefused reader status → ⊥
  unrefused status refused = let never : Start ≡ Stopped refused.0 = sym at_start ∙ refused.1 in cc

  -- the bytes that the reader holds come after the requests
  pub after_is : (held : List ℕ) → WholeGiven reader bytes given held → after ≡ held
  after_is held whole = closed_is_one reader.limits bytes given after held x (whole_is_closed reader bytes given after held x whole)

-- it is a head or a refusal
pub opens_next : (limits : Limits) (bytes : List ℕ) (closed : List Next) (after : List ℕ) (place : Place) (held : List ℕ) (item : Next)
    → HasClosed limits bytes closed after → Reaches limits bytes (closed ++ item ∷ []) place held → Opens item
opens_next limits bytes closed after place held item closes r = by (runs_compare limits Start bytes x.steps Start after r.steps place held x.reads r.reads)
  where
    x : ClosesAt limits bytes closed after
    x = closed_at limits bytes closed after closes

    on : (items : List (Option Next)) → Reads limits Start after items place held → item ∷ [] ≡ shown items → Opens item
    on items q e = first_opens limits after item [] (first_of limits after (item ∷ []) place held (record { steps = items; reads = q; shows = sym e }))

    by : Further limits x.steps Start after r.steps place held ⊎ Further limits r.steps place held x.steps Start after → Opens item
    by (inl f) =
        on f.items_after f.reads (same_after closed (item ∷ []) (shown f.items_after)
        (sym r.shows ∙ ap shown f.splits ∙ shown-append x.steps f.items_after ∙ ap (λ (l : List Next). l ++ shown f.items_after) x.shows))
    by (inr f) = absurd (
        let e : [] ≡ item ∷ ([] ++ shown f.items_after) =
        same_after closed [] (item ∷ ([] ++ shown f.items_after))
        (append-nil closed ∙ sym x.shows ∙ ap shown f.splits ∙ shown-append r.steps f.items_after ∙ ap (λ (l : List Next). l ++ shown f.items_after) r.shows
        ∙ append_assoc closed (item ∷ []) (shown f.items_after)) in cc)

-- ---- with what the connection keeps

module _ {limits : Limits} {start now : LineState} {wire : Wire} {read : List ℕ} {given : List Next} {exchanges : List ExchangeRecord} {after written : List ℕ}
    (x : BetweenRequests limits start now wire read given exchanges after written) where
  closes : HasClosed wire.requests.limits read given after
  closes = rw x.limits_are.1 x.between.closed

  pub no_refusal : (status : ℕ) → IsRefused wire.requests status → ⊥
  no_refusal = unrefused wire.requests read given after closes x.stands

  pub no_event : (reader : Reading) (item : Next) → reader.limits ≡ limits → StandsFor reader read (given ++ item ∷ []) → Opens item
  no_event reader item same stands = opens_next limits read given after reader.place reader.held item x.between.closed (rw same at stands)

  -- the bytes that the reader holds come after the requests
  pub held_is : (held : List ℕ) → (EndsWhole given → WholeGiven wire.requests read given held) → after ≡ held
  held_is held whole = after_is wire.requests read given after closes x.stands held (whole (ends_whole wire.requests.limits read given after closes))

  -- another reader that gave no more
  pub asked : (later : Reading) → later.limits ≡ limits → StandsFor later read given → BetweenRequests limits start now (record wire { requests = later }) read given exchanges after written
  asked later same stands = record { moved = x.moved; limits_are = (x.limits_are.0, same); between = x.between; stands = stands; empty = x.empty; heads = x.heads; ahead = x.ahead }

  -- ---- the end without a text

  results : AllGiven wire.requests read given → (rest : List ℕ) × GivesResults limits read given rest
  results all = rw x.limits_are.1 at all

  pub ends_idle : AllGiven wire.requests read given → EndsSo limits start now read exchanges written Idle
  ends_idle all =
      let g = results all in http_ends Idle x.moved (λ report o c. loop.idle limits wire.input read given exchanges after written report x.between c g.0 g.1 o) x.ahead

  pub ends_short : EndsSo limits start now read exchanges written NoMemory
  ends_short = http_ends NoMemory x.moved (λ report o c. loop.lacking limits wire.input read given exchanges after written report x.between c (ap class_of o)) x.ahead

  pub ends_finished : AllGiven wire.requests read given → wire.input ≡ AtEnd → IsBlank after → EndsSo limits start now read exchanges written Finished
  ends_finished all at blank =
      let g = results all in http_ends Finished x.moved (λ report o c. loop.finished limits wire.input read given exchanges after written report x.between c g.0 g.1 at blank o) x.ahead

  pub ends_broken : AllGiven wire.requests read given → (wire.input ≡ Failed) ⊎ ((wire.input ≡ AtEnd) × (IsBlank after → ⊥)) → EndsSo limits start now read exchanges written InputBroke
  ends_broken all why =
      let g = results all in http_ends InputBroke x.moved (λ report o c. loop.input_broke limits wire.input read given exchanges after written report x.between c g.0 g.1 why o) x.ahead

  -- ---- the end with the text of a refusal

  pub refused_due : (reader : Reading) (status : ℕ) → reader.limits ≡ limits → StandsFor reader read (given ++ Bad status ∷ []) → RefusesWith limits after status
  refused_due reader status same stands = loop.refusal_due limits wire.input read given exchanges after written reader.place reader.held status x.between (rw same at stands)

  -- an opening handshake that the reader gave
  pub handshake_here : (reader : Reading) (scope : Scope) (facts : Facts) → reader.limits ≡ limits → StandsFor reader read (given ++ Head scope facts ∷ []) → facts.framing ≡ Upgrade
      → (frames : List ℕ) × BeginsWithHandshake limits after scope facts frames
  handshake_here reader scope facts same stands e =
      let n = next_head limits read given after reader.place reader.held scope facts [] (closed_at limits read given after x.between.closed) (rw same at stands) in
      (n.0, begins_with_handshake limits after scope facts n.0 n.1 e)

  module _ (next : LineState) (status : ℕ) (due : RefusesWith limits after status) {text : List ℕ} (text_is : text ≡ refusal_text status)
      (left : next.left ≡ now.left) (reads : next.reads ≡ now.reads) (session : next.session ≡ now.session) where
    pub ends_refused : Appends now.written next.written text → RoseBy 0 now.failed next.failed → TriesWrites now.writes next.writes (length text) wrote.Done
        → (more : List ℕ) × EndsSo limits start next read exchanges (written ++ more) (Refused status)
    ends_refused appends rose tries =
        let moved = moved_by_write start now next wire.input read written text 0 x.moved left reads session appends rose tries in
        (text, http_ends (Refused status) moved (λ report o c. rw text_is (loop.refused limits wire.input read given exchanges after written report x.between c status due o)) x.ahead)

    pub ends_unwritten : (n : ℕ) → n < length text → Appends now.written next.written (take n text) → RoseBy 1 now.failed next.failed → TriesWrites now.writes next.writes n (wrote.Failed n)
        → (more : List ℕ) × EndsSo limits start next read exchanges (written ++ more) (WriteFailed n)
    ends_unwritten n within appends rose tries =
        let less = rw text_is at within in
        let moved = moved_by_write start now next wire.input read written (take n text) 1 x.moved left reads session appends rose (tries_front now.writes next.writes n text within tries) in
        let ended = http_ends (WriteFailed n) moved
        (λ report o c. rw text_is (loop.refusal_failed limits wire.input read given exchanges after written report x.between c status n due less o)) x.ahead in (take n text, ended)

  -- ---- more is read

  module _ (next : LineState) (later : Wire) (more : List ℕ) (moves : (start : LineState) (read written : List ℕ) (failures : ℕ) → Transferred start now wire.input read written failures
      → Transferred start next later.input (read ++ more) written failures)
      (on : has_ended wire.input ≡ true → has_ended later.input ≡ true) (all : AllGiven wire.requests read given) (short : length more ≤ piece_size) where
    moved : Transferred start next later.input (read ++ more) written 0
    moved = moves start read written 0 x.moved

    further : Between limits later.input (read ++ more) given exchanges (after ++ more) written
    further = loop.end_seen limits wire.input later.input (read ++ more) given exchanges (after ++ more) written on
        (loop.reads_more limits wire.input read more given exchanges after written x.between)

    ahead_of : ReadsAhead limits (read ++ more) (requests_of exchanges)
    ahead_of = let g = results all in reads_at_need limits read more given (requests_of exchanges) g.0 g.1 x.heads short

    pub rests_on : later ≡ record wire { requests = later.requests; input = later.input } → later.requests.limits ≡ wire.requests.limits
        → ((bytes : List ℕ) (given : List Next) → StandsFor wire.requests bytes given → StandsFor later.requests (bytes ++ more) given)
        → BetweenRequests limits start next later (read ++ more) given exchanges (after ++ more) written
    rests_on same reader fed =
        let first = ap (λ (w : Wire). w.limits) same ∙ x.limits_are.0 in
        let empty = ap (λ (w : Wire). w.out.items) same ∙ x.empty in
        record { moved = moved; limits_are = (first, reader ∙ x.limits_are.1); between = further; stands = fed read given x.stands; empty = empty; heads = x.heads; ahead = ahead_of }

    pub ends_fed_short : EndsSo limits start next (read ++ more) exchanges written NoMemory
    ends_fed_short =
        http_ends NoMemory moved (λ report o c. loop.lacking limits later.input (read ++ more) given exchanges (after ++ more) written report further c (ap class_of o)) ahead_of
