-- What is read ahead of the requests in hand is bounded, wherever more is read.
use Rattle.asgi_halves.proofs.HalfWords.{◌≡◌, ℕ, ◌<◌, ◌≤◌, true, List, [], ◌∷◌, ◌++◌, map, take, length, length-append, refl, sym, ap, ◌∙◌, subst, inr, append_assoc, append-nil, arith, Facts, Framing}
use Rattle.asgi_halves.proofs.HalfWords.{Incoming, Limits, Scope, Next, complete, HasOpened, Reading, body_is_read, prefix_trans, has_ended, InputEnd, BodyProgress, Scene, requests_in, HasGiven}
use Rattle.asgi_halves.proofs.HalfWords.{ReadsAt, HoldsFew, piece_size, ReadsAhead, ReadsBody}
use Rattle.asgi_conversation.proofs.{LoopLemmas.end_seen_within, LoopLemmas.within_reads_more, RequestLemmas.heads_join}
use Rattle.asgi_conversation.specs.{Exchanges.heads_of, SoFar.Within}
use Rattle.asgi_pipes.proofs.PrefixLemmas.{prefix_same}
use Rattle.asgi_halves.specs.{Half.WithinScene, ReadAhead.ahead_limit}
use Rattle.asgi_request.proofs.{FirstLemmas.none_gives, FirstLemmas.whole_alone, OpenedLemmas.closed_at, OpenedLemmas.whole_closes, OpenedLemmas.whole_is_closed, StandardLemmas.all_results}
use Rattle.asgi_request.specs.{Opened.HasClosed, Reading.EndsWhole, Reading.IsWaiting, Results.GivesResults}
use Rattle.std.proofs.lemmas.List.{length-take-le}
use Rattle.asgi_halves.proofs.HalfBodyLemmas.{whole_is}

-- ---- at the beginning, and before more requests

pub nothing_ahead : (limits : Limits) → ReadsAhead limits [] []
nothing_ahead limits =
    let none = none_gives limits in
    record { front = []; ahead = []; split = refl; few = omega arith; results = []; rest = none.0; gives = none.1; heads = ([], refl) }

pub more_requests : (limits : Limits) (read : List ℕ) (requests more : List (Scope × Facts)) → ReadsAhead limits read requests → ReadsAhead limits read (requests ++ more)
more_requests limits read requests more x =
    let heads = prefix_trans (heads_of x.results) requests (requests ++ more) x.heads (more, refl) in
    record { front = x.front; ahead = x.ahead; split = x.split; few = x.few; results = x.results; rest = x.rest; gives = x.gives; heads = heads }

-- ---- when more is read

-- one read gives a piece at most
pub short_piece : (buffer : List ℕ) (n : ℕ) → length buffer ≡ piece_size → n ≤ length buffer → length (take n buffer) ≤ piece_size
short_piece buffer n size fits = let taken = length-take-le n buffer fits in omega (arith, taken, size, fits)

-- all results of the bytes were given
pub reads_at_need : (limits : Limits) (read more : List ℕ) (given : List Next) (requests : List (Scope × Facts)) (rest : List ℕ) → GivesResults limits read given rest
    → heads_of given ≡ requests → length more ≤ piece_size → ReadsAhead limits (read ++ more) requests
reads_at_need limits read more given requests rest gives heads short =
    record { front = read; ahead = more; split = refl; few = omega (arith, short); results = given; rest = rest; gives = gives; heads = prefix_same (heads_of given) requests heads }

-- few bytes come after whole requests
pub reads_after : (limits : Limits) (read more : List ℕ) (given : List Next) (requests : List (Scope × Facts)) (held : List ℕ) → HasClosed limits read given held
    → heads_of given ≡ requests → length held < ahead_limit → length more ≤ piece_size → ReadsAhead limits (read ++ more) requests
reads_after limits read more given requests held closed heads few short =
    let alone = whole_alone limits read given held (closed_at limits read given held closed) in
    let size = length-append held more in
    let split = ap (λ (l : List ℕ). l ++ more) alone.1 ∙ append_assoc alone.0 held more in
    let same = prefix_same (heads_of given) requests heads in
    record { front = alone.0; ahead = held ++ more; split = split; few = omega (arith, few, short, size); results = given; rest = alone.2.0; gives = alone.2.1; heads = same }

-- ---- the events of a body are no heads

no_heads : (events : List Incoming) → heads_of (map Next.Event events) ≡ []
no_heads [] = refl
no_heads (event ∷ events) = no_heads events

pub heads_in_body : (opened : List Next) (events : List Incoming) → heads_of (opened ++ map Next.Event events) ≡ heads_of opened
heads_in_body opened events = heads_join opened (map Next.Event events) ∙ ap (λ (l : List (Scope × Facts)). heads_of opened ++ l) (no_heads events) ∙ append-nil (heads_of opened)

pub heads_after : (opened : List Next) (events : List Incoming) → heads_of (opened ++ (map Next.Event events ++ Next.Whole ∷ [])) ≡ heads_of opened
heads_after opened events =
    rw (← append_assoc opened (map Next.Event events) (Next.Whole ∷ []), heads_join (opened ++ map Next.Event events) (Next.Whole ∷ []), append-nil) (heads_in_body opened events)

-- one more
pub heads_more : (given : List Next) (scope : Scope) (facts : Facts) → heads_of (given ++ Next.Head scope facts ∷ []) ≡ heads_of given ++ (scope, facts) ∷ []
heads_more given scope facts = heads_join given (Next.Head scope facts ∷ [])

-- ---- in an exchange

pub within_of : (scene : Scene) (limits : Limits) (end : InputEnd) (read arrived : List ℕ) → WithinScene scene limits end read arrived
    → Within limits end read scene.opened scene.exchanges scene.before scene.scope scene.facts arrived
within_of scene limits end read arrived x = record { one = x.one; opens = x.opens }

-- more arrives
pub within_reads : (scene : Scene) (limits : Limits) (old new : InputEnd) (read more arrived : List ℕ) → WithinScene scene limits old read arrived
    → (has_ended old ≡ true → has_ended new ≡ true) → ReadsAhead limits (read ++ more) (requests_in scene) → WithinScene scene limits new (read ++ more) (arrived ++ more)
within_reads scene limits old new read more arrived x on ahead =
    let w = end_seen_within limits old new (read ++ more) scene.opened scene.exchanges scene.before scene.scope scene.facts (arrived ++ more) on
    (within_reads_more limits old read more scene.opened scene.exchanges scene.before scene.scope scene.facts arrived (within_of scene limits old read arrived x)) in
    record { one = w.one; opens = w.opens; heads = x.heads; ahead = ahead }

module _ (reader : Reading) (read more : List ℕ) (opened : List Next) (framing : Framing) (arrived : List ℕ) (x : HasOpened reader.limits read opened framing arrived)
    (events : List Incoming) (requests : List (Scope × Facts)) (heads : heads_of opened ≡ requests) (short : length more ≤ piece_size) where
  pub reads_in : (at : BodyProgress) → ReadsAt at → HasGiven reader read opened events at → (at ≡ BodyProgress.Open → IsWaiting reader) → (at ≡ BodyProgress.Whole → HoldsFew reader)
      → ReadsAhead reader.limits (read ++ more) requests
  reads_in BodyProgress.Open reads given asked few =
      let all = all_results reader.limits reader.limits.block_in_range.0 read (opened ++ map Next.Event events) reader.place reader.held given (asked refl) in
      reads_at_need reader.limits read more (opened ++ map Next.Event events) requests all.0 all.1 (heads_in_body opened events ∙ heads) short
  -- after a whole request another may follow
  reads_in BodyProgress.Whole reads given asked few =
      let all : List Next = opened ++ (map Next.Event events ++ Next.Whole ∷ []) in
      let ends : EndsWhole all = inr (opened ++ map Next.Event events, sym (append_assoc opened (map Next.Event events) (Next.Whole ∷ []))) in
      let held = few refl read all given ends in
      let known = whole_is reader read opened framing arrived x events given in
      let state = rw known.1.1 at (body_is_read reader.limits framing arrived) in
      let body = subst (λ (l : List Incoming). ReadsBody reader.limits framing arrived l (complete known.1.0)) (sym known.0) state in
      let closed = whole_closes reader.limits read opened framing arrived events known.1.0 x body in
      reads_after reader.limits read more all requests held.0 (whole_is_closed reader read all known.1.0 held.0 closed held.1) (heads_after opened events ∙ heads) held.2 short
  reads_in _ reads given asked few = absurd reads
