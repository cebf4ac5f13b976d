-- The results of a byte list are one list, and begin with those of each prefix of it.
use Rattle.std.proofs.Common.{◌≡◌, ◌≢◌, ℕ, ◌+◌, ◌<◌, ◌≤◌, inl, inr, Bool, true, false, List, [], ◌∷◌, ◌++◌, length, drop, map, refl, sym, ap, ◌∙◌, append_assoc, arith, subst, Some, None, flat_map, All}
use Rattle.std.specs.Prelude.{nat_le, if◌then◌else◌}
use Rattle.std.proofs.lemmas.List.{append-nil, map-append}
use Rattle.std.proofs.lemmas.List.Elements.{All-head, All-tail}
use Rattle.httparse.specs.Grammar.{RequestHead, chunk_size}
use Rattle.asgi_types.specs.declared.facts.Framing.{Framing}
use Rattle.asgi_types.specs.declared.facts.Framing.TheVariants.{Length, Chunked, Upgrade}
use Rattle.asgi_types.specs.declared.incoming.Incoming.{Incoming}
use Rattle.asgi_types.specs.declared.limits.Limits.{Limits}
use Rattle.asgi_request.specs.declared.next.Next.{Next}
use Rattle.asgi_request.specs.declared.next.Next.TheVariants.{Head, Event, Whole, Bad}
use Rattle.asgi_request.specs.declared.place.Place.{Place}
use Rattle.asgi_request.specs.declared.place.Place.TheVariants.{Start, Counted, SizeLine, BodyEnd, HandshakeEnd, Upgraded}
use Rattle.asgi_request.specs.declared.refusal.Refusal.{Refusal}
use Rattle.asgi_request.specs.declared.refusal.Refusal.TheVariants.{BadRequest, HeaderFieldsTooLarge}
use Rattle.asgi_request.specs.Refusals.{status_of}
use Rattle.asgi_request.specs.HeadText.{EndsAsHead}
use Rattle.asgi_request.specs.Head.{record_of}
use Rattle.asgi_request.specs.Scopes.{scope_of, facts_of}
use Rattle.asgi_request.specs.ChunkedBody as body
use Rattle.asgi_request.specs.ChunkedBody.{BodyState, partial, complete, faulty, Piece, print_chunk, IsChunk, total, chunk_piece, tail_pieces, tail_state, ReadsChunks}
use Rattle.asgi_request.specs.RequestEvents.{more_event, length_events, length_state, closing_event, chunked_events, piece_blocks, ReadsBody}
use Rattle.asgi_request.specs.Results.{ReadsHead, RefusesHead, closing, ReadsRequest, ReadsHandshake, BeginsRequest, AreRequests, GivesLast, GivesResults}
use Rattle.asgi_request.specs.Fronts.{found, too_long, head_len}
use Rattle.asgi_request.specs.Places.{front, bad, gives, body_place, after_framing, Reaches, ResultsOf}
use Rattle.asgi_request.proofs.TextLemmas.{found_front, long_front, open_front, head_search_for}
use Rattle.asgi_request.proofs.UniqueLemmas.{results_begin, results_same, reached_begin}
use Rattle.asgi_request.proofs.ForwardLemmas.{yes_le, no_le}
use Rattle.asgi_request.proofs.BackwardLemmas.{Goes, Ends, BodyGoes, takes_found, takes_long, here, goes_on, then_ends, one, waiting, refusal, ends_as, then_body, piece_events, chunk_goes, tail_events, tail_goes, counted_whole, counted_open}

-- ---- a chunked body

pieces_of : (limits : Limits) (chunks : List body.Chunk) (t : body.Tail) → List Incoming
pieces_of limits chunks t = map more_event (flat_map (piece_blocks limits.block) (map chunk_piece chunks ++ tail_pieces t)) ++ closing_event (tail_state t)

first_events : (limits : Limits) (c : body.Chunk) (chunks : List body.Chunk) (t : body.Tail)
    → piece_events limits (chunk_piece c) ++ pieces_of limits chunks t ≡ pieces_of limits (c ∷ chunks) t
unfolding pieces_of piece_events
first_events limits c chunks t =
    let rest = flat_map (piece_blocks limits.block) (map chunk_piece chunks ++ tail_pieces t) in
    sym (append_assoc (map more_event (piece_blocks limits.block (chunk_piece c))) (map more_event rest) (closing_event (tail_state t)))
    ∙ ap (λ (l : List Incoming). l ++ closing_event (tail_state t)) (sym (map-append more_event (piece_blocks limits.block (chunk_piece c)) rest))

chunks_go : (limits : Limits) → 0 < limits.block → (sum : ℕ) (chunks : List body.Chunk) (left : List ℕ) (t : body.Tail) → All IsChunk chunks
    → sum + total chunks ≤ limits.max_body → body.IsTail limits (sum + total chunks) left t
    → BodyGoes limits (SizeLine sum) (flat_map print_chunk chunks ++ left) (pieces_of limits chunks t) (tail_state t)
unfolding pieces_of tail_events
chunks_go limits h sum [] left t all fits tail =
    let none : sum + total [] ≡ sum = omega arith in
    tail_goes limits h sum left t (omega (arith, fits)) (subst (λ k. body.IsTail limits k left t) none tail)
chunks_go limits h sum (c ∷ chunks) left t all fits tail =
    let n = chunk_size c.line in
    let same : sum + total (c ∷ chunks) ≡ sum + n + total chunks = omega arith in
    let rest = flat_map print_chunk chunks ++ left in
    let on = chunks_go limits h (sum + n) chunks left t (All-tail IsChunk c chunks all) (omega (arith, fits, same)) (subst (λ k. body.IsTail limits k left t) same tail) in
    let both = then_body limits (SizeLine sum) (print_chunk c ++ rest) (piece_events limits (chunk_piece c)) (SizeLine (sum + n)) rest (pieces_of limits chunks t) (tail_state t)
    (chunk_goes limits h sum c rest (All-head IsChunk c chunks all) (omega (arith, fits, same))) on in
    subst (λ (l : List ℕ). BodyGoes limits (SizeLine sum) l (pieces_of limits (c ∷ chunks) t) (tail_state t)) (sym (append_assoc (print_chunk c) (flat_map print_chunk chunks) left))
    (subst (λ (e : List Incoming). BodyGoes limits (SizeLine sum) (print_chunk c ++ rest) e (tail_state t)) (first_events limits c chunks t) both)

chunked_goes : (limits : Limits) → 0 < limits.block → (bytes : List ℕ) (pieces : List Piece) (state : BodyState) → ReadsChunks limits 0 bytes pieces state
    → BodyGoes limits (SizeLine 0) bytes (chunked_events limits.block pieces state) state
unfolding pieces_of
chunked_goes limits h bytes pieces state x =
    let go = chunks_go limits h 0 x.chunks x.left x.tail x.each x.fits x.goes_on in
    let P : List Piece → Type 0 = λ p. BodyGoes limits (SizeLine 0) bytes (chunked_events limits.block p state) state in
    let S : BodyState → Type 0 = λ s. BodyGoes limits (SizeLine 0) bytes (chunked_events limits.block (map chunk_piece x.chunks ++ tail_pieces x.tail) s) s in
    let B : List ℕ → Type 0 = λ b. BodyGoes limits (SizeLine 0) b (pieces_of limits x.chunks x.tail) (tail_state x.tail) in
    subst P (sym x.pieces_are) (subst S (sym x.state_is) (subst B (sym x.splits) go))

-- ---- a body

length_goes : (limits : Limits) → 0 < limits.block → (n : ℕ) (bytes : List ℕ)
    → BodyGoes limits (Counted n) bytes (length_events limits.block n bytes) (length_state n bytes)
length_goes limits h n bytes = by (nat_le n (length bytes)) refl
  where
    by : (b : Bool) → nat_le n (length bytes) ≡ b → BodyGoes limits (Counted n) bytes (length_events limits.block n bytes) (length_state n bytes)
    by true e =
        let state : complete (drop n bytes) ≡ length_state n bytes = sym (ap (λ (b : Bool). if b then complete (drop n bytes) else partial) e) in
        subst (λ (s : BodyState). BodyGoes limits (Counted n) bytes (length_events limits.block n bytes) s) state
        (counted_whole limits h n n bytes (omega arith) (yes_le n (length bytes) e))
    by false e =
        let state : partial ≡ length_state n bytes = sym (ap (λ (b : Bool). if b then complete (drop n bytes) else partial) e) in
        subst (λ (s : BodyState). BodyGoes limits (Counted n) bytes (length_events limits.block n bytes) s) state
        (counted_open limits h (length bytes) n bytes (omega arith) (no_le n (length bytes) e))

pub body_goes : (limits : Limits) → 0 < limits.block → (framing : Framing) (bytes : List ℕ) (events : List Incoming) (state : BodyState)
    → framing ≢ Upgrade → ReadsBody limits framing bytes events state → BodyGoes limits (body_place framing) bytes events state
body_goes limits h (Length n) bytes events state plain x =
    let E : List Incoming → Type 0 = λ e. BodyGoes limits (Counted n) bytes e state in
    let S : BodyState → Type 0 = λ s. BodyGoes limits (Counted n) bytes (length_events limits.block n bytes) s in
    subst E (sym x.0) (subst S (sym x.1) (length_goes limits h n bytes))
body_goes limits h Chunked bytes events state plain x =
    let E : List Incoming → Type 0 = λ e. BodyGoes limits (SizeLine 0) bytes e state in
    subst E (sym x.2) (chunked_goes limits h bytes x.0 state x.1)
body_goes limits h Upgrade bytes events state plain x = absurd (plain refl)

-- ---- a head

head_goes : (limits : Limits) (bytes : List ℕ) (head : RequestHead) (framing : Framing) (after : List ℕ) → ReadsHead limits bytes head framing after
    → Goes limits Start bytes (Head (scope_of (record_of head) framing) (facts_of (record_of head) framing) ∷ []) (body_place framing) after
head_goes limits bytes head framing after x =
    let f : front limits Start bytes ≡ found x.text = found_front EndsAsHead head_len head_search_for limits.max_head bytes x.text after x.text_is in
    let turn = gives (Head (scope_of (record_of head) framing) (facts_of (record_of head) framing)) (body_place framing) in
    one limits Start bytes (Some (Head (scope_of (record_of head) framing) (facts_of (record_of head) framing))) (body_place framing) after
    (takes_found limits Start bytes x.text after turn f x.text_is.0.splits
    (Some (record_of head), (head, x.head_is, refl), sym (ap (after_framing (record_of head)) x.framing_is)))

refused_goes : (limits : Limits) (bytes : List ℕ) (why : Refusal) → RefusesHead limits bytes why → Ends limits Start bytes (Bad (status_of why) ∷ [])
refused_goes limits bytes why (inl x) =
    let f : front limits Start bytes ≡ too_long = long_front EndsAsHead head_len head_search_for limits.max_head bytes x.0 in
    subst (λ (w : Refusal). Ends limits Start bytes (Bad (status_of w) ∷ [])) (sym x.1)
    (refusal limits Start bytes bytes HeaderFieldsTooLarge (takes_long limits Start bytes f))
refused_goes limits bytes why (inr (inl x)) =
    let n = x.0 in
    let f : front limits Start bytes ≡ found n.text = found_front EndsAsHead head_len head_search_for limits.max_head bytes n.text n.after n.text_is in
    subst (λ (w : Refusal). Ends limits Start bytes (Bad (status_of w) ∷ [])) (sym x.1)
    (refusal limits Start bytes n.after BadRequest (takes_found limits Start bytes n.text n.after (bad BadRequest) f n.text_is.0.splits (None, n.no_head, refl)))
refused_goes limits bytes why (inr (inr x)) =
    let f : front limits Start bytes ≡ found x.text = found_front EndsAsHead head_len head_search_for limits.max_head bytes x.text x.after x.text_is in
    refusal limits Start bytes x.after why
    (takes_found limits Start bytes x.text x.after (bad why) f x.text_is.0.splits
    (Some (record_of x.head), (x.head, x.head_is, refl), sym (ap (after_framing (record_of x.head)) x.refused)))

-- ---- a request

-- a request as far as it goes
abbrev RequestGoes : Limits → List ℕ → List Next → BodyState → Type 0
RequestGoes limits bytes results partial = Ends limits Start bytes results
RequestGoes limits bytes results (complete rest) = Goes limits Start bytes results Start rest
RequestGoes limits bytes results (faulty why) = Ends limits Start bytes results

request_by : (limits : Limits) (bytes after : List ℕ) (head : Next) (framing : Framing) (events : List Incoming) (state : BodyState)
    → Goes limits Start bytes (head ∷ []) (body_place framing) after → BodyGoes limits (body_place framing) after events state
    → RequestGoes limits bytes (head ∷ (map Event events ++ closing state)) state
request_by limits bytes after head framing events partial x y =
    then_ends limits Start bytes (head ∷ []) (body_place framing) after (map Event events ++ []) x
    (ends_as limits (body_place framing) after (map Event events) (map Event events ++ []) (sym (append-nil (map Event events))) y)
request_by limits bytes after head framing events (faulty why) x y =
    then_ends limits Start bytes (head ∷ []) (body_place framing) after (map Event events ++ Bad (status_of why) ∷ []) x y
request_by limits bytes after head framing events (complete rest) x y =
    goes_on limits Start bytes (head ∷ []) (body_place framing) after (map Event events ++ Whole ∷ []) Start rest x
    (goes_on limits (body_place framing) after (map Event events) BodyEnd rest (Whole ∷ []) Start rest y
    (one limits BodyEnd rest (Some Whole) Start rest (takes_found limits BodyEnd rest [] rest (gives Whole Start) refl refl refl)))

request_goes : (limits : Limits) → 0 < limits.block → (bytes : List ℕ) (results : List Next) (state : BodyState) → ReadsRequest limits bytes results state
    → RequestGoes limits bytes results state
request_goes limits h bytes results state x =
    subst (λ (l : List Next). RequestGoes limits bytes l state) (sym x.results_are)
    (request_by limits bytes x.after (Head (scope_of (record_of x.head) x.framing) (facts_of (record_of x.head) x.framing)) x.framing x.events state
    (head_goes limits bytes x.head x.framing x.after x.head_is) (body_goes limits h x.framing x.after x.events state x.plain x.body_is))

begins_goes : (limits : Limits) → 0 < limits.block → (bytes : List ℕ) (results : List Next) → BeginsRequest limits bytes results → Ends limits Start bytes results
begins_goes limits h bytes results (inl x) =
    ends_as limits Start bytes [] results (sym x.1) (waiting limits Start bytes (open_front EndsAsHead head_len head_search_for limits.max_head bytes x.0))
begins_goes limits h bytes results (inr (inl x)) =
    ends_as limits Start bytes (Bad (status_of x.0) ∷ []) results (sym x.2) (refused_goes limits bytes x.0 x.1)
begins_goes limits h bytes results (inr (inr (inl x))) = request_goes limits h bytes results partial x
begins_goes limits h bytes results (inr (inr (inr x))) = request_goes limits h bytes results (faulty x.0) x.1

-- an opening handshake is whole with its head, and nothing follows it
pub handshake_goes : (limits : Limits) (bytes : List ℕ) (results : List Next) (rest : List ℕ) → ReadsHandshake limits bytes results rest
    → Goes limits Start bytes results Upgraded rest
handshake_goes limits bytes results rest x =
    let head = Head (scope_of (record_of x.head) Upgrade) (facts_of (record_of x.head) Upgrade) in
    subst (λ (l : List Next). Goes limits Start bytes l Upgraded rest) (sym x.results_are)
    (goes_on limits Start bytes (head ∷ []) HandshakeEnd rest (Whole ∷ []) Upgraded rest (head_goes limits bytes x.head Upgrade rest x.head_is)
    (one limits HandshakeEnd rest (Some Whole) Upgraded rest (takes_found limits HandshakeEnd rest [] rest (gives Whole Upgraded) refl refl refl)))

last_goes : (limits : Limits) → 0 < limits.block → (bytes : List ℕ) (results : List Next) (rest : List ℕ) → GivesLast limits bytes results rest → Ends limits Start bytes results
last_goes limits h bytes results rest (inl x) = begins_goes limits h bytes results x.0
last_goes limits h bytes results rest (inr x) =
    record { end = Upgraded; rest = rest; goes = handshake_goes limits bytes results rest x; waits = refl }

pub requests_go : (limits : Limits) → 0 < limits.block → (bytes : List ℕ) (requests : List (List Next)) (rest : List ℕ) → AreRequests limits bytes requests rest
    → Goes limits Start bytes (flat_map (λ q. q) requests) Start rest
requests_go limits h bytes [] rest x = subst (λ (l : List ℕ). Goes limits Start bytes [] Start l) x (here limits Start bytes)
requests_go limits h bytes (results ∷ requests) rest x =
    goes_on limits Start bytes results Start x.0 (flat_map (λ q. q) requests) Start rest
    (request_goes limits h bytes results (complete x.0) x.1) (requests_go limits h x.0 requests rest x.2)

-- all the results of the bytes are what the places give
pub results_of : (limits : Limits) → 0 < limits.block → (bytes : List ℕ) (results : List Next) (rest : List ℕ) → GivesResults limits bytes results rest
    → ResultsOf limits bytes results
results_of limits h bytes results rest x =
    let all = then_ends limits Start bytes (flat_map (λ q. q) x.requests) Start x.after x.last
    (requests_go limits h bytes x.requests x.after x.whole) (last_goes limits h x.after x.last rest x.goes_on) in
    record {
      place = all.end;
      rest = all.rest;
      reaches = record { steps = all.goes.steps; reads = all.goes.reads; shows = all.goes.shows ∙ sym x.results_are };
      waits = all.waits;
    }

-- ---- the laws

pub prefix_of : (limits : Limits) → 0 < limits.block → (bytes more : List ℕ) (results others : List Next) (rest other_rest : List ℕ)
    → GivesResults limits bytes results rest → GivesResults limits (bytes ++ more) others other_rest → (further : List Next) × (others ≡ results ++ further)
prefix_of limits h bytes more results others rest other_rest x y =
    results_begin limits bytes more results others (results_of limits h bytes results rest x) (results_of limits h (bytes ++ more) others other_rest y)

pub unique_of : (limits : Limits) → 0 < limits.block → (bytes : List ℕ) (results others : List Next) (rest other_rest : List ℕ)
    → GivesResults limits bytes results rest → GivesResults limits bytes others other_rest → results ≡ others
unique_of limits h bytes results others rest other_rest x y =
    results_same limits bytes results others (results_of limits h bytes results rest x) (results_of limits h bytes others other_rest y)

pub given_of : (limits : Limits) → 0 < limits.block → (bytes : List ℕ) (given : List Next) (place : Place) (held : List ℕ) (results : List Next) (rest : List ℕ)
    → Reaches limits bytes given place held → GivesResults limits bytes results rest → (further : List Next) × (results ≡ given ++ further)
given_of limits h bytes given place held results rest x y = reached_begin limits bytes given place held results x (results_of limits h bytes results rest y)
