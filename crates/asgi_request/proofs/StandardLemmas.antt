-- All that the places give are all the results of the bytes.
use Rattle.std.proofs.Common.{◌≡◌, ◌≢◌, ℕ, ◌<◌, ◌⊎◌, inl, inr, List, [], ◌∷◌, ◌++◌, map, refl, sym, ap, ◌∙◌, append_assoc, arith, subst, Option, Some, None, Result, Ok, Err, flat_map}
use Rattle.asgi_types.specs.declared.facts.Framing.{Framing}
use Rattle.asgi_types.specs.declared.facts.Framing.TheVariants.{Length, Chunked, Upgrade}
use Rattle.asgi_types.specs.declared.incoming.Incoming.{Incoming}
use Rattle.asgi_types.specs.declared.limits.Limits.{Limits}
use Rattle.httparse.specs.Grammar.{RequestHead}
use Rattle.asgi_request.specs.declared.head.HeadRecord.{HeadRecord}
use Rattle.asgi_request.specs.declared.next.Next.{Next}
use Rattle.asgi_request.specs.declared.next.Next.TheVariants.{Head, Event, Whole, Bad}
use Rattle.asgi_request.specs.declared.place.Place.{Place}
use Rattle.asgi_request.specs.declared.place.Place.TheVariants.{Start, Counted, SizeLine, Chunk, ChunkEnd, Trailers, BodyEnd, HandshakeEnd, Upgraded, Stopped}
use Rattle.asgi_request.specs.Places.{Judged}
use Rattle.asgi_request.specs.declared.refusal.Refusal.{Refusal}
use Rattle.asgi_request.specs.declared.refusal.Refusal.TheVariants.{BadRequest, HeaderFieldsTooLarge}
use Rattle.asgi_request.specs.Refusals.{status_of}
use Rattle.asgi_request.specs.Texts.{IsFirstWithin}
use Rattle.asgi_request.specs.HeadText.{EndsAsHead}
use Rattle.asgi_request.specs.Head.{IsHeadOf, ParsesHead, record_of}
use Rattle.asgi_request.specs.RequestFraming.{request_framing}
use Rattle.asgi_request.specs.Scopes.{scope_of, facts_of}
use Rattle.asgi_request.specs.ChunkedBody.{BodyState, partial, complete, faulty}
use Rattle.asgi_request.specs.RequestEvents.{length_events, length_state, chunked_events, ReadsBody}
use Rattle.asgi_request.specs.Results.{ReadsHead, RefusesHead, closing, ReadsRequest, AreRequests, GivesLast, GivesResults}
use Rattle.asgi_request.specs.Fronts.{Front, found, too_long, unfinished, front_text, head_len}
use Rattle.asgi_request.specs.Places.{front, body_place, after_framing, after_head, Judges, Takes, Reads, shown, Reaches}
use Rattle.asgi_request.proofs.TextLemmas.{tells, head_search_for}
use Rattle.asgi_request.proofs.UniqueLemmas.{shown-append}
use Rattle.asgi_request.proofs.ForwardLemmas.{Follows, From, Fits, turn_good, open_from}

-- ---- a head

-- the last results of the bytes
abbrev pub LastOf : Limits → List ℕ → List Next → Type 0
LastOf limits bytes results = (rest : List ℕ) × GivesLast limits bytes results rest

-- what the bytes before a head give: a whole request, and what E states of the bytes after it, or the last results
abbrev pub StartGives : (List ℕ → List Next → List ℕ → Type 0) → Limits → List ℕ → List Next → Option (List ℕ) → Type 0
StartGives E limits bytes results r =
    ((h : List ℕ) × (r ≡ Some h) × (after : List ℕ) × (request : List Next) × (more : List Next)
    × ReadsRequest limits bytes request (complete after) × E after more h × (results ≡ request ++ more))
    ⊎ ((r ≡ None) × LastOf limits bytes results)

record BodyFrom (E : List ℕ → List Next → List ℕ → Type 0) (limits : Limits) (framing : Framing) (bytes : List ℕ) (results : List Next) (r : Option (List ℕ)) : Type 0 where
  pub events : List Incoming
  pub state : BodyState
  pub tail : List Next
  pub body_is : ReadsBody limits framing bytes events state
  pub follows : Follows E state tail r
  pub results_are : results ≡ map Event events ++ tail

body_from : (E : List ℕ → List Next → List ℕ → Type 0) (limits : Limits) (framing : Framing) (bytes : List ℕ) (results : List Next) (r : Option (List ℕ))
    → framing ≢ Upgrade → From E limits (body_place framing) bytes results r → BodyFrom E limits framing bytes results r
body_from E limits (Length n) bytes results r plain from = record {
  events = length_events limits.block n bytes;
  state = length_state n bytes;
  tail = from.0;
  body_is = (refl, refl);
  follows = from.1;
  results_are = from.2;
}
body_from E limits Chunked bytes results r plain from = record {
  events = chunked_events limits.block from.0 from.1;
  state = from.1;
  tail = from.3.0;
  body_is = (from.0, from.2, refl);
  follows = from.3.1;
  results_are = from.3.2;
}
body_from E limits Upgrade bytes results r plain from = absurd (plain refl)

head_item : RequestHead → Framing → Next
head_item head framing = Head (scope_of (record_of head) framing) (facts_of (record_of head) framing)

head_gives : (E : List ℕ → List Next → List ℕ → Type 0) (limits : Limits) (bytes after : List ℕ) (head : RequestHead) (framing : Framing)
    (results : List Next) (r : Option (List ℕ)) → ReadsHead limits bytes head framing after → framing ≢ Upgrade → BodyFrom E limits framing after results r
    → StartGives E limits bytes (head_item head framing ∷ results) r
unfolding head_item
head_gives E limits bytes after head framing results r x plain b = by b.state b.body_is b.follows
  where
    request : (state : BodyState) → ReadsBody limits framing after b.events state
        → ReadsRequest limits bytes (head_item head framing ∷ (map Event b.events ++ closing state)) state
    request state body = record { head = head; framing = framing; after = after; events = b.events; head_is = x; plain = plain; body_is = body; results_are = refl }

    by : (state : BodyState) → ReadsBody limits framing after b.events state → Follows E state b.tail r
        → StartGives E limits bytes (head_item head framing ∷ results) r
    by partial body f =
        let same : head_item head framing ∷ (map Event b.events ++ []) ≡ head_item head framing ∷ results =
        ap (λ (l : List Next). head_item head framing ∷ l) (ap (λ (l : List Next). map Event b.events ++ l) (sym f.0) ∙ sym b.results_are) in
        inr (f.1, (bytes, inl (inr (inr (inl (subst (λ (l : List Next). ReadsRequest limits bytes l partial) same (request partial body)))), refl)))
    by (faulty why) body f =
        let same : head_item head framing ∷ (map Event b.events ++ Bad (status_of why) ∷ []) ≡ head_item head framing ∷ results =
        ap (λ (l : List Next). head_item head framing ∷ l) (ap (λ (l : List Next). map Event b.events ++ l) (sym f.0) ∙ sym b.results_are) in
        inr (f.1, (bytes, inl (inr (inr (inr (why, subst (λ (l : List Next). ReadsRequest limits bytes l (faulty why)) same (request (faulty why) body)))), refl)))
    by (complete rest) body f =
        inl (
          f.1,
          f.4,
          rest,
          head_item head framing ∷ (map Event b.events ++ Whole ∷ []),
          f.0,
          request (complete rest) body,
          f.2,
          ap (λ (l : List Next). head_item head framing ∷ l) (b.results_are ∙ ap (λ (l : List Next). map Event b.events ++ l) f.3 ∙ sym (append_assoc (map Event b.events) (Whole ∷ []) f.0)),
        )

refusal_gives : (E : List ℕ → List Next → List ℕ → Type 0) (limits : Limits) (bytes rest : List ℕ) (why : Refusal) (results : List Next) (r : Option (List ℕ))
    → RefusesHead limits bytes why → (results ≡ []) × (r ≡ None) → StartGives E limits bytes (Bad (status_of why) ∷ results) r
refusal_gives E limits bytes rest why results r x from =
    inr (from.1, (bytes, inl (inr (inl (why, x, ap (λ (l : List Next). Bad (status_of why) ∷ l) from.0)), refl)))

-- an opening handshake gives its head and Whole
handshake_gives : (E : List ℕ → List Next → List ℕ → Type 0) (limits : Limits) (bytes after : List ℕ) (head : RequestHead) (results : List Next) (r : Option (List ℕ))
    → ReadsHead limits bytes head Upgrade after → (results ≡ Whole ∷ []) × (r ≡ None) → StartGives E limits bytes (head_item head Upgrade ∷ results) r
unfolding head_item
handshake_gives E limits bytes after head results r x from =
    inr (from.1, (after, inr (record { head = head; head_is = x; results_are = ap (λ (l : List Next). head_item head Upgrade ∷ l) from.0 })))

-- what stands after a head
after_gives : (E : List ℕ → List Next → List ℕ → Type 0) (limits : Limits) (bytes after : List ℕ) (head : RequestHead) (framing : Framing)
    (results : List Next) (r : Option (List ℕ)) → ReadsHead limits bytes head framing after → From E limits (body_place framing) after results r
    → StartGives E limits bytes (head_item head framing ∷ results) r
after_gives E limits bytes after head (Length n) results r x from =
    head_gives E limits bytes after head (Length n) results r x (λ e. cc) (body_from E limits (Length n) after results r (λ e. cc) from)
after_gives E limits bytes after head Chunked results r x from =
    head_gives E limits bytes after head Chunked results r x (λ e. cc) (body_from E limits Chunked after results r (λ e. cc) from)
after_gives E limits bytes after head Upgrade results r x from = handshake_gives E limits bytes after head results r x from

-- what a turn before a head has to keep
abbrev StartGood : (List ℕ → List Next → List ℕ → Type 0) → Limits → List ℕ → List ℕ → Judged → Type 0
StartGood E limits bytes rest turn =
    Fits limits turn.place
    × ((results : List Next) (r : Option (List ℕ)) → From E limits turn.place rest results r → StartGives E limits bytes (shown (turn.item ∷ []) ++ results) r)

fits_body : (limits : Limits) (framing : Framing) → Fits limits (body_place framing)
fits_body limits (Length n) = tt
fits_body limits Chunked = omega arith
fits_body limits Upgrade = tt

framing_good : (E : List ℕ → List Next → List ℕ → Type 0) (limits : Limits) (bytes text rest : List ℕ) (head : RequestHead)
    → IsFirstWithin EndsAsHead limits.max_head bytes text rest → IsHeadOf limits.max_headers text head
    → (f : Result Framing Refusal) → request_framing (record_of head) limits ≡ f → StartGood E limits bytes rest (after_framing (record_of head) f)
unfolding head_item
framing_good E limits bytes text rest head x is (Ok framing) e = (
  fits_body limits framing,
  λ results r from. after_gives E limits bytes rest head framing results r (record { text = text; text_is = x; head_is = is; framing_is = e }) from,
)
framing_good E limits bytes text rest head x is (Err why) e = (
  tt,
  λ results r from. refusal_gives E limits bytes rest why results r
      (inr (inr (record { text = text; after = rest; head = head; text_is = x; head_is = is; refused = e }))) from,
)

head_good : (E : List ℕ → List Next → List ℕ → Type 0) (limits : Limits) (bytes text rest : List ℕ)
    → IsFirstWithin EndsAsHead limits.max_head bytes text rest → (o : Option HeadRecord) → ParsesHead limits.max_headers text o
    → StartGood E limits bytes rest (after_head limits o)
head_good E limits bytes text rest x None parses = (
  tt,
  λ results r from. refusal_gives E limits bytes rest BadRequest results r
      (inr (inl (record { text = text; after = rest; text_is = x; no_head = parses }, refl))) from,
)
head_good E limits bytes text rest x (Some record_) parses =
    subst (λ (h : HeadRecord). StartGood E limits bytes rest (after_head limits (Some h))) (sym parses.2)
    (framing_good E limits bytes text rest parses.0 x parses.1 (request_framing (record_of parses.0) limits) refl)

start_good : (E : List ℕ → List Next → List ℕ → Type 0) (limits : Limits) (bytes rest : List ℕ) (turn : Judged)
    → Takes limits Start bytes turn rest → StartGood E limits bytes rest turn
start_good E limits bytes rest turn takes = by (front limits Start bytes) refl takes.splits takes.judged
  where
    by : (f : Front) → front limits Start bytes ≡ f → bytes ≡ front_text f ++ rest → Judges limits Start f turn → StartGood E limits bytes rest turn
    by (found text) e split j =
        let t = tells EndsAsHead head_len head_search_for limits.max_head bytes (found text) e in
        subst (λ (x : Judged). StartGood E limits bytes rest x) (sym j.2) (head_good E limits bytes text rest (t rest split) j.0 j.1)
    by too_long e split j =
        let t = tells EndsAsHead head_len head_search_for limits.max_head bytes too_long e in
        subst (λ (x : Judged). StartGood E limits bytes rest x) (sym j)
        (tt, λ results r from. refusal_gives E limits bytes rest HeaderFieldsTooLarge results r (inl (t, refl)) from)
    by unfinished e split j = absurd j

-- ---- all turns

is_start : (place : Place) → (place ≡ Start) ⊎ (place ≡ Start → ⊥)
is_start Start = inl refl
is_start (Counted n) = inr (λ e. cc)
is_start (SizeLine sum) = inr (λ e. cc)
is_start (Chunk left sum) = inr (λ e. cc)
is_start (ChunkEnd sum) = inr (λ e. cc)
is_start Trailers = inr (λ e. cc)
is_start BodyEnd = inr (λ e. cc)
is_start HandshakeEnd = inr (λ e. cc)
is_start Upgraded = inr (λ e. cc)
is_start (Stopped why) = inr (λ e. cc)

-- all results, and the bytes after the last whole request
abbrev All_of : Limits → List ℕ → List Next → List ℕ → Type 0
All_of limits bytes results h = GivesResults limits bytes results h

-- one request more at the front
pub request_first : (limits : Limits) (bytes after : List ℕ) (request more : List Next) (h : List ℕ)
    → ReadsRequest limits bytes request (complete after) → GivesResults limits after more h → GivesResults limits bytes (request ++ more) h
request_first limits bytes after request more h x g = record {
  requests = request ∷ g.requests;
  after = g.after;
  last = g.last;
  whole = (after, x, g.whole);
  goes_on = g.goes_on;
  results_are = ap (λ (l : List Next). request ++ l) g.results_are ∙ sym (append_assoc request (flat_map (λ q. q) g.requests) g.last);
}

last_alone : (limits : Limits) (bytes : List ℕ) (results : List Next) (rest : List ℕ) → GivesLast limits bytes results rest → GivesResults limits bytes results rest
last_alone limits bytes results rest x = record { requests = []; after = bytes; last = results; whole = refl; goes_on = x; results_are = refl }

start_all : (limits : Limits) (bytes : List ℕ) (results : List Next) (r : Option (List ℕ)) → StartGives (All_of limits) limits bytes results r
    → (h : List ℕ) × GivesResults limits bytes results h
start_all limits bytes results r (inl x) =
    (x.0, subst (λ (l : List Next). GivesResults limits bytes l x.0) (sym x.7) (request_first limits bytes x.2 x.3 x.4 x.0 x.5 x.6))
start_all limits bytes results r (inr x) = (let l = x.1 in (l.0, last_alone limits bytes results l.0 l.1))

end_all : (limits : Limits) → 0 < limits.block → (place : Place) (bytes : List ℕ) → Fits limits place → front limits place bytes ≡ unfinished
    → (r : Option (List ℕ)) × From (All_of limits) limits place bytes [] r
end_all limits h place bytes fits e = by (is_start place)
  where
    by : (place ≡ Start) ⊎ (place ≡ Start → ⊥) → (r : Option (List ℕ)) × From (All_of limits) limits place bytes [] r
    by (inl s) =
        let P : Place → Type 0 = λ p. front limits p bytes ≡ unfinished in
        let t = tells EndsAsHead head_len head_search_for limits.max_head bytes unfinished (subst P s e) in
        (Some bytes, subst (λ (p : Place). From (All_of limits) limits p bytes [] (Some bytes)) (sym s) (bytes, last_alone limits bytes [] bytes (inl (inl (t, refl), refl)), refl))
    by (inr n) = (None, open_from (All_of limits) limits h place bytes n fits e)

all_from : (limits : Limits) → 0 < limits.block → (place : Place) (bytes : List ℕ) (items : List (Option Next)) (end : Place) (rest : List ℕ)
    → Fits limits place → Reads limits place bytes items end rest → front limits end rest ≡ unfinished
    → (r : Option (List ℕ)) × From (All_of limits) limits place bytes (shown items) r
all_from limits h place bytes [] end rest fits reads e =
    let P : Place → Type 0 = λ p. front limits p bytes ≡ unfinished in
    let R : List ℕ → Type 0 = λ l. front limits end l ≡ unfinished in
    end_all limits h place bytes fits (subst P (sym reads.0) (subst R (sym reads.1) e))
all_from limits h place bytes (item ∷ items) end rest fits reads e =
    by (is_start place) (λ f. all_from limits h reads.0 reads.1 items end rest f reads.3 e)
  where
    same : shown (item ∷ items) ≡ shown (item ∷ []) ++ shown items
    same = shown-append (item ∷ []) items

    by : (place ≡ Start) ⊎ (place ≡ Start → ⊥) → (Fits limits reads.0 → (r : Option (List ℕ)) × From (All_of limits) limits reads.0 reads.1 (shown items) r)
        → (r : Option (List ℕ)) × From (All_of limits) limits place bytes (shown (item ∷ items)) r
    by (inl s) go =
        let good = start_good (All_of limits) limits bytes reads.1 (record { item = item; place = reads.0 })
        (subst (λ (p : Place). Takes limits p bytes (record { item = item; place = reads.0 }) reads.1) s reads.2) in
        let on = go good.0 in
        let all = start_all limits bytes (shown (item ∷ []) ++ shown items) on.0 (good.1 (shown items) on.0 on.1) in (
          Some all.0,
          subst (λ (p : Place). From (All_of limits) limits p bytes (shown (item ∷ items)) (Some all.0)) (sym s)
              (all.0, subst (λ (l : List Next). GivesResults limits bytes l all.0) (sym same) all.1, refl),
        )
    by (inr n) go =
        let good = turn_good (All_of limits) limits h place bytes reads.1 (record { item = item; place = reads.0 }) n fits reads.2 in
        let on = go good.0 in
        (on.0, subst (λ (l : List Next). From (All_of limits) limits place bytes l on.0) (sym same) (good.1 (shown items) on.0 on.1))

-- what was given when nothing more is due are all the results
pub all_results : (limits : Limits) → 0 < limits.block → (bytes : List ℕ) (given : List Next) (place : Place) (held : List ℕ)
    → Reaches limits bytes given place held → front limits place held ≡ unfinished → (rest : List ℕ) × GivesResults limits bytes given rest
all_results limits h bytes given place held x e =
    let all = all_from limits h Start bytes x.steps place held tt x.reads e in
    (all.1.0, subst (λ (l : List Next). GivesResults limits bytes l all.1.0) x.shows all.1.1)

-- ---- whole requests

abbrev Whole_of : Limits → List ℕ → List Next → List ℕ → Type 0
Whole_of limits bytes results h = (requests : List (List Next)) × AreRequests limits bytes requests h × (results ≡ flat_map (λ q. q) requests)

start_whole : (limits : Limits) (bytes : List ℕ) (results : List Next) (h : List ℕ) → StartGives (Whole_of limits) limits bytes results (Some h)
    → Whole_of limits bytes results h
start_whole limits bytes results h (inl x) =
    let same : x.0 ≡ h = some x.0 h (sym x.1) in
    let E : List ℕ → Type 0 = λ l. Whole_of limits x.2 x.4 l in
    let on = subst E same x.6 in
    (x.3 ∷ on.0, (x.2, x.5, on.1), x.7 ∙ ap (λ (l : List Next). x.3 ++ l) on.2)
  where
    some : (a b : List ℕ) → Some a ≡ Some b → a ≡ b
    some a b e = cc
start_whole limits bytes results h (inr x) = let none = x.0 in cc

whole_from : (limits : Limits) → 0 < limits.block → (place : Place) (bytes : List ℕ) (items : List (Option Next)) (rest : List ℕ)
    → Fits limits place → Reads limits place bytes items Start rest → From (Whole_of limits) limits place bytes (shown items) (Some rest)
whole_from limits h place bytes [] rest fits reads =
    subst (λ (p : Place). From (Whole_of limits) limits p bytes [] (Some rest)) (sym reads.0)
    (rest, ([], reads.1, refl), refl)
whole_from limits h place bytes (item ∷ items) rest fits reads = by (is_start place) (λ f. whole_from limits h reads.0 reads.1 items rest f reads.3)
  where
    same : shown (item ∷ items) ≡ shown (item ∷ []) ++ shown items
    same = shown-append (item ∷ []) items

    by : (place ≡ Start) ⊎ (place ≡ Start → ⊥) → (Fits limits reads.0 → From (Whole_of limits) limits reads.0 reads.1 (shown items) (Some rest))
        → From (Whole_of limits) limits place bytes (shown (item ∷ items)) (Some rest)
    by (inl s) go =
        let good = start_good (Whole_of limits) limits bytes reads.1 (record { item = item; place = reads.0 })
        (subst (λ (p : Place). Takes limits p bytes (record { item = item; place = reads.0 }) reads.1) s reads.2) in
        let on = go good.0 in
        let all = start_whole limits bytes (shown (item ∷ []) ++ shown items) rest (good.1 (shown items) (Some rest) on) in
        subst (λ (p : Place). From (Whole_of limits) limits p bytes (shown (item ∷ items)) (Some rest)) (sym s)
        (rest, subst (λ (l : List Next). Whole_of limits bytes l rest) (sym same) all, refl)
    by (inr n) go =
        let good = turn_good (Whole_of limits) limits h place bytes reads.1 (record { item = item; place = reads.0 }) n fits reads.2 in
        let on = go good.0 in
        subst (λ (l : List Next). From (Whole_of limits) limits place bytes l (Some rest)) (sym same) (good.1 (shown items) (Some rest) on)

-- what was given before a head are whole requests
pub whole_requests : (limits : Limits) → 0 < limits.block → (bytes : List ℕ) (given : List Next) (held : List ℕ)
    → Reaches limits bytes given Start held → (requests : List (List Next)) × AreRequests limits bytes requests held × (given ≡ flat_map (λ q. q) requests)
whole_requests limits h bytes given held x =
    let all = whole_from limits h Start bytes x.steps held tt x.reads in
    let same : all.0 ≡ held = some held all.0 all.2 in
    subst (λ (g : List Next). Whole_of limits bytes g held) x.shows (subst (λ (l : List ℕ). Whole_of limits bytes (shown x.steps) l) same all.1)
  where
    some : (a b : List ℕ) → Some a ≡ Some b → b ≡ a
    some a b e = cc
