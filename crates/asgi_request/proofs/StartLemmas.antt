-- When a head is due: the one that the bytes begin with, why it is refused, and that it is not whole.
use Rattle.std.proofs.Common.{◌≡◌, ℕ, List, [], ◌∷◌, ◌++◌, ◌⊎◌, inl, inr, refl, sym, ap, ◌∙◌, append_assoc, append-nil, subst, Option, Some, None, Result, Ok, Err}
use Rattle.asgi_types.specs.declared.facts.Facts.{Facts}
use Rattle.asgi_types.specs.declared.facts.Framing.{Framing}
use Rattle.asgi_types.specs.declared.limits.Limits.{Limits}
use Rattle.asgi_types.specs.declared.scope.Scope.{Scope}
use Rattle.httparse.specs.Grammar.{RequestHead}
use Rattle.asgi_request.specs.declared.head.HeadRecord.{HeadRecord}
use Rattle.asgi_request.specs.declared.next.Next.{Next}
use Rattle.asgi_request.specs.declared.next.Next.TheVariants.{Head, Bad}
use Rattle.asgi_request.specs.Places.{Judged}
use Rattle.asgi_request.specs.declared.place.Place.{Place}
use Rattle.asgi_request.specs.declared.place.Place.TheVariants.{Start}
use Rattle.asgi_request.specs.declared.refusal.Refusal.{Refusal}
use Rattle.asgi_request.specs.declared.refusal.Refusal.TheVariants.{BadRequest, HeaderFieldsTooLarge}
use Rattle.asgi_request.specs.Refusals.{status_of}
use Rattle.asgi_request.specs.Texts.{IsFirstWithin, IsUnfinished}
use Rattle.asgi_request.specs.HeadText.{EndsAsHead}
use Rattle.asgi_request.specs.Head.{IsHeadOf, ParsesHead, record_of}
use Rattle.asgi_request.specs.RequestFraming.{request_framing}
use Rattle.asgi_request.specs.Scopes.{scope_of, facts_of}
use Rattle.asgi_request.specs.Results.{RefusesHead, GivesResults}
use Rattle.asgi_request.specs.Fronts.{Front, found, too_long, unfinished, front_text, head_len}
use Rattle.asgi_request.specs.Places.{front, gives, body_place, after_framing, after_head, Judges, Takes, Reads, shown, Reaches, ResultsOf}
use Rattle.asgi_request.specs.Opened.{BeginsWith}
use Rattle.asgi_request.proofs.BackwardLemmas.{goes_on, one, takes_found}
use Rattle.asgi_request.proofs.BodyGrowthLemmas.{Further}
use Rattle.asgi_request.proofs.DueLemmas.{OpensAt, ClosesAt, runs_compare, same_after, not_further}
use Rattle.asgi_request.proofs.NextLemmas.{some_item}
use Rattle.asgi_request.proofs.ResultsLemmas.{results_of}
use Rattle.asgi_request.proofs.TextLemmas.{tells, found_front, head_search_for}
use Rattle.asgi_request.proofs.UniqueLemmas.{same_turn, same_rest, Reads-append, shown-append}

-- ---- the head that the bytes begin with

head_turn : Scope → Facts → Judged
head_turn scope facts = gives (Head scope facts) (body_place facts.framing)

head_takes : (limits : Limits) (bytes : List ℕ) (scope : Scope) (facts : Facts) (arrived : List ℕ) → BeginsWith limits bytes scope facts arrived
    → Takes limits Start bytes (head_turn scope facts) arrived
unfolding head_turn
head_takes limits bytes scope facts arrived b =
    let h = b.reads in
    let r = record_of b.head in
    let turn = gives (Head scope facts) (body_place facts.framing) in
    let f : front limits Start bytes ≡ found h.text = found_front EndsAsHead head_len head_search_for limits.max_head bytes h.text arrived h.text_is in
    let same : Head scope facts ≡ Head (scope_of r facts.framing) (facts_of r facts.framing) =
    ap (λ (s : Scope). Head s facts) b.scope_is ∙ ap (λ (k : Facts). Head (scope_of r facts.framing) k) b.facts_are in
    takes_found limits Start bytes h.text arrived turn f h.text_is.0.splits
    (Some r, (b.head, h.head_is, refl), ap (λ (n : Next). gives n (body_place facts.framing)) same ∙ sym (ap (after_framing r) h.framing_is))

same_head_turn : (scope other : Scope) (facts others : Facts) → head_turn scope facts ≡ head_turn other others → (scope ≡ other) × (facts ≡ others)
unfolding head_turn
same_head_turn scope other facts others e =
    let items : Some (Head scope facts) ≡ Some (Head other others) = ap (λ (t : Judged). t.item) e in
    let heads : Head scope facts ≡ Head other others = cc items in
    (cc heads, cc heads)

pub begins_is_one : (limits : Limits) (bytes : List ℕ) (scope other : Scope) (facts others : Facts) (arrived left : List ℕ)
    → BeginsWith limits bytes scope facts arrived → BeginsWith limits bytes other others left
    → (scope ≡ other) × (facts ≡ others) × (arrived ≡ left)
begins_is_one limits bytes scope other facts others arrived left a b =
    let x = head_takes limits bytes scope facts arrived a in
    let y = head_takes limits bytes other others left b in
    let turns = same_turn limits Start (front limits Start bytes) (head_turn scope facts) (head_turn other others) x.judged y.judged in
    let same = same_head_turn scope other facts others turns in
    (same.0, same.1, same_rest limits Start bytes (head_turn scope facts) (head_turn other others) arrived left x y)

first_grows : (limit : ℕ) (bytes more text rest : List ℕ) → IsFirstWithin EndsAsHead limit bytes text rest → IsFirstWithin EndsAsHead limit (bytes ++ more) text (rest ++ more)
first_grows limit bytes more text rest x =
    let f = x.0 in (
      record { splits = ap (λ (l : List ℕ). l ++ more) f.splits ∙ append_assoc text rest more; ends = f.ends; shortest = f.shortest },
      x.1,
    )

pub begins_grows : (limits : Limits) (bytes more : List ℕ) (scope : Scope) (facts : Facts) (arrived : List ℕ)
    → BeginsWith limits bytes scope facts arrived → BeginsWith limits (bytes ++ more) scope facts (arrived ++ more)
begins_grows limits bytes more scope facts arrived b =
    let r = b.reads in
    record {
      head = b.head;
      reads = record { text = r.text; text_is = first_grows limits.max_head bytes more r.text arrived r.text_is; head_is = r.head_is; framing_is = r.framing_is };
      plain = b.plain;
      scope_is = b.scope_is;
      facts_are = b.facts_are;
    }

-- ---- after a whole request

pub closed_grows : (limits : Limits) (bytes more : List ℕ) (closed : List Next) (after : List ℕ)
    → ClosesAt limits bytes closed after → ClosesAt limits (bytes ++ more) closed (after ++ more)
closed_grows limits bytes more closed after x =
    record { steps = x.steps; reads = Reads-append limits Start bytes x.steps Start after more x.reads; shows = x.shows }

pub head_reached : (limits : Limits) (bytes : List ℕ) (closed : List Next) (after : List ℕ) (scope : Scope) (facts : Facts) (arrived : List ℕ)
    → ClosesAt limits bytes closed after → BeginsWith limits after scope facts arrived
    → OpensAt limits bytes (closed ++ Head scope facts ∷ []) facts.framing arrived
unfolding head_turn
head_reached limits bytes closed after scope facts arrived x b =
    let goes = one limits Start after (Some (Head scope facts)) (body_place facts.framing) arrived (head_takes limits after scope facts arrived b) in
    let all = goes_on limits Start bytes closed Start after (Head scope facts ∷ []) (body_place facts.framing) arrived
    (record { steps = x.steps; reads = x.reads; shows = x.shows }) goes in
    record { steps = all.steps; reads = all.reads; shows = all.shows }

-- ---- a refused head

-- the item refuses what the bytes begin with
abbrev BadTells : Limits → List ℕ → Option Next → Type 0
BadTells limits bytes item = (status : ℕ) → item ≡ Some (Bad status) → (why : Refusal) × RefusesHead limits bytes why × (status ≡ status_of why)

same_status : (a b : ℕ) → Some (Bad a) ≡ Some (Bad b) → b ≡ a
same_status a b e = cc

framing_tells : (limits : Limits) (bytes text rest : List ℕ) (head : RequestHead) → IsFirstWithin EndsAsHead limits.max_head bytes text rest → IsHeadOf limits.max_headers text head
    → (f : Result Framing Refusal) → request_framing (record_of head) limits ≡ f → BadTells limits bytes (after_framing (record_of head) f).item
framing_tells limits bytes text rest head x is (Ok framing) e = λ status i. cc
framing_tells limits bytes text rest head x is (Err why) e = λ status i. (
  why,
  inr (inr (record { text = text; after = rest; head = head; text_is = x; head_is = is; refused = e })),
  same_status (status_of why) status i,
)

head_tells : (limits : Limits) (bytes text rest : List ℕ) → IsFirstWithin EndsAsHead limits.max_head bytes text rest → (o : Option HeadRecord) → ParsesHead limits.max_headers text o
    → BadTells limits bytes (after_head limits o).item
head_tells limits bytes text rest x None parses = λ status i. (
  BadRequest,
  inr (inl (record { text = text; after = rest; text_is = x; no_head = parses }, refl)),
  same_status (status_of BadRequest) status i,
)
head_tells limits bytes text rest x (Some r) parses =
    subst (λ (h : HeadRecord). BadTells limits bytes (after_head limits (Some h)).item) (sym parses.2)
    (framing_tells limits bytes text rest parses.0 x parses.1 (request_framing (record_of parses.0) limits) refl)

turn_tells : (limits : Limits) (bytes rest : List ℕ) (turn : Judged) → Takes limits Start bytes turn rest → BadTells limits bytes turn.item
turn_tells limits bytes rest turn takes = by (front limits Start bytes) refl takes.splits takes.judged
  where
    by : (f : Front) → front limits Start bytes ≡ f → bytes ≡ front_text f ++ rest → Judges limits Start f turn → BadTells limits bytes turn.item
    by (found text) e split j =
        let t = tells EndsAsHead head_len head_search_for limits.max_head bytes (found text) e in
        subst (λ (x : Judged). BadTells limits bytes x.item) (sym j.2) (head_tells limits bytes text rest (t rest split) j.0 j.1)
    by too_long e split j =
        let t = tells EndsAsHead head_len head_search_for limits.max_head bytes too_long e in
        subst (λ (x : Judged). BadTells limits bytes x.item) (sym j)
        (λ status i. (HeaderFieldsTooLarge, inl (t, refl), same_status (status_of HeaderFieldsTooLarge) status i))
    by unfinished e split j = absurd j

pub next_refusal : (limits : Limits) (bytes : List ℕ) (closed : List Next) (after : List ℕ) (place : Place) (held : List ℕ) (status : ℕ)
    → ClosesAt limits bytes closed after → Reaches limits bytes (closed ++ Bad status ∷ []) place held
    → (why : Refusal) × RefusesHead limits after why × (status ≡ status_of why)
next_refusal limits bytes closed after place held status x r = by (runs_compare limits Start bytes x.steps Start after r.steps place held x.reads r.reads)
  where
    on : (items : List (Option Next)) → Reads limits Start after items place held → Bad status ∷ [] ≡ shown items
        → (why : Refusal) × RefusesHead limits after why × (status ≡ status_of why)
    on [] q e = cc
    on (None ∷ items) q e = absurd (some_item limits after q.1 q.0 q.2)
    on (Some item ∷ items) q e =
        let first : item ≡ Bad status = cc e in
        turn_tells limits after q.1 (record { item = Some item; place = q.0 }) q.2 status (ap (λ (i : Next). Some i) first)

    by : Further limits x.steps Start after r.steps place held ⊎ Further limits r.steps place held x.steps Start after
        → (why : Refusal) × RefusesHead limits after why × (status ≡ status_of why)
    by (inl f) =
        on f.items_after f.reads (same_after closed (Bad status ∷ []) (shown f.items_after)
        (sym r.shows ∙ ap shown f.splits ∙ shown-append x.steps f.items_after ∙ ap (λ (l : List Next). l ++ shown f.items_after) x.shows))
    by (inr f) = absurd (
        let e : [] ≡ Bad status ∷ ([] ++ shown f.items_after) =
        same_after closed [] (Bad status ∷ ([] ++ shown f.items_after))
        (append-nil closed ∙ sym x.shows ∙ ap shown f.splits ∙ shown-append r.steps f.items_after ∙ ap (λ (l : List Next). l ++ shown f.items_after) r.shows
        ∙ append_assoc closed (Bad status ∷ []) (shown f.items_after)) in
        cc)

-- ---- a head that is not whole

pub head_is_open : (limits : Limits) (bytes : List ℕ) (closed : List Next) (after rest : List ℕ) → ClosesAt limits bytes closed after → GivesResults limits bytes closed rest
    → IsUnfinished EndsAsHead limits.max_head after
head_is_open limits bytes closed after rest x g =
    tells EndsAsHead head_len head_search_for limits.max_head after unfinished
    (by (runs_compare limits Start bytes x.steps Start after reached.steps r.place r.rest x.reads reached.reads))
  where
    r : ResultsOf limits bytes closed
    r = results_of limits limits.block_in_range.0 bytes closed rest g

    reached : Reaches limits bytes closed r.place r.rest
    reached = r.reaches

    on : (items : List (Option Next)) → Reads limits Start after items r.place r.rest → [] ≡ shown items → front limits Start after ≡ unfinished
    on [] q e =
        let P : Place → Type 0 = λ p. front limits p r.rest ≡ unfinished in
        let R : List ℕ → Type 0 = λ l. front limits Start l ≡ unfinished in
        subst R (sym q.1) (subst P (sym q.0) r.waits)
    on (None ∷ items) q e = absurd (some_item limits after q.1 q.0 q.2)
    on (Some item ∷ items) q e = cc

    waits_so : (items : List (Option Next)) → items ≡ [] → Reads limits r.place r.rest items Start after → front limits Start after ≡ unfinished
    waits_so [] e q =
        let P : Place → Type 0 = λ p. front limits p after ≡ unfinished in
        let R : List ℕ → Type 0 = λ l. front limits r.place l ≡ unfinished in
        subst P q.0 (subst R q.1 r.waits)
    waits_so (item ∷ items) e q = cc

    by : Further limits x.steps Start after reached.steps r.place r.rest ⊎ Further limits reached.steps r.place r.rest x.steps Start after → front limits Start after ≡ unfinished
    by (inl f) =
        on f.items_after f.reads (same_after closed [] (shown f.items_after)
        (append-nil closed ∙ sym reached.shows ∙ ap shown f.splits ∙ shown-append x.steps f.items_after ∙ ap (λ (l : List Next). l ++ shown f.items_after) x.shows))
    by (inr f) = waits_so f.items_after (not_further limits r.place r.rest f.items_after Start after r.waits f.reads) f.reads
