-- More bytes after a body: what was due stays due, and a body that is whole or faulty stays so.
use Rattle.std.proofs.Common.{◌≡◌, ◌≢◌, ℕ, List, [], ◌∷◌, ◌++◌, map, refl, sym, ap, ◌∙◌, append_assoc, subst, Option, Some, None}
use Rattle.std.specs.Prelude.{◌==◌, if◌then◌else◌}
use Rattle.std.proofs.lemmas.List.{append-nil}
use Rattle.asgi_types.specs.declared.limits.Limits.{Limits}
use Rattle.asgi_request.specs.declared.place.Place.{Place}
use Rattle.asgi_request.specs.declared.place.Place.TheVariants.{BodyEnd}
use Rattle.asgi_request.specs.declared.next.Next.{Next}
use Rattle.asgi_request.specs.Places.{Judged}
use Rattle.asgi_request.specs.Fronts.{found, unfinished}
use Rattle.asgi_request.specs.Places.{front, body_place, Takes, Reads, shown}
use mathlib.Core.List.{IsPrefix}
use Rattle.asgi_types.specs.declared.facts.Framing.{Framing}
use Rattle.asgi_types.specs.declared.facts.Framing.TheVariants.{Length, Chunked, Upgrade}
use Rattle.asgi_types.specs.declared.incoming.Incoming.{Incoming}
use Rattle.asgi_request.specs.declared.next.Next.TheVariants.{Need, Head, Event, Whole, Bad}
use Rattle.asgi_request.specs.declared.refusal.Refusal.{Refusal}
use Rattle.asgi_request.specs.declared.refusal.Refusal.TheVariants as refusal
use Rattle.asgi_request.specs.Refusals.{status_of}
use Rattle.asgi_request.specs.ChunkedBody.{BodyState, partial, complete, faulty}
use Rattle.asgi_request.specs.RequestEvents.{ReadsBody}
use Rattle.asgi_request.proofs.BackwardLemmas.{BodyGoes}
use Rattle.asgi_request.proofs.UniqueLemmas.{same_turn, same_rest, judged_known, Takes-append, shown-append}
use Rattle.asgi_request.specs.BodyGrowth.{StaysAs, Grows}
use Rattle.asgi_request.proofs.ResultsLemmas.{body_goes}

-- ---- runs

unfoldable pub no_whole : List Next → Type 0
no_whole [] = Unit {0}
no_whole (Need ∷ l) = no_whole l
no_whole (Head scope facts ∷ l) = no_whole l
no_whole (Event event ∷ l) = no_whole l
no_whole (Whole ∷ l) = ⊥
no_whole (Bad status ∷ l) = no_whole l

tail_no_whole : (item : Option Next) (items : List (Option Next)) → no_whole (shown (item ∷ items)) → no_whole (shown items)
unfolding no_whole
tail_no_whole None items h = h
tail_no_whole (Some Need) items h = h
tail_no_whole (Some (Head scope facts)) items h = h
tail_no_whole (Some (Event event)) items h = h
tail_no_whole (Some Whole) items h = absurd h
tail_no_whole (Some (Bad status)) items h = h

first_no_whole : (item : Option Next) (items : List (Option Next)) → no_whole (shown (item ∷ items)) → item ≡ Some Whole → ⊥
unfolding no_whole
first_no_whole None items h e = cc
first_no_whole (Some Need) items h e = cc
first_no_whole (Some (Head scope facts)) items h e = cc
first_no_whole (Some (Event event)) items h e = cc
first_no_whole (Some Whole) items h e = h
first_no_whole (Some (Bad status)) items h e = cc

-- here a request can only be whole
abbrev OnlyWhole : Limits → Place → List ℕ → Type 0
OnlyWhole limits place bytes = (item : Option Next) (mid : Place) (middle : List ℕ) → Takes limits place bytes (record { item = item; place = mid }) middle → item ≡ Some Whole

-- from there the bytes give these
pub record Further (limits : Limits) (items : List (Option Next)) (end : Place) (rest : List ℕ) (others : List (Option Next)) (last : Place) (left : List ℕ) : Type 0 where
  pub items_after : List (Option Next)
  pub splits : others ≡ items ++ items_after
  pub reads : Reads limits end rest items_after last left

run_goes_on : (limits : Limits) (place : Place) (bytes more : List ℕ) (items : List (Option Next)) (end : Place) (rest : List ℕ)
    (others : List (Option Next)) (last : Place) (left : List ℕ)
    → Reads limits place bytes items end rest → Reads limits place (bytes ++ more) others last left → OnlyWhole limits last left → no_whole (shown items)
    → Further limits items end (rest ++ more) others last left
run_goes_on limits place bytes more [] end rest others last left r q only none =
    let P : Place → Type 0 = λ p. Reads limits p (bytes ++ more) others last left in
    let R : List ℕ → Type 0 = λ l. Reads limits end (l ++ more) others last left in
    record { items_after = others; splits = refl; reads = subst R r.1 (subst P r.0 q) }
run_goes_on limits place bytes more (item ∷ items) end rest [] last left r q only none =
    let grown = Takes-append limits place bytes (record { item = item; place = r.0 }) r.1 more r.2 in
    let P : Place → Type 0 = λ p. Takes limits p (bytes ++ more) (record { item = item; place = r.0 }) (r.1 ++ more) in
    let R : List ℕ → Type 0 = λ l. Takes limits last l (record { item = item; place = r.0 }) (r.1 ++ more) in
    absurd (first_no_whole item items none (only item r.0 (r.1 ++ more) (subst R q.1 (subst P q.0 grown))))
run_goes_on limits place bytes more (item ∷ items) end rest (other ∷ others) last left r q only none =
    let a : Judged = record { item = item; place = r.0 } in
    let b : Judged = record { item = other; place = q.0 } in
    let grown = Takes-append limits place bytes a r.1 more r.2 in
    let turns = same_turn limits place (front limits place (bytes ++ more)) a b grown.judged q.2.judged in
    let rests = same_rest limits place (bytes ++ more) a b (r.1 ++ more) q.1 grown q.2 in
    let places : r.0 ≡ q.0 = ap (λ (t : Judged). t.place) turns in
    let items_same : item ≡ other = ap (λ (t : Judged). t.item) turns in
    let P : Place → Type 0 = λ p. Reads limits p q.1 others last left in
    let R : List ℕ → Type 0 = λ l. Reads limits r.0 l others last left in
    let on = subst R (sym rests) (subst P (sym places) q.3) in
    let tail = run_goes_on limits r.0 r.1 more items end rest others last left r.3 on only (tail_no_whole item items none) in
    record {
      items_after = tail.items_after;
      splits = ap (λ (o : Option Next). o ∷ others) (sym items_same) ∙ ap (λ (l : List (Option Next)). item ∷ l) tail.splits;
      reads = tail.reads;
    }

-- ---- the run of a body

-- what stands after the events
unfoldable pub mark : BodyState → List Next
mark partial = []
mark (complete after) = []
mark (faulty why) = Bad (status_of why) ∷ []

unfoldable pub ends_as : Limits → BodyState → Place → List ℕ → Type 0
ends_as limits partial end rest = front limits end rest ≡ unfinished
ends_as limits (complete after) end rest = (end ≡ BodyEnd) × (rest ≡ after)
ends_as limits (faulty why) end rest = front limits end rest ≡ unfinished

pub record BodyRun (limits : Limits) (place : Place) (bytes : List ℕ) (events : List Incoming) (state : BodyState) : Type 0 where
  pub steps : List (Option Next)
  pub end : Place
  pub rest : List ℕ
  pub reads : Reads limits place bytes steps end rest
  pub shows : shown steps ≡ map Event events ++ mark state
  pub ends : ends_as limits state end rest

pub run_of_body : (limits : Limits) (place : Place) (bytes : List ℕ) (events : List Incoming) (state : BodyState) → BodyGoes limits place bytes events state → BodyRun limits place bytes events state
unfolding mark ends_as
run_of_body limits place bytes events partial x =
    record { steps = x.goes.steps; end = x.end; rest = x.rest; reads = x.goes.reads; shows = x.goes.shows ∙ sym (append-nil (map Event events)); ends = x.waits }
run_of_body limits place bytes events (complete after) x =
    record { steps = x.steps; end = BodyEnd; rest = after; reads = x.reads; shows = x.shows ∙ sym (append-nil (map Event events)); ends = (refl, refl) }
run_of_body limits place bytes events (faulty why) x =
    record { steps = x.goes.steps; end = x.end; rest = x.rest; reads = x.goes.reads; shows = x.goes.shows; ends = x.waits }

pub marked_no_whole : (events : List Incoming) (state : BodyState) → no_whole (map Event events ++ mark state)
unfolding no_whole mark
marked_no_whole [] partial = tt
marked_no_whole [] (complete after) = tt
marked_no_whole [] (faulty why) = tt
marked_no_whole (e ∷ events) state = marked_no_whole events state

end_item : (limits : Limits) (bytes : List ℕ) (item : Option Next) (mid : Place) (middle : List ℕ)
    → Takes limits BodyEnd bytes (record { item = item; place = mid }) middle → item ≡ Some Whole
end_item limits bytes item mid middle t = ap (λ (x : Judged). x.item) t.judged

pub only_whole : (limits : Limits) (state : BodyState) (end : Place) (rest : List ℕ) → ends_as limits state end rest → OnlyWhole limits end rest
unfolding ends_as
only_whole limits partial end rest e = λ item mid middle t. absurd (judged_known limits end rest (record { item = item; place = mid }) middle t e)
only_whole limits (faulty why) end rest e = λ item mid middle t. absurd (judged_known limits end rest (record { item = item; place = mid }) middle t e)
only_whole limits (complete after) end rest e = λ item mid middle t.
    end_item limits rest item mid middle (subst (λ (p : Place). Takes limits p rest (record { item = item; place = mid }) middle) e.0 t)

-- ---- events and what stands after them

-- the events are the first of the others, and what stands after is the same
pub record Continues (events others : List Incoming) (tail : List Next) (state : BodyState) : Type 0 where
  pub more : List Incoming
  pub splits : events ++ more ≡ others
  pub same : map Event more ++ mark state ≡ tail

pub continues : (events others : List Incoming) (tail : List Next) (state : BodyState) → map Event others ++ mark state ≡ map Event events ++ tail → Continues events others tail state
unfolding mark
continues [] others tail state e = record { more = others; splits = refl; same = e }
continues (x ∷ events) [] tail partial e = cc
continues (x ∷ events) [] tail (complete after) e = cc
continues (x ∷ events) [] tail (faulty why) e = cc
continues (x ∷ events) (y ∷ others) tail state e =
    let on = continues events others tail state (cc e) in
    let first : Event y ≡ Event x = cc e in
    let same : x ≡ y = cc first in
    record { more = on.more; splits = ap (λ (l : List Incoming). x ∷ l) on.splits ∙ ap (λ (z : Incoming). z ∷ others) same; same = on.same }

pub nothing_more : (more : List Incoming) (state : BodyState) → map Event more ++ mark state ≡ [] → more ≡ []
nothing_more [] state e = refl
nothing_more (x ∷ more) state e = cc

-- ---- a whole body

pub no_front : (limits : Limits) (end : Place) (rest : List ℕ) → end ≡ BodyEnd → front limits end rest ≡ unfinished → ⊥
no_front limits end rest e f =
    let g : found [] ≡ unfinished = subst (λ (p : Place). front limits p rest ≡ unfinished) e f in cc

whole_state : (limits : Limits) (state : BodyState) (end : Place) (rest bytes : List ℕ) → ends_as limits state end rest → BodyEnd ≡ end → bytes ≡ rest → state ≡ complete bytes
unfolding ends_as
whole_state limits partial end rest bytes ends e f = absurd (no_front limits end rest (sym e) ends)
whole_state limits (faulty why) end rest bytes ends e f = absurd (no_front limits end rest (sym e) ends)
whole_state limits (complete after) end rest bytes ends e f = ap complete (sym (f ∙ ends.1))

whole_stays : (limits : Limits) (bytes : List ℕ) (steps : List (Option Next)) (end : Place) (rest : List ℕ) (more : List Incoming) (state : BodyState)
    → Reads limits BodyEnd bytes steps end rest → ends_as limits state end rest → map Event more ++ mark state ≡ shown steps
    → (more ≡ []) × (state ≡ complete bytes)
whole_stays limits bytes [] end rest more state r ends e = (nothing_more more state e, whole_state limits state end rest bytes ends r.0 r.1)
whole_stays limits bytes (item ∷ steps) end rest more state r ends e =
    absurd (first_no_whole item steps (subst no_whole e (marked_no_whole more state)) (end_item limits bytes item r.0 r.1 r.2))

-- ---- a faulty body

refusal_with : ℕ → Refusal
refusal_with status =
    if status == 413 then refusal.ContentTooLarge else (
    if status == 426 then refusal.UpgradeRequired else (
    if status == 431 then refusal.HeaderFieldsTooLarge else (
    if status == 501 then refusal.NotImplemented else refusal.BadRequest)))

refusal_back : (a : Refusal) → refusal_with (status_of a) ≡ a
unfolding refusal_with
refusal_back refusal.BadRequest = refl
refusal_back refusal.ContentTooLarge = refl
refusal_back refusal.UpgradeRequired = refl
refusal_back refusal.HeaderFieldsTooLarge = refl
refusal_back refusal.NotImplemented = refl

same_refusal : (a b : Refusal) → status_of a ≡ status_of b → a ≡ b
same_refusal a b e = sym (refusal_back a) ∙ ap refusal_with e ∙ refusal_back b

bad_stays : (more : List Incoming) (state : BodyState) (why : Refusal) (tail : List Next) → map Event more ++ mark state ≡ Bad (status_of why) ∷ tail
    → (more ≡ []) × (state ≡ faulty why)
unfolding mark
bad_stays (x ∷ more) state why tail e = cc
bad_stays [] partial why tail e = cc
bad_stays [] (complete after) why tail e = cc
bad_stays [] (faulty other) why tail e =
    let first : Bad (status_of other) ≡ Bad (status_of why) = cc e in
    let same : status_of other ≡ status_of why = cc first in
    (refl, ap faulty (same_refusal other why same))

-- ---- growth

pub none_more : (events others more : List Incoming) → events ++ more ≡ others → more ≡ [] → others ≡ events
none_more events others more e n = sym e ∙ ap (λ (l : List Incoming). events ++ l) n ∙ append-nil events

state_stays : (limits : Limits) (more : List ℕ) (events others : List Incoming) (state other : BodyState) (end last : Place) (rest left : List ℕ) (steps : List (Option Next))
    → ends_as limits state end rest → ends_as limits other last left → Reads limits end (rest ++ more) steps last left
    → Continues events others (mark state ++ shown steps) other → StaysAs state more events others other
unfolding mark ends_as
state_stays limits more events others partial other end last rest left steps e f r c = tt
state_stays limits more events others (complete after) other end last rest left steps e f r c =
    let P : Place → Type 0 = λ p. Reads limits p (rest ++ more) steps last left in
    let R : List ℕ → Type 0 = λ l. Reads limits BodyEnd (l ++ more) steps last left in
    let w = whole_stays limits (after ++ more) steps last left c.more other (subst R e.1 (subst P e.0 r)) f c.same in
    (none_more events others c.more c.splits w.0, w.1)
state_stays limits more events others (faulty why) other end last rest left steps e f r c =
    let b = bad_stays c.more other why (shown steps) c.same in
    (none_more events others c.more c.splits b.0, b.1)

plain_grows : (limits : Limits) (framing : Framing) (bytes more : List ℕ) (events others : List Incoming) (state other : BodyState) → framing ≢ Upgrade
    → ReadsBody limits framing bytes events state → ReadsBody limits framing (bytes ++ more) others other → Grows more events state others other
plain_grows limits framing bytes more events others state other plain x y =
    let a = run_of_body limits (body_place framing) bytes events state (body_goes limits limits.block_in_range.0 framing bytes events state plain x) in
    let b = run_of_body limits (body_place framing) (bytes ++ more) others other (body_goes limits limits.block_in_range.0 framing (bytes ++ more) others other plain y) in
    let f = run_goes_on limits (body_place framing) bytes more a.steps a.end a.rest b.steps b.end b.rest a.reads b.reads (only_whole limits other b.end b.rest b.ends)
    (subst no_whole (sym a.shows) (marked_no_whole events state)) in
    let both : map Event others ++ mark other ≡ map Event events ++ (mark state ++ shown f.items_after) =
    sym b.shows ∙ ap shown f.splits ∙ shown-append a.steps f.items_after ∙ ap (λ (l : List Next). l ++ shown f.items_after) a.shows
    ∙ append_assoc (map Event events) (mark state) (shown f.items_after) in
    let c = continues events others (mark state ++ shown f.items_after) other both in
    record { first = (c.more, c.splits); stays = state_stays limits more events others state other a.end b.end a.rest b.rest f.items_after a.ends b.ends f.reads c }

-- after an opening handshake nothing is due, and what stands after it grows
frames_grow : (bytes more : List ℕ) (events others : List Incoming) (state other : BodyState) → (events ≡ []) × (state ≡ complete bytes)
    → (others ≡ []) × (other ≡ complete (bytes ++ more)) → Grows more events state others other
frames_grow bytes more events others state other x y = record {
  first = ([], append-nil events ∙ x.0 ∙ sym y.0);
  stays = subst (λ (s : BodyState). StaysAs s more events others other) (sym x.1) (y.0 ∙ sym x.0, y.1);
}

pub body_grows : (limits : Limits) (framing : Framing) (bytes more : List ℕ) (events others : List Incoming) (state other : BodyState)
    → ReadsBody limits framing bytes events state → ReadsBody limits framing (bytes ++ more) others other → Grows more events state others other
body_grows limits (Length n) bytes more events others state other x y = plain_grows limits (Length n) bytes more events others state other (λ e. cc) x y
body_grows limits Chunked bytes more events others state other x y = plain_grows limits Chunked bytes more events others state other (λ e. cc) x y
body_grows limits Upgrade bytes more events others state other x y = frames_grow bytes more events others state other x y

-- ---- one body

same_lists : (a b : List Incoming) → IsPrefix a b → IsPrefix b a → a ≡ b
same_lists [] [] p q = refl
same_lists [] (x ∷ b) p q = absurd (cc q.1)
same_lists (x ∷ a) [] p q = absurd (cc p.1)
same_lists (x ∷ a) (y ∷ b) p q =
    let first : x ≡ y = cc in
    let on = same_lists a b (p.0, cc p.1) (q.0, cc q.1) in
    ap (λ (z : Incoming). z ∷ a) first ∙ ap (λ (l : List Incoming). y ∷ l) on

same_states : (a b : BodyState) (x y : List Incoming) → StaysAs a [] x y b → StaysAs b [] y x a → a ≡ b
same_states partial partial x y s t = refl
same_states partial (complete after) x y s t = t.1 ∙ ap complete (append-nil after)
same_states partial (faulty why) x y s t = t.1
same_states (complete after) b x y s t = sym (s.1 ∙ ap complete (append-nil after))
same_states (faulty why) b x y s t = sym s.1

pub body_is_one : (limits : Limits) (framing : Framing) (bytes : List ℕ) (events others : List Incoming) (state other : BodyState)
    → ReadsBody limits framing bytes events state → ReadsBody limits framing bytes others other → (events ≡ others) × (state ≡ other)
body_is_one limits framing bytes events others state other x y =
    let at : bytes ++ [] ≡ bytes = append-nil bytes in
    let a = body_grows limits framing bytes [] events others state other x (subst (λ (l : List ℕ). ReadsBody limits framing l others other) (sym at) y) in
    let b = body_grows limits framing bytes [] others events other state y (subst (λ (l : List ℕ). ReadsBody limits framing l events state) (sym at) x) in
    (same_lists events others a.first b.first, same_states state other events others a.stays b.stays)
