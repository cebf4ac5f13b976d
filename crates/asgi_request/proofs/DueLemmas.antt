-- What a reader gave after a head is what is due of the body.
use Rattle.std.proofs.Common.{◌≡◌, ◌≢◌, ℕ, List, [], ◌∷◌, ◌++◌, ◌⊎◌, inl, inr, map, refl, sym, ap, ◌∙◌, append_assoc, append-nil, subst, Option, Some}
use mathlib.Core.List.{IsPrefix}
use Rattle.asgi_types.specs.declared.facts.Facts.{Facts}
use Rattle.asgi_types.specs.declared.facts.Framing.{Framing}
use Rattle.asgi_types.specs.declared.facts.Framing.TheVariants.{Upgrade}
use Rattle.asgi_types.specs.declared.incoming.Incoming.{Incoming}
use Rattle.asgi_types.specs.declared.limits.Limits.{Limits}
use Rattle.asgi_types.specs.declared.scope.Scope.{Scope}
use Rattle.asgi_request.specs.declared.next.Next.{Next}
use Rattle.asgi_request.specs.declared.next.Next.TheVariants.{Event, Whole, Bad, Head}
use Rattle.asgi_request.specs.declared.place.Place.{Place}
use Rattle.asgi_request.specs.declared.place.Place.TheVariants.{Start, BodyEnd}
use Rattle.asgi_request.specs.Places.{Judged}
use Rattle.asgi_request.specs.declared.refusal.Refusal.{Refusal}
use Rattle.asgi_request.specs.Refusals.{status_of}
use Rattle.asgi_request.specs.ChunkedBody.{BodyState, partial, complete, faulty}
use Rattle.asgi_request.specs.Fronts.{unfinished}
use Rattle.asgi_request.specs.RequestEvents.{ReadsBody}
use Rattle.asgi_request.specs.Results.{GivesResults}
use Rattle.asgi_request.specs.Places.{front, body_place, Reads, shown, Reaches, gives}
use Rattle.asgi_request.proofs.BackwardLemmas.{Goes, goes_on, one, takes_found}
use Rattle.asgi_request.proofs.UniqueLemmas.{same_turn, same_rest, judged_known, shown-append}
use Rattle.asgi_request.proofs.ResultsLemmas.{results_of}
use Rattle.asgi_request.proofs.ResultsLemmas.{body_goes}
use Rattle.asgi_request.proofs.BodyGrowthLemmas.{no_whole, mark, ends_as, BodyRun, run_of_body, marked_no_whole, only_whole, continues, nothing_more, no_front, none_more, Further}

-- ---- where the reader stands

-- after these results a body framed that way is due
abbrev pub OpensAt : Limits → List ℕ → List Next → Framing → List ℕ → Type 0
OpensAt limits bytes opened framing arrived = Reaches limits bytes opened (body_place framing) arrived

-- after these results a head is due
abbrev pub ClosesAt : Limits → List ℕ → List Next → List ℕ → Type 0
ClosesAt limits bytes closed after = Reaches limits bytes closed Start after

-- ---- two runs over the same bytes

pub runs_compare : (limits : Limits) (place : Place) (bytes : List ℕ) (a : List (Option Next)) (end : Place) (rest : List ℕ) (b : List (Option Next)) (last : Place) (left : List ℕ)
    → Reads limits place bytes a end rest → Reads limits place bytes b last left
    → Further limits a end rest b last left ⊎ Further limits b last left a end rest
runs_compare limits place bytes [] end rest b last left r q =
    let P : Place → Type 0 = λ p. Reads limits p bytes b last left in
    let R : List ℕ → Type 0 = λ l. Reads limits end l b last left in
    inl (record { items_after = b; splits = refl; reads = subst R r.1 (subst P r.0 q) })
runs_compare limits place bytes (x ∷ a) end rest [] last left r q =
    let P : Place → Type 0 = λ p. Reads limits p bytes (x ∷ a) end rest in
    let R : List ℕ → Type 0 = λ l. Reads limits last l (x ∷ a) end rest in
    inr (record { items_after = x ∷ a; splits = refl; reads = subst R q.1 (subst P q.0 r) })
runs_compare limits place bytes (x ∷ a) end rest (y ∷ b) last left r q =
    let s : Judged = record { item = x; place = r.0 } in
    let t : Judged = record { item = y; place = q.0 } in
    let turns = same_turn limits place (front limits place bytes) s t r.2.judged q.2.judged in
    let rests = same_rest limits place bytes s t r.1 q.1 r.2 q.2 in
    let places : r.0 ≡ q.0 = ap (λ (u : Judged). u.place) turns in
    let items : x ≡ y = ap (λ (u : Judged). u.item) turns in
    let P : Place → Type 0 = λ p. Reads limits p q.1 b last left in
    let R : List ℕ → Type 0 = λ l. Reads limits r.0 l b last left in
    on items (runs_compare limits r.0 r.1 a end rest b last left r.3 (subst R (sym rests) (subst P (sym places) q.3)))
  where
    on : x ≡ y → Further limits a end rest b last left ⊎ Further limits b last left a end rest
        → Further limits (x ∷ a) end rest (y ∷ b) last left ⊎ Further limits (y ∷ b) last left (x ∷ a) end rest
    on e (inl f) = inl (record {
      items_after = f.items_after;
      splits = ap (λ (o : Option Next). o ∷ b) (sym e) ∙ ap (λ (l : List (Option Next)). x ∷ l) f.splits;
      reads = f.reads;
    })
    on e (inr f) = inr (record {
      items_after = f.items_after;
      splits = ap (λ (o : Option Next). o ∷ a) e ∙ ap (λ (l : List (Option Next)). y ∷ l) f.splits;
      reads = f.reads;
    })

-- ---- what was given after the head

pub same_after : (a b c : List Next) → a ++ b ≡ a ++ c → b ≡ c
same_after [] b c e = e
same_after (x ∷ a) b c e = same_after a b c cc

-- Of a body's events and their end some were given, or all of them and then that the request is whole.
data IsGiven (due : List Incoming) (state : BodyState) (given : List Next) : Type 0 where
  within : (tail : List Next) → map Event due ++ mark state ≡ given ++ tail → IsGiven due state given
  beyond : (after : List ℕ) (tail : List Next) → state ≡ complete after → given ≡ map Event due ++ Whole ∷ tail → IsGiven due state given

pub not_further : (limits : Limits) (end : Place) (rest : List ℕ) (items : List (Option Next)) (last : Place) (left : List ℕ) → front limits end rest ≡ unfinished
    → Reads limits end rest items last left → items ≡ []
not_further limits end rest [] last left e r = refl
not_further limits end rest (x ∷ items) last left e r = absurd (judged_known limits end rest (record { item = x; place = r.0 }) r.1 r.2 e)

given_of : (limits : Limits) (bytes : List ℕ) (opened given : List Next) (framing : Framing) (arrived : List ℕ) (due : List Incoming) (state : BodyState) (place : Place) (held : List ℕ)
    → OpensAt limits bytes opened framing arrived → framing ≢ Upgrade → ReadsBody limits framing arrived due state → Reaches limits bytes (opened ++ given) place held → IsGiven due state given
unfolding mark ends_as
given_of limits bytes opened given framing arrived due state place held x plain body r = by (runs_compare limits Start bytes r.steps place held c.steps b.end b.rest r.reads c.reads)
  where
    b : BodyRun limits (body_place framing) arrived due state
    b = run_of_body limits (body_place framing) arrived due state (body_goes limits limits.block_in_range.0 framing arrived due state plain body)

    c : Goes limits Start bytes (opened ++ (map Event due ++ mark state)) b.end b.rest
    c = goes_on limits Start bytes opened (body_place framing) arrived (map Event due ++ mark state) b.end b.rest
        (record { steps = x.steps; reads = x.reads; shows = x.shows }) (record { steps = b.steps; reads = b.reads; shows = b.shows })

    on : (s : BodyState) (end : Place) (rest : List ℕ) (items : List (Option Next)) → ends_as limits s end rest → Reads limits end rest items place held
        → given ≡ (map Event due ++ mark s) ++ shown items → IsGiven due s given
    on partial end rest items e q g = within [] (sym (g ∙ ap (λ (l : List (Option Next)). (map Event due ++ []) ++ shown l) (not_further limits end rest items place held e q) ∙ append-nil (map Event due ++ [])) ∙ sym (append-nil given))
    on (faulty why) end rest items e q g =
        within [] (sym (g ∙ ap (λ (l : List (Option Next)). (map Event due ++ mark (faulty why)) ++ shown l) (not_further limits end rest items place held e q) ∙ append-nil (map Event due ++ mark (faulty why))) ∙ sym (append-nil given))
    on (complete after) end rest [] e q g = within [] (sym (g ∙ append-nil (map Event due ++ [])) ∙ sym (append-nil given))
    on (complete after) end rest (item ∷ items) e q g =
        let w : item ≡ Some Whole = only_whole limits (complete after) end rest e item q.0 q.1 q.2 in
        beyond after (shown items) refl
        (g ∙ ap (λ (l : List Next). l ++ shown (item ∷ items)) (append-nil (map Event due)) ∙ ap (λ (o : Option Next). map Event due ++ shown (o ∷ items)) w)

    by : Further limits r.steps place held c.steps b.end b.rest ⊎ Further limits c.steps b.end b.rest r.steps place held → IsGiven due state given
    by (inl f) = within (shown f.items_after)
        (same_after opened (map Event due ++ mark state) (given ++ shown f.items_after)
        (sym c.shows ∙ ap shown f.splits ∙ shown-append r.steps f.items_after ∙ ap (λ (l : List Next). l ++ shown f.items_after) r.shows
        ∙ append_assoc opened given (shown f.items_after)))
    by (inr f) = on state b.end b.rest f.items_after b.ends f.reads
        (same_after opened given ((map Event due ++ mark state) ++ shown f.items_after)
        (sym r.shows ∙ ap shown f.splits ∙ shown-append c.steps f.items_after ∙ ap (λ (l : List Next). l ++ shown f.items_after) c.shows
        ∙ append_assoc opened (map Event due ++ mark state) (shown f.items_after)))

-- ---- lists of results

whole_there : (due : List Incoming) (tail : List Next) → no_whole (map Event due ++ Whole ∷ tail) → ⊥
unfolding no_whole
whole_there [] tail n = n
whole_there (e ∷ due) tail n = whole_there due tail n

events_no_whole : (events : List Incoming) → no_whole (map Event events)
unfolding no_whole
events_no_whole [] = tt
events_no_whole (e ∷ events) = events_no_whole events

refused_no_whole : (events : List Incoming) (status : ℕ) → no_whole (map Event events ++ Bad status ∷ [])
unfolding no_whole
refused_no_whole [] status = tt
refused_no_whole (e ∷ events) status = refused_no_whole events status

head_no_whole : (events : List Incoming) (scope : Scope) (facts : Facts) → no_whole (map Event events ++ Head scope facts ∷ [])
unfolding no_whole
head_no_whole [] scope facts = tt
head_no_whole (e ∷ events) scope facts = head_no_whole events scope facts

whole_at : (events due : List Incoming) (tail : List Next) → map Event events ++ Whole ∷ [] ≡ map Event due ++ Whole ∷ tail → events ≡ due
whole_at [] [] tail e = refl
whole_at [] (y ∷ due) tail e = cc
whole_at (x ∷ events) [] tail e = cc
whole_at (x ∷ events) (y ∷ due) tail e =
    let first : Event x ≡ Event y = cc e in
    let same : x ≡ y = cc first in
    ap (λ (z : Incoming). z ∷ events) same ∙ ap (λ (l : List Incoming). y ∷ l) (whole_at events due tail (cc e))

-- the body is faulty, with this status
abbrev IsFaultyBy : ℕ → BodyState → Type 0
IsFaultyBy status state = (why : Refusal) × (state ≡ faulty why) × (status ≡ status_of why)

bad_at : (more : List Incoming) (state : BodyState) (status : ℕ) (tail : List Next) → map Event more ++ mark state ≡ Bad status ∷ tail
    → (more ≡ []) × IsFaultyBy status state
unfolding mark
bad_at (x ∷ more) state status tail e = cc
bad_at [] partial status tail e = cc
bad_at [] (complete after) status tail e = cc
bad_at [] (faulty why) status tail e =
    let first : Bad (status_of why) ≡ Bad status = cc e in
    (refl, (why, refl, cc first))

no_head_at : (more : List Incoming) (state : BodyState) (scope : Scope) (facts : Facts) (tail : List Next) → map Event more ++ mark state ≡ Head scope facts ∷ tail → ⊥
unfolding mark
no_head_at (x ∷ more) state scope facts tail e = cc
no_head_at [] partial scope facts tail e = cc
no_head_at [] (complete after) scope facts tail e = cc
no_head_at [] (faulty why) scope facts tail e = cc

-- ---- what was given is due

module _ (limits : Limits) (bytes : List ℕ) (opened : List Next) (framing : Framing) (arrived : List ℕ) (due : List Incoming) (state : BodyState)
    (place : Place) (held : List ℕ) (x : OpensAt limits bytes opened framing arrived) (plain : framing ≢ Upgrade) (body : ReadsBody limits framing arrived due state) where
  pub events_are_due : (events : List Incoming) → Reaches limits bytes (opened ++ map Event events) place held → IsPrefix events due
  events_are_due events r = by (given_of limits bytes opened (map Event events) framing arrived due state place held x plain body r)
    where
      by : IsGiven due state (map Event events) → IsPrefix events due
      by (within tail e) = let c = continues events due tail state e in (c.more, c.splits)
      by (beyond after tail e g) = absurd (whole_there due tail (subst no_whole g (events_no_whole events)))

  pub whole_is_complete : (events : List Incoming) → Reaches limits bytes (opened ++ (map Event events ++ Whole ∷ [])) place held
      → (events ≡ due) × ((after : List ℕ) × (state ≡ complete after))
  whole_is_complete events r = by (given_of limits bytes opened (map Event events ++ Whole ∷ []) framing arrived due state place held x plain body r)
    where
      by : IsGiven due state (map Event events ++ Whole ∷ []) → (events ≡ due) × ((after : List ℕ) × (state ≡ complete after))
      by (within tail e) = absurd (whole_there events tail (subst no_whole (e ∙ append_assoc (map Event events) (Whole ∷ []) tail) (marked_no_whole due state)))
      by (beyond after tail e g) = (whole_at events due tail g, (after, e))

  pub bad_is_faulty : (events : List Incoming) (status : ℕ) → Reaches limits bytes (opened ++ (map Event events ++ Bad status ∷ [])) place held
      → (events ≡ due) × IsFaultyBy status state
  bad_is_faulty events status r = by (given_of limits bytes opened (map Event events ++ Bad status ∷ []) framing arrived due state place held x plain body r)
    where
      by : IsGiven due state (map Event events ++ Bad status ∷ []) → (events ≡ due) × IsFaultyBy status state
      by (within tail e) =
          let c = continues events due (Bad status ∷ tail) state (e ∙ append_assoc (map Event events) (Bad status ∷ []) tail) in
          let f = bad_at c.more state status tail c.same in
          (sym (none_more events due c.more c.splits f.0), f.1)
      by (beyond after tail e g) = absurd (whole_there due tail (subst no_whole g (refused_no_whole events status)))

  -- inside a body the reader gives no head
  pub no_head : (events : List Incoming) (scope : Scope) (facts : Facts) → Reaches limits bytes (opened ++ (map Event events ++ Head scope facts ∷ [])) place held → ⊥
  no_head events scope facts r = by (given_of limits bytes opened (map Event events ++ Head scope facts ∷ []) framing arrived due state place held x plain body r)
    where
      by : IsGiven due state (map Event events ++ Head scope facts ∷ []) → ⊥
      by (within tail e) =
          let c = continues events due (Head scope facts ∷ tail) state (e ∙ append_assoc (map Event events) (Head scope facts ∷ []) tail) in
          no_head_at c.more state scope facts tail c.same
      by (beyond after tail e g) = whole_there due tail (subst no_whole g (head_no_whole events scope facts))

marked_there : (l : List Incoming) (s : BodyState) (tail : List Next) → no_whole ((map Event l ++ mark s) ++ Whole ∷ tail) → ⊥
unfolding no_whole mark
marked_there [] partial tail n = n
marked_there [] (complete after) tail n = n
marked_there [] (faulty why) tail n = n
marked_there (z ∷ l) s tail n = marked_there l s tail n

-- if the reader needs more, all was given, and the body is partial
waits_at : (limits : Limits) (bytes : List ℕ) (opened : List Next) (framing : Framing) (arrived : List ℕ) (due : List Incoming) (state : BodyState)
    (place : Place) (held : List ℕ) (events : List Incoming) → OpensAt limits bytes opened framing arrived → framing ≢ Upgrade → ReadsBody limits framing arrived due state
    → Reaches limits bytes (opened ++ map Event events) place held → front limits place held ≡ unfinished → (events ≡ due) × (state ≡ partial)
unfolding mark ends_as
waits_at limits bytes opened framing arrived due state place held events x plain body r waits = by (runs_compare limits Start bytes c.steps b.end b.rest r.steps place held c.reads r.reads)
  where
    b : BodyRun limits (body_place framing) arrived due state
    b = run_of_body limits (body_place framing) arrived due state (body_goes limits limits.block_in_range.0 framing arrived due state plain body)

    c : Goes limits Start bytes (opened ++ (map Event due ++ mark state)) b.end b.rest
    c = goes_on limits Start bytes opened (body_place framing) arrived (map Event due ++ mark state) b.end b.rest
        (record { steps = x.steps; reads = x.reads; shows = x.shows }) (record { steps = b.steps; reads = b.reads; shows = b.shows })

    -- the body's run ends where the reader's does
    ends : (s : BodyState) (end : Place) (rest : List ℕ) → ends_as limits s end rest → (place ≡ end) → (held ≡ rest) → map Event due ++ mark s ≡ map Event events → (events ≡ due) × (s ≡ partial)
    ends partial end rest e p h g =
        let k = continues events due [] partial (g ∙ sym (append-nil (map Event events))) in
        (sym (none_more events due k.more k.splits (nothing_more k.more partial k.same)), refl)
    ends (complete after) end rest e p h g = absurd (no_front limits place held (p ∙ e.0) waits)
    ends (faulty why) end rest e p h g = absurd (
        let k = continues events due [] (faulty why) (g ∙ sym (append-nil (map Event events))) in
        let n = nothing_more k.more (faulty why) k.same in
        let last : map Event [] ++ mark (faulty why) ≡ [] = ap (λ (l : List Incoming). map Event l ++ mark (faulty why)) (sym n) ∙ k.same in
        cc)

    joined : (items : List (Option Next)) → items ≡ [] → (front_ : List (Option Next)) → front_ ++ items ≡ front_
    joined items e front_ = ap (λ (l : List (Option Next)). front_ ++ l) e ∙ append-nil front_

    shows_of : c.steps ≡ r.steps → map Event due ++ mark state ≡ map Event events
    shows_of e = same_after opened (map Event due ++ mark state) (map Event events) (sym c.shows ∙ ap shown e ∙ r.shows)

    on : (s : BodyState) (end : Place) (rest : List ℕ) (items : List (Option Next)) → ends_as limits s end rest → Reads limits end rest items place held
        → map Event events ≡ (map Event due ++ mark s) ++ shown items → items ≡ []
    on s end rest [] e q g = refl
    on s end rest (item ∷ items) e q g =
        let w : item ≡ Some Whole = only_whole limits s end rest e item q.0 q.1 q.2 in
        absurd (marked_there due s (shown items) (subst no_whole (g ∙ ap (λ (o : Option Next). (map Event due ++ mark s) ++ shown (o ∷ items)) w) (events_no_whole events)))

    by : Further limits c.steps b.end b.rest r.steps place held ⊎ Further limits r.steps place held c.steps b.end b.rest → (events ≡ due) × (state ≡ partial)
    by (inl f) =
        let g = same_after opened (map Event events) ((map Event due ++ mark state) ++ shown f.items_after)
        (sym r.shows ∙ ap shown f.splits ∙ shown-append c.steps f.items_after ∙ ap (λ (l : List Next). l ++ shown f.items_after) c.shows
        ∙ append_assoc opened (map Event due ++ mark state) (shown f.items_after)) in
        let n = on state b.end b.rest f.items_after b.ends f.reads g in
        let P : List (Option Next) → Type 0 = λ l. Reads limits b.end b.rest l place held in
        let q : Reads limits b.end b.rest [] place held = subst P n f.reads in
        ends state b.end b.rest b.ends (sym q.0) (sym q.1) (shows_of (sym (f.splits ∙ joined f.items_after n c.steps)))
    by (inr f) =
        let n = not_further limits place held f.items_after b.end b.rest waits f.reads in
        let P : List (Option Next) → Type 0 = λ l. Reads limits place held l b.end b.rest in
        let q : Reads limits place held [] b.end b.rest = subst P n f.reads in
        ends state b.end b.rest b.ends q.0 q.1 (shows_of (f.splits ∙ joined f.items_after n r.steps))

pub need_is_partial : (limits : Limits) (bytes : List ℕ) (opened : List Next) (framing : Framing) (arrived : List ℕ) (due : List Incoming) (state : BodyState) (events : List Incoming) (rest : List ℕ)
    → OpensAt limits bytes opened framing arrived → framing ≢ Upgrade → ReadsBody limits framing arrived due state → GivesResults limits bytes (opened ++ map Event events) rest → (events ≡ due) × (state ≡ partial)
need_is_partial limits bytes opened framing arrived due state events rest x plain body g =
    let r = results_of limits limits.block_in_range.0 bytes (opened ++ map Event events) rest g in
    waits_at limits bytes opened framing arrived due state r.place r.rest events x plain body r.reaches r.waits

-- after a whole body the request is whole, and the next head is due in what stands after it
pub whole_goes_on : (limits : Limits) (bytes : List ℕ) (opened : List Next) (framing : Framing) (arrived : List ℕ) (events : List Incoming) (after : List ℕ)
    → OpensAt limits bytes opened framing arrived → framing ≢ Upgrade → ReadsBody limits framing arrived events (complete after)
    → Reaches limits bytes (opened ++ (map Event events ++ Whole ∷ [])) Start after
whole_goes_on limits bytes opened framing arrived events after x plain body =
    let last = one limits BodyEnd after (Some Whole) Start after (takes_found limits BodyEnd after [] after (gives Whole Start) refl refl refl) in
    let on = goes_on limits (body_place framing) arrived (map Event events) BodyEnd after (Whole ∷ []) Start after (body_goes limits limits.block_in_range.0 framing arrived events (complete after) plain body) last in
    let all = goes_on limits Start bytes opened (body_place framing) arrived (map Event events ++ Whole ∷ []) Start after (record { steps = x.steps; reads = x.reads; shows = x.shows }) on in
    record { steps = all.steps; reads = all.reads; shows = all.shows }
