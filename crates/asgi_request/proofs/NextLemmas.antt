-- After a whole request stands the next head.
use Rattle.std.proofs.Common.{◌≡◌, ◌≢◌, ℕ, List, [], ◌∷◌, ◌++◌, ◌⊎◌, inl, inr, refl, sym, ap, ◌∙◌, append_assoc, append-nil, subst, Option, Some, None, Result, Ok, Err}
use Rattle.asgi_types.specs.declared.facts.Facts.{Facts}
use Rattle.asgi_types.specs.declared.facts.Framing.{Framing}
use Rattle.asgi_types.specs.declared.facts.Framing.TheVariants.{Upgrade}
use Rattle.asgi_types.specs.declared.limits.Limits.{Limits}
use Rattle.asgi_types.specs.declared.scope.Scope.{Scope}
use Rattle.httparse.specs.Grammar.{RequestHead}
use Rattle.asgi_request.specs.declared.head.HeadRecord.{HeadRecord}
use Rattle.asgi_request.specs.declared.next.Next.{Next}
use Rattle.asgi_request.specs.declared.next.Next.TheVariants.{Head}
use Rattle.asgi_request.specs.declared.place.Place.{Place}
use Rattle.asgi_request.specs.declared.place.Place.TheVariants.{Start}
use Rattle.asgi_request.specs.Places.{Judged}
use Rattle.asgi_request.specs.declared.refusal.Refusal.{Refusal}
use Rattle.asgi_request.specs.Texts.{IsFirstWithin}
use Rattle.asgi_request.specs.HeadText.{EndsAsHead}
use Rattle.asgi_request.specs.Head.{IsHeadOf, ParsesHead, record_of}
use Rattle.asgi_request.specs.RequestFraming.{request_framing}
use Rattle.asgi_request.specs.Scopes.{scope_of, facts_of}
use Rattle.asgi_request.specs.Fronts.{Front, found, too_long, unfinished, front_text, head_len}
use Rattle.asgi_request.specs.Places.{front, body_place, after_framing, after_head, Judges, Takes, Reads, shown, Reaches}
use Rattle.asgi_request.proofs.TextLemmas.{tells, head_search_for}
use Rattle.asgi_request.proofs.UniqueLemmas.{shown-append}
use Rattle.asgi_request.specs.Opened.{BeginsWith, BeginsWithHandshake}
use Rattle.asgi_request.specs.Results.{ReadsHead}
use Rattle.asgi_request.proofs.BodyGrowthLemmas.{Further}
use Rattle.asgi_request.proofs.DueLemmas.{OpensAt, runs_compare, same_after}

-- the bytes begin with a head that gives this scope and these facts, of a request or an opening handshake
pub record BeginsWithHead (limits : Limits) (bytes : List ℕ) (scope : Scope) (facts : Facts) (rest : List ℕ) : Type 0 where
  pub head : RequestHead
  pub reads : ReadsHead limits bytes head facts.framing rest
  pub scope_is : scope ≡ scope_of (record_of head) facts.framing
  pub facts_are : facts ≡ facts_of (record_of head) facts.framing

pub begins_with : (limits : Limits) (bytes : List ℕ) (scope : Scope) (facts : Facts) (rest : List ℕ) → BeginsWithHead limits bytes scope facts rest
    → facts.framing ≢ Upgrade → BeginsWith limits bytes scope facts rest
begins_with limits bytes scope facts rest x plain = record { head = x.head; reads = x.reads; plain = plain; scope_is = x.scope_is; facts_are = x.facts_are }

pub begins_with_handshake : (limits : Limits) (bytes : List ℕ) (scope : Scope) (facts : Facts) (rest : List ℕ) → BeginsWithHead limits bytes scope facts rest
    → facts.framing ≡ Upgrade → BeginsWithHandshake limits bytes scope facts rest
begins_with_handshake limits bytes scope facts rest x e =
    let R : Framing → Type 0 = λ f. ReadsHead limits bytes x.head f rest in
    let S : Framing → Type 0 = λ f. scope ≡ scope_of (record_of x.head) f in
    let F : Framing → Type 0 = λ f. facts ≡ facts_of (record_of x.head) f in
    record { head = x.head; reads = subst R e x.reads; scope_is = subst S e x.scope_is; facts_are = subst F e x.facts_are }

-- what a turn before a head shows of the head that it gives
abbrev Tells : Limits → List ℕ → List ℕ → Option Next → Place → Type 0
Tells limits bytes rest item place = (scope : Scope) (facts : Facts) → item ≡ Some (Head scope facts) → BeginsWithHead limits bytes scope facts rest × (place ≡ body_place facts.framing)

abbrev TurnTells : Limits → List ℕ → List ℕ → Judged → Type 0
TurnTells limits bytes rest turn = Tells limits bytes rest turn.item turn.place

framing_tells : (limits : Limits) (bytes text rest : List ℕ) (head : RequestHead) → IsFirstWithin EndsAsHead limits.max_head bytes text rest → IsHeadOf limits.max_headers text head
    → (f : Result Framing Refusal) → request_framing (record_of head) limits ≡ f → TurnTells limits bytes rest (after_framing (record_of head) f)
framing_tells limits bytes text rest head x is (Err why) e = λ scope facts i. cc
framing_tells limits bytes text rest head x is (Ok framing) e = λ scope facts i. (
    let given : Head (scope_of (record_of head) framing) (facts_of (record_of head) framing) ≡ Head scope facts = cc i in
    let scopes : scope_of (record_of head) framing ≡ scope = cc given in
    let facts_same : facts_of (record_of head) framing ≡ facts = cc given in
    let framings : framing ≡ facts.framing = ap (λ (f : Facts). f.framing) facts_same in (
      record {
        head = head;
        reads = record { text = text; text_is = x; head_is = is; framing_is = e ∙ ap (λ (f : Framing). Ok f) framings };
        scope_is = sym scopes ∙ ap (scope_of (record_of head)) framings;
        facts_are = sym facts_same ∙ ap (facts_of (record_of head)) framings;
      },
      ap body_place framings,
    )
    )

head_tells : (limits : Limits) (bytes text rest : List ℕ) → IsFirstWithin EndsAsHead limits.max_head bytes text rest → (o : Option HeadRecord) → ParsesHead limits.max_headers text o
    → TurnTells limits bytes rest (after_head limits o)
head_tells limits bytes text rest x None parses = λ scope facts i. cc
head_tells limits bytes text rest x (Some r) parses =
    subst (λ (h : HeadRecord). TurnTells limits bytes rest (after_head limits (Some h))) (sym parses.2)
    (framing_tells limits bytes text rest parses.0 x parses.1 (request_framing (record_of parses.0) limits) refl)

pub turn_tells : (limits : Limits) (bytes rest : List ℕ) (turn : Judged) → Takes limits Start bytes turn rest → TurnTells limits bytes rest turn
turn_tells limits bytes rest turn takes = by (front limits Start bytes) refl takes.splits takes.judged
  where
    by : (f : Front) → front limits Start bytes ≡ f → bytes ≡ front_text f ++ rest → Judges limits Start f turn → TurnTells limits bytes rest turn
    by (found text) e split j =
        let t = tells EndsAsHead head_len head_search_for limits.max_head bytes (found text) e in
        subst (λ (x : Judged). TurnTells limits bytes rest x) (sym j.2) (head_tells limits bytes text rest (t rest split) j.0 j.1)
    by too_long e split j = subst (λ (x : Judged). TurnTells limits bytes rest x) (sym j) (λ scope facts i. cc)
    by unfinished e split j = absurd j

-- a turn before a head gives a result
pub some_item : (limits : Limits) (bytes rest : List ℕ) (mid : Place) → Takes limits Start bytes (record { item = None; place = mid }) rest → ⊥
some_item limits bytes rest mid takes = by (front limits Start bytes) takes.judged
  where
    framed : (r : HeadRecord) (f : Result Framing Refusal) → None ≡ (after_framing r f).item → ⊥
    framed r (Ok framing) e = cc
    framed r (Err why) e = cc

    headed : (o : Option HeadRecord) → None ≡ (after_head limits o).item → ⊥
    headed None e = cc
    headed (Some r) e = framed r (request_framing r limits) e

    by : (f : Front) → Judges limits Start f (record { item = None; place = mid }) → ⊥
    by (found text) j = headed j.0 (ap (λ (t : Judged). t.item) j.2)
    by too_long j = let never = ap (λ (t : Judged). t.item) j in cc
    by unfinished j = j

pub next_head : (limits : Limits) (bytes : List ℕ) (given : List Next) (after : List ℕ) (place : Place) (held : List ℕ) (scope : Scope) (facts : Facts) (more : List Next)
    → Reaches limits bytes given Start after → Reaches limits bytes (given ++ Head scope facts ∷ more) place held
    → (arrived : List ℕ) × BeginsWithHead limits after scope facts arrived × OpensAt limits bytes (given ++ Head scope facts ∷ []) facts.framing arrived
next_head limits bytes given after place held scope facts more x r = by (runs_compare limits Start bytes x.steps Start after r.steps place held x.reads r.reads)
  where
    on : (items : List (Option Next)) → Reads limits Start after items place held → Head scope facts ∷ more ≡ shown items
        → (arrived : List ℕ) × BeginsWithHead limits after scope facts arrived × Reads limits Start after (Some (Head scope facts) ∷ []) (body_place facts.framing) arrived
    on [] q e = cc
    on (None ∷ items) q e = absurd (some_item limits after q.1 q.0 q.2)
    on (Some item ∷ items) q e =
        let first : item ≡ Head scope facts = cc e in
        let t = turn_tells limits after q.1 (record { item = Some item; place = q.0 }) q.2 scope facts (ap (λ (i : Next). Some i) first) in
        let P : Next → Type 0 = λ i. Takes limits Start after (record { item = Some i; place = q.0 }) q.1 in
        (q.1, t.0, (q.0, q.1, subst P first q.2, (t.1, refl)))

    then_reads : (p : Place) (b : List ℕ) (a : List (Option Next)) (mid : Place) (middle : List ℕ) (s : List (Option Next)) (end : Place) (rest : List ℕ)
        → Reads limits p b a mid middle → Reads limits mid middle s end rest → Reads limits p b (a ++ s) end rest
    then_reads p b [] mid middle s end rest y z =
        let P : Place → Type 0 = λ v. Reads limits v middle s end rest in
        let R : List ℕ → Type 0 = λ l. Reads limits p l s end rest in
        subst R (sym y.1) (subst P (sym y.0) z)
    then_reads p b (i ∷ a) mid middle s end rest y z = (y.0, y.1, y.2, then_reads y.0 y.1 a mid middle s end rest y.3 z)

    by : Further limits x.steps Start after r.steps place held ⊎ Further limits r.steps place held x.steps Start after
        → (arrived : List ℕ) × BeginsWithHead limits after scope facts arrived × OpensAt limits bytes (given ++ Head scope facts ∷ []) facts.framing arrived
    by (inl f) =
        let e = same_after given (Head scope facts ∷ more) (shown f.items_after)
        (sym r.shows ∙ ap shown f.splits ∙ shown-append x.steps f.items_after ∙ ap (λ (l : List Next). l ++ shown f.items_after) x.shows) in
        let o = on f.items_after f.reads e in (
          o.0,
          o.1,
          record {
            steps = x.steps ++ Some (Head scope facts) ∷ [];
            reads = then_reads Start bytes x.steps Start after (Some (Head scope facts) ∷ []) (body_place facts.framing) o.0 x.reads o.2;
            shows = shown-append x.steps (Some (Head scope facts) ∷ []) ∙ ap (λ (l : List Next). l ++ Head scope facts ∷ []) x.shows;
          },
        )
    by (inr f) = absurd (
        let e : [] ≡ Head scope facts ∷ (more ++ shown f.items_after) =
        same_after given [] (Head scope facts ∷ (more ++ shown f.items_after))
        (append-nil given ∙ sym x.shows ∙ ap shown f.splits ∙ shown-append r.steps f.items_after ∙ ap (λ (l : List Next). l ++ shown f.items_after) r.shows
        ∙ append_assoc given (Head scope facts ∷ more) (shown f.items_after)) in
        cc)
