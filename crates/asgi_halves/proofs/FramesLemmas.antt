-- The bytes that a reader of requests holds after an opening handshake are the first of its frames.
use Rattle.asgi_halves.proofs.HalfWords.{◌≡◌, ◌≢◌, ℕ, List, [], ◌∷◌, ◌++◌, inl, inr, refl, sym, ap, ◌∙◌, subst, Option, append_assoc, append-nil, Facts, Limits, Scope, Next, Reading, StandsFor}
use Rattle.asgi_request.proofs.BackwardLemmas.{Goes, goes_on}
use Rattle.asgi_request.proofs.DueLemmas.{runs_compare, same_after}
use Rattle.asgi_request.proofs.OpenedLemmas.{closed_not_upgraded}
use Rattle.asgi_request.proofs.ResultsLemmas.{requests_go, handshake_goes, given_of}
use Rattle.asgi_request.specs.{Opened.BeginsWithHandshake, Opened.HasClosed, Places.Reads, Places.Reaches, Reading.AllGiven, Reading.GoesOn, Reading.IsRefused, Reading.WholeGiven}
use Rattle.asgi_request.specs.{Results.GivesResults, Results.ReadsHandshake, declared.refusal.Refusal.Refusal}
use Rattle.asgi_request.specs.declared.next.Next.TheVariants.{Need, Head, Whole}
use Rattle.asgi_request.specs.declared.place.Place.{Place, TheVariants.Start, TheVariants.Stopped, TheVariants.Upgraded}
use Rattle.std.specs.List.{flat_map}

-- ---- no further request is due once frames are due, and none after a refusal

ends_up : (limits : Limits) (bytes : List ℕ) (items : List (Option Next)) (end : Place) (rest : List ℕ) → Reads limits Upgraded bytes items end rest → (Upgraded ≡ end) × (bytes ≡ rest)
ends_up limits bytes [] end rest r = r
ends_up limits bytes (item ∷ items) end rest r = absurd ((r.2).judged)

ends_stopped : (limits : Limits) (bytes : List ℕ) (items : List (Option Next)) (why : Refusal) (end : Place) (rest : List ℕ) → Reads limits (Stopped why) bytes items end rest → Stopped why ≡ end
ends_stopped limits bytes [] why end rest r = r.0
ends_stopped limits bytes (item ∷ items) why end rest r = absurd ((r.2).judged)

-- ---- after a handshake

module _ (r : Reading) (bytes : List ℕ) (given : List Next) (after : List ℕ) (scope : Scope) (facts : Facts) (frames : List ℕ)
    (closed : HasClosed r.limits bytes given after) (b : BeginsWithHandshake r.limits after scope facts frames) where
  abbrev head : Next
  head = Head scope facts

  abbrev all : List Next
  all = given ++ head ∷ Whole ∷ []

  handshake : ReadsHandshake r.limits after (head ∷ Whole ∷ []) frames
  handshake = record { head = b.head; head_is = b.reads; results_are = cc (b.scope_is, b.facts_are) }

  up : Reaches r.limits bytes all Upgraded frames
  up =
      let front : Goes r.limits Start bytes given Start after = rw closed.2 (requests_go r.limits r.limits.block_in_range.0 bytes closed.0 after closed.1) in
      let g = goes_on r.limits Start bytes given Start after (head ∷ Whole ∷ []) Upgraded frames front (handshake_goes r.limits after (head ∷ Whole ∷ []) frames handshake) in
      record { steps = g.steps; reads = g.reads; shows = g.shows }

  gives : GivesResults r.limits bytes all frames
  gives = record { requests = closed.0; after = after; last = head ∷ Whole ∷ []; whole = closed.1; goes_on = inr handshake; results_are = ap (λ (l : List Next). l ++ head ∷ Whole ∷ []) closed.2 }

  -- nothing was refused
  pub unrefused : (results : List Next) → StandsFor r bytes results → (status : ℕ) → IsRefused r status → ⊥
  unrefused results x status refused =
      elim (runs_compare r.limits Start bytes x.steps (Stopped refused.0) r.held up.steps Upgraded frames (rw refused.1 at x.reads) up.reads) [
        | inl f ↦ cc (ends_stopped r.limits r.held f.items_after refused.0 Upgraded frames f.reads)
        | inr f ↦ cc (ends_up r.limits frames f.items_after (Stopped refused.0) r.held f.reads).0
      ]

  -- only these frames are left where frames are due
  up_once : (steps : List (Option Next)) (rest : List ℕ) → Reads r.limits Start bytes steps Upgraded rest → rest ≡ frames
  up_once steps rest reads = elim (runs_compare r.limits Start bytes up.steps Upgraded frames steps Upgraded rest up.reads reads) [
    | inl f ↦ sym (ends_up r.limits frames f.items_after Upgraded rest f.reads).1
    | inr f ↦ (ends_up r.limits rest f.items_after Upgraded frames f.reads).1
  ]

  module _ (later : Reading) (same : later.limits ≡ r.limits) where
    -- after its head nothing but its end is given
    gave : (item : Next) → StandsFor later bytes (given ++ head ∷ item ∷ []) → item ≡ Whole
    gave item x =
        let z = given_of r.limits r.limits.block_in_range.0 bytes (given ++ head ∷ item ∷ []) later.place later.held all frames (rw same at x) gives in
        let tail : head ∷ Whole ∷ [] ≡ head ∷ item ∷ z.0 = same_after given (head ∷ Whole ∷ []) (head ∷ item ∷ z.0) (z.1 ∙ append_assoc given (head ∷ item ∷ []) z.0) in cc tail

    none_needed : AllGiven later bytes (given ++ head ∷ []) → ⊥
    none_needed x =
        let z = given_of r.limits r.limits.block_in_range.0 bytes all Upgraded frames (given ++ head ∷ []) x.0 up (rw same at x.1) in
        let tail : head ∷ [] ≡ head ∷ Whole ∷ z.0 = same_after given (head ∷ []) (head ∷ Whole ∷ z.0) (z.1 ∙ append_assoc given (head ∷ Whole ∷ []) z.0) in cc tail

    -- so what is given next is its end
    pub whole_is_given : (item : Next) → StandsFor r bytes (given ++ head ∷ [])
        → (item ≡ Need → (bytes : List ℕ) (given : List Next) → StandsFor r bytes given → StandsFor later bytes given × AllGiven later bytes given)
        → (item ≢ Need → ((status : ℕ) → IsRefused r status → ⊥) → GoesOn r later item)
        → StandsFor later bytes all
    whole_is_given Need x need on = absurd (none_needed (need refl bytes (given ++ head ∷ []) x).1)
    whole_is_given item x need on =
        let more : StandsFor later bytes (given ++ head ∷ item ∷ []) = rw (append_assoc given (head ∷ []) (item ∷ [])) at (on (λ e. cc) (unrefused _ x) bytes _ x) in
        subst (λ (i : Next). StandsFor later bytes (given ++ head ∷ i ∷ [])) (gave item more) more

    -- and what is held after it are the frames
    pub frames_are : (rest : List ℕ) → WholeGiven later bytes all rest → rest ≡ frames
    frames_are rest w = elim w.goes_on [
      | inl e ↦ absurd (closed_not_upgraded r.limits bytes all rest frames
          (subst (λ (l : Limits). HasClosed l bytes all rest) same (w.requests, rw e.1 at w.whole, rw (e.0, append-nil) at w.given_are)) up)
      | inr h ↦
          let requests = requests_go later.limits later.limits.block_in_range.0 bytes w.requests w.after w.whole in
          let g = goes_on later.limits Start bytes (flat_map (λ (q : List Next). q) w.requests) Start w.after w.last Upgraded rest requests (handshake_goes later.limits w.after w.last rest h) in
          up_once g.steps rest (subst (λ (l : Limits). Reads l Start bytes g.steps Upgraded rest) same g.reads)
    ]
