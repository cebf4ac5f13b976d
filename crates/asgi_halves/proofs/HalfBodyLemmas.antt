-- What the connection's half knows of the body: what the reader gave of it, and what was offered.
use Rattle.asgi_halves.proofs.HalfWords.{◌≡◌, ◌≢◌, ℕ, true, false, List, [], ◌∷◌, ◌++◌, map, refl, sym, ap, ◌∙◌, inl, inr, append_assoc, Option, None, ◌⊎◌, IsPrefix, Framing, Incoming, Limits, Next}
use Rattle.asgi_halves.proofs.HalfWords.{body_events, body_state, BodyState, complete, HasOpened, Reading, StandsFor, Break, is_by_input, is_by_cut, BodyProgress, InputEnd, Input, HasGiven, BreaksAt}
use Rattle.asgi_halves.proofs.HalfWords.{has_ended, is_faulty, input_of, IsSettled, known_input, body_is_read, partial, faulty, ReadsBody, GaveNext, arith}
use Rattle.asgi_exchange.proofs.ListLemmas.{last_same}
use Rattle.asgi_request.proofs.{DueLemmas.OpensAt, DueLemmas.bad_is_faulty, DueLemmas.events_are_due, DueLemmas.need_is_partial, DueLemmas.whole_is_complete}
use Rattle.asgi_request.proofs.{OpenedLemmas.opened_at, OpenedLemmas.opened_plain, RefusalLemmas.refused_last}
use Rattle.asgi_request.specs.{Reading.AllGiven, Reading.EndsWhole, Reading.GoesOnInside, Reading.IsRefused, Refusals.status_of}

-- ---- breaks

pub unbroken : (b : Option Break) → is_by_cut b ≡ false → is_by_input b ≡ false → b ≡ None
unbroken b uncut not_by_input = grind arith

-- ---- neither a refusal nor the end of the request was given before

no_other : (front : List Next) (x : Next) (events : List Incoming) (before : List Next) (last : Next) → x ≢ last → ((event : Incoming) → Next.Event event ≢ last)
    → front ++ x ∷ map Next.Event events ≡ before ++ last ∷ [] → ⊥
no_other front x [] before last other no_event e = other (last_same front before x last e).1
no_other front x (event ∷ events) before last other no_event e =
    no_other (front ++ x ∷ []) (Next.Event event) events before last (no_event event) no_event (append_assoc front (x ∷ []) (map Next.Event (event ∷ events)) ∙ e)

-- where the head stands among them
all_given : (limits : Limits) (read : List ℕ) (opened : List Next) (framing : Framing) (arrived : List ℕ) (events : List Incoming) (x : HasOpened limits read opened framing arrived)
    → opened ++ map Next.Event events ≡ x.closed ++ Next.Head x.scope x.facts ∷ map Next.Event events
all_given limits read opened framing arrived events x =
    ap (λ (l : List Next). l ++ map Next.Event events) x.opened_is ∙ append_assoc x.closed (Next.Head x.scope x.facts ∷ []) (map Next.Event events)

-- a reader that gave a head and events after it has not refused
not_refused : (reader : Reading) (read : List ℕ) (opened : List Next) (framing : Framing) (arrived : List ℕ) (events : List Incoming) (status : ℕ)
    → HasOpened reader.limits read opened framing arrived → StandsFor reader read (opened ++ map Next.Event events) → IsRefused reader status → ⊥
not_refused reader read opened framing arrived events status x stands refused =
    let last = refused_last reader.limits read (opened ++ map Next.Event events) reader.place reader.held refused.0 stands refused.1 in
    let all = all_given reader.limits read opened framing arrived events x in
    no_other x.closed (Next.Head x.scope x.facts) events last.0 (Next.Bad (status_of refused.0)) (λ is. cc) (λ event is. cc) (sym all ∙ last.1)

something : (front : List Next) (x : Next) (more : List Next) → front ++ x ∷ more ≡ [] → ⊥
something [] x more e = cc
something (y ∷ front) x more e = cc

-- a head and events after it end no request
is_inside : (limits : Limits) (read : List ℕ) (opened : List Next) (framing : Framing) (arrived : List ℕ) (events : List Incoming) → HasOpened limits read opened framing arrived
    → EndsWhole (opened ++ map Next.Event events) → ⊥
is_inside limits read opened framing arrived events x (inl none) =
    something x.closed (Next.Head x.scope x.facts) (map Next.Event events) (sym (all_given limits read opened framing arrived events x) ∙ none)
is_inside limits read opened framing arrived events x (inr w) =
    no_other x.closed (Next.Head x.scope x.facts) events w.0 Next.Whole (λ is. cc) (λ event is. cc) (sym (all_given limits read opened framing arrived events x) ∙ w.1)

-- ---- the body, by what the reader gave of it

module _ (reader : Reading) (read : List ℕ) (opened : List Next) (framing : Framing) (arrived : List ℕ) (x : HasOpened reader.limits read opened framing arrived) where
  abbrev due : List Incoming
  due = body_events reader.limits framing arrived

  abbrev state : BodyState
  state = body_state reader.limits framing arrived

  at : OpensAt reader.limits read opened framing arrived
  at = opened_at reader.limits read opened framing arrived x

  plain : framing ≢ Framing.Upgrade
  plain = opened_plain reader.limits read opened framing arrived x

  body_read : ReadsBody reader.limits framing arrived due state
  body_read = body_is_read reader.limits framing arrived

  pub first_due : (events : List Incoming) → StandsFor reader read (opened ++ map Next.Event events) → IsPrefix events due
  first_due events stands = events_are_due reader.limits read opened framing arrived due state reader.place reader.held at plain body_read events stands

  pub whole_is : (events : List Incoming) → StandsFor reader read (opened ++ (map Next.Event events ++ Next.Whole ∷ [])) → (events ≡ due) × ((after : List ℕ) × (state ≡ complete after))
  whole_is events given = whole_is_complete reader.limits read opened framing arrived due state reader.place reader.held at plain body_read events given

  -- the state that its ends show, if nothing more is due
  pub state_by : (events : List Incoming) (body : BodyProgress) → HasGiven reader read opened events body → IsSettled body
      → (events ≡ due) × ((known : BodyState) × (input_of known ≡ known_input body) × (state ≡ known))
  state_by events BodyProgress.Whole given settled = let w = whole_is events given in (w.0, (complete w.1.0, refl, w.1.1))
  state_by events (BodyProgress.Refused status) given settled =
      let w = bad_is_faulty reader.limits read opened framing arrived due state reader.place reader.held at plain body_read events status given in
      (w.0, (faulty w.1.0, ap Input.Faulty (sym w.1.2), w.1.1))
  state_by events BodyProgress.BrokenOff given settled =
      let w = need_is_partial reader.limits read opened framing arrived due state events given.0 at plain body_read given.1 in (w.0, (partial, refl, w.1))
  state_by events _ given settled = absurd settled

  pub all_due : (events : List Incoming) (body : BodyProgress) (end : InputEnd) → HasGiven reader read opened events body → BreaksAt body end → events ≡ due
  all_due events body end given breaks = (state_by events body given (grind arith)).0

  pub why_broken : (events : List Incoming) (body : BodyProgress) (end : InputEnd) → HasGiven reader read opened events body → BreaksAt body end → (has_ended end ≡ true) ⊎ (is_faulty state ≡ true)
  why_broken events (BodyProgress.Refused status) end given breaks =
      let w = bad_is_faulty reader.limits read opened framing arrived due state reader.place reader.held at plain body_read events status given in inr (ap is_faulty w.1.1)
  why_broken events _ end given breaks = grind arith

-- ---- from what the reader gave

pub gave_next : (old new : Reading) (item : Next) (read : List ℕ) (opened : List Next) (framing : Framing) (arrived : List ℕ) (events : List Incoming)
    → HasOpened old.limits read opened framing arrived → StandsFor old read (opened ++ map Next.Event events)
    → (item ≡ Next.Need → (bytes : List ℕ) (given : List Next) → StandsFor old bytes given → StandsFor new bytes given × AllGiven new bytes given)
    → (item ≢ Next.Need → ((status : ℕ) → IsRefused old status → ⊥) → GoesOnInside old new item)
    → GaveNext new read (opened ++ map Next.Event events) item
gave_next old new Next.Need read opened framing arrived events x stands need given = need refl read (opened ++ map Next.Event events) stands
gave_next old new _ read opened framing arrived events x stands need given =
    given (λ e. cc) (λ status. not_refused old read opened framing arrived events status x stands) read (opened ++ map Next.Event events) stands
    (is_inside old.limits read opened framing arrived events x)
