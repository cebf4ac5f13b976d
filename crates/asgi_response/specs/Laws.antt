-- Laws of the text.
use Rattle.std.specs.Prelude.{◌≡◌, ◌≢◌, ℕ, ◌⊎◌, Bool, true, false, List, [], ◌∷◌, ◌++◌}
use Rattle.asgi_types.specs.declared.end_kind.EndKind.{EndKind}
use Rattle.asgi_types.specs.declared.end_kind.EndKind.TheVariants.{Idle}
use Rattle.asgi_types.specs.declared.facts.Facts.{Facts}
use Rattle.asgi_types.specs.declared.scope.Kind.TheVariants.{Http}
use Rattle.asgi_types.specs.declared.outgoing.Outgoing.{Outgoing}
use Rattle.asgi_protocol.specs.Lawful.{IsLawful, IsClosed}
use Rattle.asgi_protocol.specs.declared.verdict.Verdict.TheVariants.{Pass}
use Rattle.asgi_protocol.specs.Passing.{passes}
use Rattle.asgi_protocol.specs.Verdicts.{verdict_on}
use Rattle.asgi_response.specs.declared.progress.Progress.TheVariants.{Nothing}
use Rattle.asgi_response.specs.declared.refusal.Input.{Input}
use Rattle.asgi_response.specs.declared.refusal.Input.TheVariants.{Broken}
use Rattle.asgi_response.specs.Accepted.{accepted}
use Rattle.asgi_response.specs.Exchange.{replacement_text, added_by_end}
use Rattle.asgi_response.specs.Progress.{progress_of}
use Rattle.asgi_response.specs.Response.{event_text, response_text}

-- the first list begins with the second
abbrev pub BeginsWith : List ℕ → List ℕ → Type 0
BeginsWith whole front = (rest : List ℕ) × (whole ≡ front ++ rest)

-- the text of a list is the beginning of the text of each longer one
abbrev pub TextOnlyGrows : Type 0
TextOnlyGrows = (facts : Facts) (events more : List Outgoing) → BeginsWith (response_text facts (events ++ more)) (response_text facts events)

-- the text grows by that of each event that is lawful in its place, and for any other event it stays the same
pub record EventsAddTheirText : Type 0 where
  pub lawful : (facts : Facts) (events : List Outgoing) (event : Outgoing) → passes Http facts (accepted facts events) event ≡ true
      → response_text facts (events ++ event ∷ []) ≡ response_text facts events ++ event_text facts (accepted facts events) event
  pub other : (facts : Facts) (events : List Outgoing) (event : Outgoing) → passes Http facts (accepted facts events) event ≡ false
      → response_text facts (events ++ event ∷ []) ≡ response_text facts events

-- events that a judge passes in this order are accepted whole
abbrev pub PassedIsAccepted : Type 0
PassedIsAccepted = (facts : Facts) (events : List Outgoing) (heard : Bool) (event : Outgoing)
    → accepted facts events ≡ events → verdict_on Http facts events heard event ≡ Pass
    → accepted facts (events ++ event ∷ []) ≡ events ++ event ∷ []

-- a lawful list is accepted whole
abbrev pub LawfulIsAccepted : Type 0
LawfulIsAccepted = (facts : Facts) (events : List Outgoing) → IsLawful Http facts events → accepted facts events ≡ events

-- after a closed list nothing more is accepted, and its text stays the same, whatever events follow
pub record ClosedTextStays : Type 0 where
  pub nothing_more : (facts : Facts) (events more : List Outgoing) → IsClosed Http (accepted facts events) → accepted facts (events ++ more) ≡ accepted facts events
  pub text : (facts : Facts) (events more : List Outgoing) → IsClosed Http (accepted facts events) → response_text facts (events ++ more) ≡ response_text facts events
  pub lawful : (facts : Facts) (events more : List Outgoing) → IsLawful Http facts events → IsClosed Http events → response_text facts (events ++ more) ≡ response_text facts events

-- a response that has begun or is complete gets nothing more from the end of its task
abbrev pub BegunResponsesGetNothingMore : Type 0
BegunResponsesGetNothingMore = (facts : Facts) (events : List Outgoing) (kind : EndKind) (input : Input)
    → progress_of facts events ≢ Nothing → added_by_end facts events kind input ≡ []

-- a response that has not begun is replaced, if its task returned or faulted
abbrev pub UnbegunResponsesAreReplaced : Type 0
UnbegunResponsesAreReplaced = (facts : Facts) (events : List Outgoing) (kind : EndKind) (input : Input)
    → kind ≢ Idle → progress_of facts events ≡ Nothing → added_by_end facts events kind input ≡ replacement_text input

-- while the body is neither whole nor faulty nothing is added, so what is added only grows as more of the body is known
pub record AddedTextOnlyGrows : Type 0 where
  pub none : (facts : Facts) (events : List Outgoing) (kind : EndKind) → added_by_end facts events kind Broken ≡ []
  pub grows : (facts : Facts) (events : List Outgoing) (kind : EndKind) (known later : Input) → (known ≡ Broken) ⊎ (known ≡ later)
      → BeginsWith (added_by_end facts events kind later) (added_by_end facts events kind known)
