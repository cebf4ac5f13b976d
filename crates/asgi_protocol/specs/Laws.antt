-- Laws of lawful lists and verdicts.
use Rattle.std.specs.Prelude.{◌≡◌, Bool, true, false, List, [], ◌∷◌, ◌++◌, ◌⊎◌, ◌↔◌}
use Rattle.asgi_types.specs.declared.scope.Kind.{Kind}
use Rattle.asgi_types.specs.declared.scope.Kind.TheVariants.{Http}
use Rattle.asgi_types.specs.declared.facts.Facts.{Facts}
use Rattle.asgi_types.specs.declared.outgoing.Outgoing.{Outgoing}
use Rattle.asgi_protocol.specs.declared.verdict.Violation.{Violation}
use Rattle.asgi_protocol.specs.declared.verdict.Verdict.{Verdict}
use Rattle.asgi_protocol.specs.declared.verdict.Verdict.TheVariants.{Pass, Ignored, Refused}
use Rattle.asgi_protocol.specs.Lawful.{IsLawful, IsClosed, BeginsWord}
use Rattle.asgi_protocol.specs.Numbers.{number_of}
use Rattle.asgi_protocol.specs.Passing.{passes, is_lawful}
use Rattle.asgi_protocol.specs.Shapes.{is_closed, goes_on}
use Rattle.asgi_protocol.specs.Verdicts.{verdict_on, verdict_on_closed}

-- no lawful list goes on after a closed one
abbrev pub ClosedIsLast : Type 0
ClosedIsLast =
    (kind : Kind) (facts : Facts) (said after : List Outgoing) (event : Outgoing) → IsClosed kind said → ¬ (IsLawful kind facts (said ++ event ∷ after))

-- each event passes after those before it, with no disconnect received
abbrev pub EachPasses : Kind → Facts → List Outgoing → Type 0
EachPasses kind facts events =
    (before after : List Outgoing) (event : Outgoing) → events ≡ before ++ event ∷ after → verdict_on kind facts before false event ≡ Pass

-- a list is lawful exactly if each of its events passes
abbrev pub LawfulWhereEachPasses : Type 0
LawfulWhereEachPasses = (kind : Kind) (facts : Facts) (events : List Outgoing) → IsLawful kind facts events ↔ EachPasses kind facts events

-- one function of kind, facts and list decides which lists are lawful
abbrev pub LawfulListsAreDecided : Type 0
LawfulListsAreDecided = (kind : Kind) (facts : Facts) (events : List Outgoing) → (is_lawful kind facts events ≡ true) ↔ IsLawful kind facts events

-- each prefix of a lawful list is lawful
abbrev pub FrontsAreLawful : Type 0
FrontsAreLawful = (kind : Kind) (facts : Facts) (front after : List Outgoing) → IsLawful kind facts (front ++ after) → IsLawful kind facts front

-- nothing passes after a closed list: in HTTP each event is ignored there, in other scopes it is refused
pub record NothingPassesAfterClosed : Type 0 where
  pub verdict : (kind : Kind) (facts : Facts) (said : List Outgoing) (heard : Bool) (event : Outgoing) → IsClosed kind said
      → verdict_on kind facts said heard event ≡ verdict_on_closed kind
  pub none : (kind : Kind) (facts : Facts) (said : List Outgoing) (event : Outgoing) → IsClosed kind said → passes kind facts said event ≡ false

-- every verdict is one of the table, and `Ignored` is given in HTTP alone
abbrev pub IsOfTable : Kind → Verdict → Type 0
IsOfTable kind verdict = (verdict ≡ Pass) ⊎ ((verdict ≡ Ignored) × (kind ≡ Http)) ⊎ ((why : Violation) × (verdict ≡ Refused (number_of why)))

abbrev pub VerdictsAreOfTable : Type 0
VerdictsAreOfTable =
    (kind : Kind) (facts : Facts) (said : List Outgoing) (heard : Bool) (event : Outgoing) → IsOfTable kind (verdict_on kind facts said heard event)

-- the tests of a verdict agree with the shapes
pub record TestsAgree : Type 0 where
  pub closed : (kind : Kind) (said : List Outgoing) → (is_closed kind said ≡ true) ↔ IsClosed kind said
  pub in_order : (kind : Kind) (said : List Outgoing) (event : Outgoing) → (goes_on kind said event ≡ true) ↔ BeginsWord kind (said ++ event ∷ [])
