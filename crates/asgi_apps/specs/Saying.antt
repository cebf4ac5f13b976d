-- A task that has a list of events to send: what it promises, and what is left of it.
use Rattle.std.specs.Prelude.{◌≡◌, false, List, [], ◌∷◌, ◌++◌, Option, Some, None}
use Rattle.std.specs.Option.{option_to_list}
use mathlib.Core.List.{IsPrefix}
use Rattle.asgi_types.specs.declared.scope.Kind.{Kind}
use Rattle.asgi_types.specs.declared.facts.Facts.{Facts}
use Rattle.asgi_types.specs.declared.incoming.Incoming.{Incoming}
use Rattle.asgi_types.specs.declared.outgoing.Outgoing.{Outgoing}
use Rattle.asgi_protocol.specs.Lawful.{IsLawful}
use Rattle.asgi_protocol.specs.declared.verdict.Verdict.TheVariants.{Pass}
use Rattle.asgi_protocol.specs.Verdicts.{verdict_on}
use Rattle.asgi_pipes.specs.Disconnects.{has_disconnect}
use Rattle.asgi_types.specs.declared.end_kind.EndKind.{EndKind}
use Rattle.asgi_types.specs.declared.end_kind.EndKind.TheVariants.{Returned, Faulted, Idle}
use Rattle.asgi_apps.specs.declared.says.Says.{Says}
use Rattle.asgi_apps.specs.Answers.{Answers}

-- What was sent is a beginning of the list, and all of it if the task returned. The task faults only if there is a request, or a
-- session, in which the list is not lawful.
abbrev pub SaysList : Kind → List Outgoing → List Outgoing → Option EndKind → Type 0
SaysList kind events said None = IsPrefix said events
SaysList kind events said (Some Returned) = said ≡ events
SaysList kind events said (Some Faulted) = ¬ ((facts : Facts) → IsLawful kind facts events)
SaysList kind events said (Some Idle) = IsPrefix said events

-- all that the task has to send
abbrev pub script : Says → List Outgoing
script says = says.script.items

-- what is left to send
abbrev pub left_of : Says → List Outgoing
left_of says = option_to_list says.waiting ++ says.events.items

-- No disconnect was received, and all was sent but what is left.
pub record HasSaid (says : Says) (kind : Kind) (heard : List Incoming) (said : List Outgoing) : Type 0 where
  pub kind_is : says.kind ≡ kind
  pub connected : has_disconnect heard ≡ false
  pub in_order : said ++ left_of says ≡ script says

-- All of these events are to be sent, in a scope of this kind.
pub record IsToSay (says : Says) (kind : Kind) (events : List Outgoing) : Type 0 where
  pub kind_is : says.kind ≡ kind
  pub all : script says ≡ events
  pub left : left_of says ≡ events

-- There is an event to send next, and it may not follow what was sent: it is refused, or ignored.
pub record IsTurnedAway (says : Says) (kind : Kind) (facts : Facts) (heard : List Incoming) (said : List Outgoing) : Type 0 where
  pub event : Outgoing
  pub rest : List Outgoing
  pub is_next : left_of says ≡ event ∷ rest
  pub not_passed : ¬ (verdict_on kind facts said (has_disconnect heard) event ≡ Pass)

-- A fresh task that gives this answer in a scope of this kind, whatever the request.
pub record Gives (says : Says) (kind : Kind) (answer : List Outgoing) : Type 0 where
  pub stands : HasSaid says kind [] []
  pub answers : (heard : List Incoming) (said : List Outgoing) (ended : Option EndKind)
      → SaysList says.kind (script says) said ended → Answers (Some answer) heard said ended
