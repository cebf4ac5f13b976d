-- The invariant of a task of `Echo`, its `stands`.
use Rattle.std.specs.Prelude.{◌≡◌, ℕ, Bool, true, false, not, List, [], ◌∷◌, ◌++◌, Option, Some}
use Rattle.std.specs.List.{list_any}
use Rattle.std.specs.Option.{option_to_list}
use Rattle.asgi_types.specs.declared.scope.Kind.{Kind}
use Rattle.asgi_types.specs.declared.scope.Kind.TheVariants.{Http}
use Rattle.asgi_types.specs.declared.facts.Facts.{Facts}
use Rattle.asgi_types.specs.declared.incoming.Incoming.{Incoming}
use Rattle.asgi_types.specs.declared.outgoing.Outgoing.{Outgoing}
use Rattle.asgi_types.specs.declared.outgoing.Outgoing.TheVariants.{ResponseBody}
use Rattle.asgi_protocol.specs.Lawful.{IsLawful}
use Rattle.asgi_protocol.specs.Verdicts.{is_disconnect}
use Rattle.asgi_pipes.specs.Disconnects.{has_disconnect}
use Rattle.asgi_apps.specs.declared.echo.EchoTask.{EchoTask}
use Rattle.asgi_apps.specs.declared.echo.Reaction.{Reaction}
use Rattle.asgi_apps.specs.declared.echo.Reaction.TheVariants.{Says, Returns, Listens}
use Rattle.asgi_apps.specs.Echo.{bodies_of, echo_answer, ends_request, HeardAll}

-- The invariant, by what waits to be sent and whether the task receives on: all of its answer so far was sent but what waits.
pub record StandsAt (own : Kind) (waiting : Option Outgoing) (listens : Bool) (kind : Kind) (heard : List Incoming) (said : List Outgoing) : Type 0 where
  pub kind_is : own ≡ kind
  pub connected : has_disconnect heard ≡ false
  pub in_order : echo_answer own heard ≡ Some (said ++ option_to_list waiting)
  pub lawful : (facts : Facts) → IsLawful own facts (said ++ option_to_list waiting)
  pub goes_on : listens ≡ true → (own ≡ Http) × (list_any ends_request heard ≡ false)
  pub heard_all : listens ≡ false → own ≡ Http → HeardAll heard

abbrev pub Stands : EchoTask → Kind → List Incoming → List Outgoing → Type 0
Stands task kind heard said = StandsAt task.kind task.waiting task.listens kind heard said

-- how the task reacts to an event
abbrev pub ReactsTo : Incoming → Reaction → Type 0
ReactsTo event (Says answer listens) = (body : List ℕ) × (answer ≡ ResponseBody body listens)
    × (bodies_of (event ∷ []) ≡ answer ∷ []) × (is_disconnect event ≡ false) × (ends_request event ≡ not listens)
ReactsTo event Returns = (bodies_of (event ∷ []) ≡ []) × (ends_request event ≡ true)
ReactsTo event Listens = (bodies_of (event ∷ []) ≡ []) × (is_disconnect event ≡ false) × (ends_request event ≡ false)
