-- The events of a list that are lawful in their place: what a judge passes of them (ASGI, Response Start and Response
-- Body). By `LawfulIsAccepted` a lawful list is accepted whole.
use Rattle.std.specs.Prelude.{List, [], ◌∷◌, ◌++◌, if◌then◌else◌}
use Rattle.std.specs.List.{fold}
use Rattle.asgi_types.specs.declared.scope.Kind.TheVariants.{Http}
use Rattle.asgi_types.specs.declared.facts.Facts.{Facts}
use Rattle.asgi_types.specs.declared.outgoing.Outgoing.{Outgoing}
use Rattle.asgi_protocol.specs.Passing.{passes}

-- the list with the event added, if that is lawful after these
abbrev pub with_event : Facts → List Outgoing → Outgoing → List Outgoing
with_event facts said event = if passes Http facts said event then said ++ event ∷ [] else said

-- the events that pass, each judged after those that passed before it
abbrev pub accepted : Facts → List Outgoing → List Outgoing
accepted facts events = fold (with_event facts) [] events
