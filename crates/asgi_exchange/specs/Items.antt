-- What an application put into its queue: events, and its end after them.
use Rattle.std.specs.Prelude.{List, [], ◌∷◌, Option, Some, None}
use Rattle.asgi_types.specs.declared.outgoing.Outgoing.{Outgoing}
use Rattle.asgi_types.specs.declared.end_kind.EndKind.{EndKind}
use Rattle.asgi_pipes.specs.declared.items.OutItem.{OutItem}
use Rattle.asgi_pipes.specs.declared.items.OutItem.TheVariants.{Event, Ended}

-- the events
abbrev pub events_of : List OutItem → List Outgoing
events_of [] = []
events_of (Event event ∷ items) = event ∷ events_of items
events_of (Ended kind ∷ items) = events_of items

-- the end, if it is there
abbrev pub end_of : List OutItem → Option EndKind
end_of [] = None
end_of (Event event ∷ items) = end_of items
end_of (Ended kind ∷ items) = Some kind
