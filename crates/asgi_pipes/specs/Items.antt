-- What an application puts into its queue, and what its sends return.
use Rattle.std.specs.Prelude.{◌≡◌, List, [], ◌∷◌, ◌++◌, map, Option, Some, None, ⊤}
use Rattle.asgi_types.specs.declared.end_kind.EndKind.{EndKind}
use Rattle.asgi_types.specs.declared.outgoing.Outgoing.{Outgoing}
use Rattle.asgi_protocol.specs.declared.verdict.Verdict.{Verdict}
use Rattle.asgi_protocol.specs.declared.verdict.Verdict.TheVariants as verdict
use Rattle.asgi_pipes.specs.declared.items.OutItem.{OutItem}
use Rattle.asgi_pipes.specs.declared.items.OutItem.TheVariants.{Event, Ended}
use Rattle.asgi_pipes.specs.declared.items.Sent.{Sent}
use Rattle.asgi_pipes.specs.declared.items.Sent.TheVariants.{Done, Ignored, Full, Refused}

abbrev pub end_items : Option EndKind → List OutItem
end_items None = []
end_items (Some kind) = Ended kind ∷ []

-- the events sent, and then the end
abbrev pub items_of : List Outgoing → Option EndKind → List OutItem
items_of said ended = map Event said ++ end_items ended

-- The result of a send follows the verdict; what was sent gets longer only if the event went in.
abbrev pub Answers : Verdict → Outgoing → List Outgoing → List Outgoing → Sent → Type 0
Answers v event before after Done = (v ≡ verdict.Pass) × (after ≡ before ++ event ∷ [])
Answers v event before after Ignored = (v ≡ verdict.Ignored) × (after ≡ before)
Answers v event before after (Full back) = (v ≡ verdict.Pass) × (back ≡ event) × (after ≡ before)
Answers v event before after (Refused number back) = (v ≡ verdict.Refused number) × (back ≡ event) × (after ≡ before)

abbrev pub IfDone : Sent → Type 0 → Type 0
IfDone Done P = P
IfDone _ P = ⊤

abbrev pub IfFull : Sent → Type 0 → Type 0
IfFull (Full back) P = P
IfFull _ P = ⊤

-- if the judge lets nothing through
abbrev pub IfTurnedAway : Sent → Type 0 → Type 0
IfTurnedAway Ignored P = P
IfTurnedAway (Refused number back) P = P
IfTurnedAway _ P = ⊤
