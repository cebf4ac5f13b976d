-- When an event may be refused for lack of memory: only if a start's head, or the output, had no room.
use Rattle.std.specs.Prelude.{ℕ, ◌+◌, ◌<◌, ◌⊎◌, ◌&&◌, Bool, true, false, IsTrue, List, [], ◌∷◌, ◌++◌, length}
use Rattle.asgi_types.specs.declared.facts.Facts.{Facts}
use Rattle.asgi_types.specs.declared.scope.Kind.TheVariants.{Http}
use Rattle.asgi_types.specs.declared.outgoing.Outgoing.{Outgoing}
use Rattle.asgi_types.specs.declared.outgoing.Outgoing.TheVariants.{ResponseStart, DenialStart}
use Rattle.asgi_protocol.specs.Passing.{passes}
use Rattle.asgi_response.specs.Accepted.{accepted}
use Rattle.asgi_response.specs.Denial.{denial_text}
use Rattle.asgi_response.specs.Response.{response_text}

-- the head of a start is kept in memory of its own
abbrev pub is_start : Outgoing → Bool
is_start (ResponseStart status headers announced) = true
is_start _ = false

-- there was no memory for the head of a start that is lawful in its place, or the vector has no room for what the event
-- adds to the text
abbrev pub LacksMemory : ℕ → ℕ → Facts → List Outgoing → Outgoing → Type 0
LacksMemory capacity len facts events event =
    IsTrue (is_start event && passes Http facts (accepted facts events) event)
    ⊎ (capacity + length (response_text facts events) < len + length (response_text facts (events ++ event ∷ [])))

abbrev pub is_denial_start : Outgoing → Bool
is_denial_start (DenialStart status headers) = true
is_denial_start _ = false

-- the same of a denial
abbrev pub LacksDenialMemory : ℕ → ℕ → Facts → List Outgoing → Outgoing → Type 0
LacksDenialMemory capacity len facts events event =
    IsTrue (is_denial_start event)
    ⊎ (capacity + length (denial_text facts events) < len + length (denial_text facts (events ++ event ∷ [])))
