-- Which events pass after others, and which lists are lawful, as tests that compute. That `is_lawful` agrees with the
-- shapes of `Lawful` is a law of this crate.
use Rattle.std.specs.Prelude.{Bool, true, false, ◌&&◌, List, [], ◌∷◌, ◌++◌}
use Rattle.asgi_types.specs.declared.scope.Kind.{Kind}
use Rattle.asgi_types.specs.declared.facts.Facts.{Facts}
use Rattle.asgi_types.specs.declared.outgoing.Outgoing.{Outgoing}
use Rattle.asgi_protocol.specs.declared.verdict.Verdict.{Verdict}
use Rattle.asgi_protocol.specs.declared.verdict.Verdict.TheVariants.{Pass, Ignored, Refused}
use Rattle.asgi_protocol.specs.Verdicts.{verdict_on}

abbrev pub is_pass : Verdict → Bool
is_pass Pass = true
is_pass Ignored = false
is_pass (Refused number) = false

-- the event passes after these, with no disconnect received
abbrev pub passes : Kind → Facts → List Outgoing → Outgoing → Bool
passes kind facts said event = is_pass (verdict_on kind facts said false event)

-- each of the events passes after those before it
abbrev pub each_passes : (List Outgoing → Outgoing → Bool) → (before : List Outgoing) → List Outgoing → Bool
each_passes passes_after before [] = true
each_passes passes_after before (event ∷ events) = passes_after before event && each_passes passes_after (before ++ event ∷ []) events

-- the list is lawful
abbrev pub is_lawful : Kind → Facts → List Outgoing → Bool
is_lawful kind facts events = each_passes (passes kind facts) [] events
