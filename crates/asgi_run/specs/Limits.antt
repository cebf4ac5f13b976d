-- When a connection is given up as idle.
use Rattle.std.specs.Prelude.{◌≡◌, ◌≢◌, ◌⊎◌, Option, Some}
use Rattle.asgi_io.specs.declared.turns.Turns.{Turns}
use Rattle.asgi_conversation.specs.declared.following.NextStep.{NextStep}
use Rattle.asgi_conversation.specs.declared.following.NextStep.TheVariants.{ConnectionEnds}
use Rattle.asgi_conversation.specs.declared.report.Outcome.TheVariants.{Idle}

-- a limit on turns is reached
abbrev pub IsAtLimit : Turns → Type 0
IsAtLimit turns = (turns.turns ≡ turns.turn_limit) ⊎ (turns.idle ≡ turns.idle_limit)

-- the exchange is over, and its connection ends as idle
abbrev pub IsOverIdle : Option NextStep → Type 0
IsOverIdle following = following ≡ Some (ConnectionEnds Idle)

-- the exchange is over, and not as idle
abbrev pub IsSettled : Option NextStep → Type 0
IsSettled following = (last : NextStep) × (following ≡ Some last) × (last ≢ ConnectionEnds Idle)
