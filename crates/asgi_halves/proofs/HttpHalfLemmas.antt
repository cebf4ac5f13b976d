-- The connection's half of an HTTP exchange, as its runner sees it.
use Rattle.asgi_halves.proofs.HalfWords.{◌≡◌, NextStep, Stage, arith}
use Rattle.asgi_halves.specs.Kinds.{following_of}
use Rattle.std.specs.Prelude.{IsSome}

pub over_at : (stage : Stage) → IsSome (following_of stage) → (following : NextStep) × (stage ≡ Stage.Over following)
over_at stage some_ = grind arith
