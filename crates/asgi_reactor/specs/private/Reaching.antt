-- What is kept once a tick has come, before the bytes that went in it are counted.
use Rattle.std.specs.Prelude.{◌≡◌, ◌≤◌, ◌<◌, ◌+◌, ◌^◌, ◌-◌, ◌⊎◌, ℕ, min, Option, Some, None}
use Rattle.asgi_reactor.specs.declared.pace.Pace.{Pace}
use Rattle.asgi_reactor.specs.Pacing.{pause}

-- from what was kept to what is: the newest tick, and how many all took
abbrev pub Reaches : ℕ → Option ℕ → ℕ → Option ℕ → ℕ → Type 0
Reaches now None took newest so_many = (newest ≡ Some now) × (so_many ≡ took)
Reaches now (Some last) took newest so_many =
    ((now ≤ last) × (newest ≡ Some last) × (so_many ≡ took))
    ⊎ ((last < now) × (newest ≡ Some now) × (so_many ≡ min (took + pause last now) (2 ^ 64 - 1)))

abbrev pub ReachesTick : ℕ → Pace → Pace → Type 0
ReachesTick now old new = Reaches now old.newest old.took new.newest new.took
