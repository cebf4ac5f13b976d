-- How slowly a client sends the bytes of an exchange, or takes those of its answer. No standard measures it: RFC 9110, 15.5.9 leaves to a server how
-- long it waits.
use Rattle.std.specs.Prelude.{◌≡◌, ◌≤◌, ◌<◌, ◌+◌, ◌-◌, ◌*◌, ◌^◌, ℕ, zero, suc, min, List, [], ◌∷◌, Option, Some, None, nat_le, if◌then◌else◌}
use Rattle.asgi_reactor.specs.declared.pace.Pace.{Pace}

-- A tick, and how many bytes went in it. Of a client that sends, ticks in which none came are not told: that is silence, which other limits end.
pub record Heard : Type 0 where
  pub tick : ℕ
  pub count : ℕ

abbrev pub heard : ℕ → ℕ → Heard
heard tick count = record { tick = tick; count = count }

-- how long the pause between two such ticks counts: at most ten, since a client that is served for long may send nothing meanwhile
abbrev pub pause : ℕ → ℕ → ℕ
pause last now = min (now - last) 10

-- How many ticks all of it took: the pauses from one to the next. The newest tick stands first.
abbrev pub time : List Heard → ℕ
time [] = 0
time (now ∷ []) = 0
time (now ∷ last ∷ before) = time (last ∷ before) + pause last.tick now.tick

-- how many bytes went in all
abbrev pub total : List Heard → ℕ
total [] = 0
total (now ∷ before) = total before + now.count

-- the ticks once so many bytes more have gone by this one
abbrev pub hears : List Heard → ℕ → ℕ → List Heard
hears [] now count = heard now count ∷ []
hears (last ∷ before) now count = if nat_le now last.tick then heard last.tick (last.count + count) ∷ before else heard now count ∷ last ∷ before

-- It took more ticks than it may: those of the limit, and one more for each so many bytes. So fewer bytes went than that for each tick beyond the limit.
abbrev pub IsSlow : ℕ → ℕ → List Heard → Type 0
IsSlow least limit ticks = total ticks < (time ticks - limit) * least

-- the newest tick in which a client has taken some of what waits for it, or else the first one in which that waited
abbrev pub last_taken : Option ℕ → ℕ → ℕ → ℕ
last_taken None now zero = now
last_taken (Some last) now zero = last
last_taken _ now (suc left) = now

-- It has taken nothing for so many ticks.
abbrev pub IsStill : ℕ → ℕ → ℕ → Type 0
IsStill limit last now = limit ≤ now - last

-- what is kept of the ticks: the newest one, how many all took, and how many bytes went
abbrev pub Keeps : Option ℕ → ℕ → ℕ → List Heard → Type 0
Keeps newest took count [] = (newest ≡ None) × (took ≡ 0) × (count ≡ 0)
Keeps newest took count (now ∷ before) =
    (newest ≡ Some now.tick) × (took ≡ time (now ∷ before)) × (count ≡ min (total (now ∷ before)) (2 ^ 128 - 1)) × (took ≤ now.tick)

-- the ticks that a pace keeps
abbrev pub Knows : Pace → List Heard → Type 0
Knows pace ticks = Keeps pace.newest pace.took pace.count ticks
