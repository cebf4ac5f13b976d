-- How long a client is read after its answer. RFC 9112, 9.6 leaves to a server how long that is.
use Rattle.std.specs.Prelude.{◌≡◌, ◌≤◌, ◌+◌, ◌-◌, ◌⊎◌, ℕ, zero, suc, List, [], ◌∷◌, length}
use Rattle.asgi_reactor.specs.declared.lingering.Linger.{Linger}
use Rattle.asgi_reactor.specs.declared.lingering.Lingering.{Lingering}

-- how many bytes came in these ticks
abbrev pub came_in : List ℕ → ℕ
came_in [] = 0
came_in (now ∷ before) = now + came_in before

-- How many ticks have begun since the last bytes came, or since none did. So many came in this one, and in those before it, the newest first.
abbrev pub silence : ℕ → List ℕ → ℕ
silence (suc more) before = 0
silence zero [] = 0
silence zero (last ∷ before) = suc (silence last before)

-- It has been read for long enough: for so many ticks, in silence for so many, or so many bytes.
abbrev pub IsLeft : Linger → ℕ → List ℕ → Type 0
IsLeft limits now before = (limits.ticks ≤ length before) ⊎ (limits.silent ≤ silence now before) ⊎ (limits.bytes ≤ now + came_in before)

-- what is left of each limit, once so many bytes came in this tick and in those before it
abbrev pub Knows : Lingering → ℕ → List ℕ → Type 0
Knows it now before =
    (it.ticks ≡ it.limits.ticks - length before) × (it.silent ≡ it.limits.silent - silence now before) × (it.bytes ≡ it.limits.bytes - (now + came_in before))
