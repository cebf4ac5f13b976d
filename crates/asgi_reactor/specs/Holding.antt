-- Bytes that wait to be written.
use Rattle.std.specs.Prelude.{◌≡◌, ℕ, List, ◌++◌, Option, Result, MatchResult, drop, length, take}
use Rattle.std.specs.Io.KnownBytes.{Appends, Keeps, append_known}
use Rattle.asgi_reactor.specs.declared.held.Took.{Took}
use Rattle.asgi_reactor.specs.declared.held.Took.TheVariants.{All, Part}

-- of the bytes of a buffer those from this place on, which wait
abbrev pub waiting : List ℕ → ℕ → List ℕ
waiting buffer start = drop start buffer

-- Some bytes of the front went to the stream, and the others wait on.
abbrev pub GoesOut : Option (List ℕ) → Option (List ℕ) → List ℕ → List ℕ → Type 0
GoesOut written_old written_new old new = (gone : List ℕ) × (old ≡ gone ++ new) × Appends written_old written_new gone

-- what was taken in all, if it is known: what the stream has, and then what waits
abbrev pub taken : Option (List ℕ) → List ℕ → ℕ → Option (List ℕ)
taken written buffer start = append_known written (waiting buffer start)

-- how many bytes of a write were taken
abbrev pub many : List ℕ → Took → ℕ
many bytes All = length bytes
many bytes (Part count why) = count

-- What was taken in all grew by the bytes of a write that were taken; if the stream failed it stays.
abbrev pub TakesOn : {E : Type 0} → Option (List ℕ) → Option (List ℕ) → Result Took E → List ℕ → Type 0
TakesOn old new result bytes = MatchResult result (λ took. Appends old new (take (many bytes took) bytes)) (λ _. Keeps old new)
