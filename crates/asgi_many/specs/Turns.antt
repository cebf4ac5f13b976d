-- What a turn of a named seat did.
use Rattle.std.specs.Prelude.{◌≡◌, ◌+◌, ⊤, ℕ, List, Option, Some, None, IsSomeAnd, slice_set}
use Rattle.asgi_conn.specs.declared.connection.Step.{Step}
use Rattle.asgi_conn.specs.declared.connection.Step.TheVariants as step
use Rattle.asgi_conn.specs.Standing.{IsReportOf, TakesOne}
use Rattle.asgi_many.specs.declared.seat.Cause.{Cause}
use Rattle.asgi_many.specs.declared.seat.Cause.TheVariants.{Wake, Tick}
use Rattle.asgi_many.specs.declared.seat.Ended.{Ended}
use Rattle.asgi_many.specs.declared.seat.Seat.{Seat}
use Rattle.asgi_many.specs.declared.table.Turned.{Turned}
use Rattle.asgi_many.specs.declared.table.Turned.TheVariants.{NoOne, Moved, Idle, Over}

-- What has ended after the turn: an end stands at the number of its connection.
abbrev pub ended_after : {L : Type 0} → Turned L → List (Option (Ended L)) → List (Option (Ended L))
ended_after NoOne ended = ended
ended_after Moved ended = ended
ended_after Idle ended = ended
ended_after (Over end) ended = slice_set ended end.number (Some end)

-- how many seats were freed
abbrev pub freed_by : {L : Type 0} → Turned L → ℕ
freed_by NoOne = 0
freed_by Moved = 0
freed_by Idle = 0
freed_by (Over end) = 1

-- this holds of the end, if there is one
abbrev pub IfOver : {L : Type 0} → Turned L → (Ended L → Type 0) → Type 0
IfOver NoOne P = ⊤
IfOver Moved P = ⊤
IfOver Idle P = ⊤
IfOver (Over end) P = P end

-- An idle turn is counted at a tick, and is one more in a row. After a wake-up neither it nor a pause is.
abbrev pub CountsIdle : {X L : Type 0} → Cause → Seat X L → Seat X L → Type 0
CountsIdle Tick was is = TakesOne was.connection is.connection × (is.connection.tally.turns.idle ≡ was.connection.tally.turns.idle + 1)
CountsIdle Wake was is = (is.connection.tally.turns ≡ was.connection.tally.turns) × (is.pause.count ≡ was.pause.count)

-- From what the seat had to what it has: nobody sits there; or the connection took one turn, which is counted if something moved, or
-- at a tick; or it has ended, and the seat is free.
abbrev pub TurnsSeat : {X L : Type 0} → Cause → Turned L → Option (Seat X L) → Option (Seat X L) → Type 0
TurnsSeat cause NoOne old new = (old ≡ None) × (new ≡ None)
TurnsSeat cause Moved old new = IsSomeAnd old (λ was. IsSomeAnd new (λ is. TakesOne was.connection is.connection))
TurnsSeat cause Idle old new = IsSomeAnd old (λ was. IsSomeAnd new (λ is. CountsIdle cause was is))
TurnsSeat cause (Over end) old new = IsSomeAnd old (λ was. was.number ≡ end.number) × (new ≡ None)

-- ---- a word of private functions

-- The same, but a connection that has ended sits on, with this report.
abbrev pub LooksAt : {X L : Type 0} → Cause → Option Step → Option (Seat X L) → Option (Seat X L) → Type 0
LooksAt cause None old new = (old ≡ None) × (new ≡ None)
LooksAt cause (Some step.Moved) old new = IsSomeAnd old (λ was. IsSomeAnd new (λ is. TakesOne was.connection is.connection))
LooksAt cause (Some step.Idle) old new = IsSomeAnd old (λ was. IsSomeAnd new (λ is. CountsIdle cause was is))
LooksAt cause (Some (step.Over report)) old new = IsSomeAnd old (λ was. IsSomeAnd new (λ is. (is.number ≡ was.number) × IsReportOf is.connection report))
