-- How calls that move bytes were answered: the words of reads and of writes.
use Rattle.std.specs.Prelude.{ℕ, ◌&&◌, ◌==◌, not, Bool, true, false, if◌then◌else◌, List, count_by, Result, Ok, Err}
use Rattle.std.specs.List.{sum_by}
use Rattle.std.specs.IoError.{error_kind}
use Rattle.std.specs.declared.io.Error.{Error}
use Rattle.std.specs.declared.io.ErrorKind.{ErrorKind}
use Rattle.std.specs.declared.io.ErrorKind.TheVariants.{Interrupted, WouldBlock}
use Rattle.asgi_io.specs.declared.answer.Answer.{Answer}
use Rattle.asgi_io.specs.declared.answer.Answer.TheVariants.{Moved, Nothing, Paused, Failed}
use Rattle.asgi_io.specs.declared.turns.Turn.{Turn}
use Rattle.asgi_io.specs.declared.turns.Turn.TheVariants as turn

-- a call that was interrupted or would block may be made again
abbrev pub passes : ErrorKind → Bool
passes Interrupted = true
passes WouldBlock = true
passes _ = false

-- the answer to a call with room bytes to move
abbrev pub answer_of : ℕ → Result ℕ Error → Answer
answer_of room (Ok n) = if (n == 0) && not (room == 0) then Nothing else Moved n
answer_of room (Err e) = if passes (error_kind e) then Paused else Failed

-- how many bytes the call moved
abbrev pub bytes_of : Answer → ℕ
bytes_of (Moved n) = n
bytes_of Nothing = 0
bytes_of Paused = 0
bytes_of Failed = 0

-- how many bytes were moved in all
abbrev pub moved : List Answer → ℕ
moved answers = sum_by bytes_of answers

-- a fault that does not pass
abbrev pub is_failed : Answer → Bool
is_failed Failed = true
is_failed _ = false

-- how many calls failed that way
abbrev pub failed_in : List Answer → ℕ
failed_in answers = count_by is_failed answers

-- what a turn that made one such call did: it moved bytes, or was idle, or was the last, with nothing to come
abbrev pub turn_of : Answer → Turn
turn_of (Moved n) = turn.Moved
turn_of Paused = turn.Idle
turn_of Nothing = turn.Last
turn_of Failed = turn.Last
