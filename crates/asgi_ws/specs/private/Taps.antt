-- What a tap does with a failed read, and with a failed write: its error is not transient, and after a time-out nothing more is
-- written.
use Rattle.std.specs.Prelude.{◌≡◌, ℕ, ◌<◌, Bool, true, false, List, [], ◌∷◌, length, map, All, Option, Some, None, Result, Ok, Err, IsErr, ⊤, if◌then◌else◌}
use Rattle.std.specs.IoError.{error_kind}
use Rattle.std.specs.declared.io.Error.{Error}
use Rattle.std.specs.declared.io.ErrorKind.{ErrorKind}
use Rattle.std.specs.declared.io.ErrorKind.TheVariants.{TimedOut, WouldBlock}
use Rattle.asgi_io.specs.declared.answer.Answer.{Answer}
use Rattle.asgi_io.specs.declared.answer.Answer.TheVariants.{Moved, Nothing, Paused, Failed}
use Rattle.asgi_io.specs.Answers.{answer_of, passes}
use Rattle.asgi_ws.specs.declared.tap.Stop.{Stop}
use Rattle.asgi_ws.specs.declared.tap.Stop.TheVariants as stopped
use Rattle.asgi_ws.specs.Streams.{StreamCall, Adds, FailsWith}
use Rattle.asgi_ws.specs.Streams as asked

-- no error of it is transient
abbrev pub Lasts : {A : Type 0} → Result A Error → Type 0
Lasts (Ok done) = ⊤
Lasts (Err e) = passes (error_kind e) ≡ false

abbrev pub is_timed_out : ErrorKind → Bool
is_timed_out TimedOut = true
is_timed_out _ = false

-- the stop after a write
abbrev pub stop_after : {A : Type 0} → Result A Error → Option Stop → Option Stop
stop_after (Ok done) stop = stop
stop_after (Err e) stop = if is_timed_out (error_kind e) then Some stopped.Stuck else stop

abbrev pub is_stuck : Option Stop → Bool
is_stuck (Some stopped.Stuck) = true
is_stuck _ = false

-- once a write timed out, the stream is left as it is
abbrev pub IsLeft : {S A : Type 0} → Option Stop → S → S → Result A Error → Type 0
IsLeft stop old new result = is_stuck stop ≡ true → (new ≡ old) × IsErr result

-- ---- a write or a flush, which is tried again

-- how often it is tried
abbrev pub tries : ℕ
tries = 1001

abbrev pub IsTransient : Error → Type 0
IsTransient e = passes (error_kind e) ≡ true

-- the call was made this often, and each time its error was transient
pub record Pauses {A : Type 0} (call : Result A Error → StreamCall) (before after : Option (List StreamCall)) (n : ℕ) : Type 0 where
  pub errors : List Error
  pub each : All IsTransient errors
  pub count : length errors ≡ n
  pub told : Adds before after (map (λ e. call (Err e)) errors)

-- how the tries of the call ended, with this result
pub data Tries {A : Type 0} (call : Result A Error → StreamCall) (before after : Option (List StreamCall)) (result : Result A Error) : Type 0 where
  -- the stream returned it, at one of 1,001 tries, and each before that was transient
  Returned : (n : ℕ) → n < tries → (paused : Option (List StreamCall)) → Pauses call before paused n → Adds paused after (call result ∷ [])
      → Tries call before after result
  -- each of the tries was transient, and it is a time-out
  GaveUp : Pauses call before after tries → FailsWith TimedOut result → Tries call before after result

-- ---- a read, which is made once

-- the stop that the answer shows: no bytes at the end, or an error that is not transient
abbrev pub stop_by : Answer → Option Stop
stop_by (Moved n) = None
stop_by Nothing = Some stopped.Ended
stop_by Paused = None
stop_by Failed = Some stopped.Failed

-- what was read is the result, and with nothing read it would block
abbrev pub IsResultOf : Answer → Result ℕ Error → Type 0
IsResultOf (Moved n) result = result ≡ Ok n
IsResultOf Nothing result = FailsWith WouldBlock result
IsResultOf Paused result = FailsWith WouldBlock result
IsResultOf Failed result = FailsWith WouldBlock result

-- the stream was read once, into all of the room
abbrev pub ReadsOnce : Option (List StreamCall) → Option (List StreamCall) → ℕ → Result ℕ Error → Option Stop → Type 0
ReadsOnce before after room result stop =
    (given : Result ℕ Error) × Adds before after (asked.Read room given ∷ [])
    × (stop ≡ stop_by (answer_of room given)) × IsResultOf (answer_of room given) result
