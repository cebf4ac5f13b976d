-- What a connection read from its line and wrote to it, since it began.
use Rattle.std.specs.Prelude.{◌≡◌, ◌<◌, ◌≤◌, ℕ, zero, suc, List, ◌∷◌, ◌++◌, [], length, All, Option, None, Some}
use Rattle.std.specs.Io.KnownBytes.{Appends, Consumes, IsAtEnd}
use Rattle.asgi_io.specs.declared.answer.Answer.{Answer}
use Rattle.asgi_io.specs.declared.answer.Answer.TheVariants as answer
use Rattle.asgi_io.specs.declared.write.Wrote.{Wrote}
use Rattle.asgi_io.specs.declared.write.Wrote.TheVariants as wrote
use Rattle.asgi_ws.specs.Lines.{LineState}
use Rattle.asgi_io.specs.Answers.{moved}
use Rattle.asgi_io.specs.Counting.{RoseBy}
use Rattle.asgi_io.specs.Writing.{TriesWrites}
use Rattle.asgi_conversation.specs.declared.input.InputEnd.{InputEnd}
use Rattle.asgi_conversation.specs.declared.input.InputEnd.TheVariants.{Open, AtEnd, Failed}

-- the most bytes that one turn reads
abbrev pub piece_size : ℕ
piece_size = 4096

-- a read after which another may come: it gave a piece, or paused
abbrev pub GoesOn : Answer → Type 0
GoesOn (answer.Moved n) = (0 < n) × (n ≤ piece_size)
GoesOn answer.Nothing = ⊥
GoesOn answer.Paused = Unit {0}
GoesOn answer.Failed = ⊥

-- how far the input has come after a read with this outcome
abbrev pub input_after : InputEnd → Answer → InputEnd
input_after end (answer.Moved n) = end
input_after end answer.Nothing = AtEnd
input_after end answer.Paused = end
input_after end answer.Failed = Failed

-- by the outcomes of all reads: no read follows the end, or a fault that does not pass
abbrev pub EndsAs : InputEnd → List Answer → Option (List ℕ) → Type 0
EndsAs Open answers left = All GoesOn answers
EndsAs AtEnd answers left = (before : List Answer) × (answers ≡ before ++ answer.Nothing ∷ []) × All GoesOn before × IsAtEnd left
EndsAs Failed answers left = (before : List Answer) × (answers ≡ before ++ answer.Failed ∷ []) × All GoesOn before

-- how writing ended, after this many bytes: if a write failed, it stopped there
abbrev pub how_wrote : ℕ → ℕ → Wrote
how_wrote zero out = wrote.Done
how_wrote (suc failures) out = wrote.Failed out

-- This much was read and written, and at least this many writes failed.
pub record Transferred (start now : LineState) (end : InputEnd) (read written : List ℕ) (failures : ℕ) : Type 0 where
  pub consumes : Consumes start.left now.left read
  pub appends : Appends start.written now.written written
  -- the reads that gave these bytes: none gives more than a piece
  pub answers : List Answer
  pub told : now.reads ≡ start.reads ++ answers
  pub sum : moved answers ≡ length read
  pub ends : EndsAs end answers now.left
  -- the writes that took these bytes: part by part, each after at most 1,000 pauses in a row, and none after one that failed
  pub tries : TriesWrites start.writes now.writes (length written) (how_wrote failures (length written))
  pub failed : RoseBy failures start.failed now.failed
  -- no message was read or sent, and the line was not upgraded
  pub quiet : now.session ≡ start.session

-- ---- the clauses of the private functions of writing: no promise is stated by them

-- how a text was written, of which n bytes went out if a write failed
abbrev pub how_put : Option ℕ → Wrote
how_put None = wrote.Done
how_put (Some n) = wrote.Failed n
