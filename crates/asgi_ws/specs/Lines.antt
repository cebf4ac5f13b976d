-- What is known of a line.
use Rattle.std.specs.Prelude.{ℕ, List, Option}
use Rattle.asgi_io.specs.declared.answer.Answer.{Answer}
use Rattle.asgi_io.specs.declared.counts.Counts as counts
use Rattle.asgi_io.specs.declared.reads.Reads as reads
use Rattle.asgi_ws.specs.declared.messages.Messages as messages
use Rattle.asgi_ws.specs.Sides.{Session}

-- What is known of a line at one time.
pub record LineState : Type 0 where
  -- the bytes that are still to be read, and the outcome of each read
  pub left : Option (List ℕ)
  pub reads : List Answer
  -- the bytes that it holds, the outcome of each write, and how many failed
  pub written : Option (List ℕ)
  pub writes : List Answer
  pub failed : ℕ
  -- its session: the reads of messages and the sends, each with its outcome, the messages to come, and what `upgrade` kept
  pub session : Session

abbrev pub session_of : {L : Type 0} → messages.Ghosts L → L → Session
session_of M line = record { calls = M.calls line; coming = M.coming line; leftover = M.leftover line }

abbrev pub state_of : {L : Type 0} → reads.Ghosts L → counts.Ghosts L → messages.Ghosts L → L → LineState
state_of R W M line = record {
  left = R.remaining line;
  reads = R.answers line;
  written = W.written line;
  writes = W.answers line;
  failed = W.failed line;
  session = session_of M line;
}
