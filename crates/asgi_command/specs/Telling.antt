-- What is written to standard error and standard output: which text for which case, and how much of it goes out.
use Rattle.std.specs.Prelude.{◌≡◌, ℕ, Bool, true, false, List, ◌++◌, codes, Option, Some, None, if◌then◌else◌}
use Rattle.std.specs.Fmt.{decimal}
use Rattle.std.specs.List.{flat_map}
use Rattle.asgi_io.specs.declared.answer.Answer.{Answer}
use Rattle.asgi_io.specs.declared.counts.Counts as counts
use Rattle.asgi_io.specs.declared.write.Wrote.{Wrote}
use Rattle.asgi_io.specs.declared.write.Wrote.TheVariants.{Done, Failed}
use Rattle.asgi_io.specs.Writing.{WritesOut, TriesWrites, out_of}
use Rattle.asgi_conversation.specs.declared.report.Outcome.{Outcome}
use Rattle.asgi_conversation.specs.declared.report.Report.{Report}
use Rattle.asgi_conversation.specs.OutcomeClasses.{is_cut}
use Rattle.asgi_conversation.specs.OutcomeWords.{outcome_words}

-- the texts, each a line
abbrev pub usage : List ℕ
usage = codes "usage: asgi_demo once APP | asgi_demo serve PORT COUNT APP [WORKERS]\n"

abbrev pub device_fault : List ℕ
device_fault = codes "device fault\n"

abbrev pub stopped : Outcome → List ℕ
stopped outcome = codes "stopped: " ++ outcome_words outcome ++ codes "\n"

-- what is written about an outcome: nothing if the connection was served to its end
abbrev pub of_outcome : Outcome → Option (List ℕ)
of_outcome outcome = if is_cut outcome then Some (stopped outcome) else None

-- the line of a report: the number of the connection, the number of its exchanges, and the words of its outcome
abbrev pub report_line : ℕ × Report → List ℕ
report_line (number, report) = decimal number ++ codes " " ++ decimal report.exchanges ++ codes " " ++ outcome_words report.outcome ++ codes "\n"

abbrev pub report_lines : List (ℕ × Report) → List ℕ
report_lines reports = flat_map report_line reports

-- what is known of a writer at one time: the bytes that it holds, the outcome of each write, and how many failed
pub record Writer : Type 0 where
  pub written : Option (List ℕ)
  pub writes : List Answer
  pub failed : ℕ

abbrev pub writer : {W : Type 0} → counts.Ghosts W → W → Writer
writer C output = record { written = C.written output; writes = C.answers output; failed = C.failed output }

-- A text was written, all of it or as much as the writer took.
pub record Tells (text : List ℕ) (old new : Writer) : Type 0 where
  pub wrote : Wrote
  pub writes : WritesOut old.written new.written old.failed new.failed text wrote
  pub tries : TriesWrites old.writes new.writes (out_of text wrote) wrote

-- a text was written, or nothing was and the writer is as it was
abbrev pub TellsOf : Option (List ℕ) → Writer → Writer → Type 0
TellsOf None old new = new ≡ old
TellsOf (Some text) old new = Tells text old new

-- whether all of a text went out
abbrev pub is_whole : Wrote → Bool
is_whole Done = true
is_whole (Failed n) = false

-- A text was written, all of it or as much as the writer took; this is whether all of it was.
pub record Puts (text : List ℕ) (old new : Writer) (whole : Bool) : Type 0 where
  pub wrote : Wrote
  pub writes : WritesOut old.written new.written old.failed new.failed text wrote
  pub tries : TriesWrites old.writes new.writes (out_of text wrote) wrote
  pub whole_is : whole ≡ is_whole wrote

-- a text after others: it was written if all of those went out, and else the writer is as it was
abbrev pub PutsNext : Bool → List ℕ → Writer → Writer → Bool → Type 0
PutsNext true text old new whole = Puts text old new whole
PutsNext false text old new whole = (new ≡ old) × (whole ≡ false)
