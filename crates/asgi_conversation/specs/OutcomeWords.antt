-- The words of an outcome, as a program prints them.
use Rattle.std.specs.Prelude.{ℕ, List, ◌++◌, codes}
use Rattle.std.specs.Fmt.{decimal}
use Rattle.asgi_conversation.specs.declared.report.Outcome.{Outcome}
use Rattle.asgi_conversation.specs.declared.report.Outcome.TheVariants.{Finished, Refused, InputBroke, WriteFailed, Idle, NoMemory, NoThread}

abbrev pub outcome_words : Outcome → List ℕ
outcome_words Finished = codes "finished"
outcome_words (Refused status) = codes "refused " ++ decimal status
outcome_words InputBroke = codes "input-broke"
outcome_words (WriteFailed n) = codes "write-failed " ++ decimal n
outcome_words Idle = codes "idle"
outcome_words NoMemory = codes "no-memory"
outcome_words NoThread = codes "no-thread"
