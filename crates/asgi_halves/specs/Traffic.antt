-- What passed over a line from the first byte of a connection to the end of its session.
use Rattle.std.specs.Prelude.{◌≡◌, ℕ, ◌≤◌, Bool, true, false, ◌||◌, List, [], ◌∷◌, ◌++◌, Option, Some, None, zero, suc, if◌then◌else◌}
use Rattle.std.specs.List.{count_by}
use Rattle.asgi_ws.specs.declared.messages.Got.{Got}
use Rattle.asgi_ws.specs.declared.messages.Got.TheVariants as got
use Rattle.asgi_ws.specs.declared.messages.Call.{Call}
use Rattle.asgi_ws.specs.declared.messages.Call.TheVariants as call
use Rattle.asgi_ws.specs.declared.messages.Put.TheVariants as put
use Rattle.asgi_ws.specs.declared.messages.SentMessage.{SentMessage}
use Rattle.asgi_ws.specs.Sessions.{has_failed, is_read, messages_in, handed_in, kept_by, reads_after_close, Loses}
use Rattle.asgi_conversation.specs.declared.input.InputEnd.{InputEnd}
use Rattle.asgi_conversation.specs.declared.report.Outcome.{Outcome}
use Rattle.asgi_conversation.specs.Sessions.{SessionTraffic}
use Rattle.asgi_ws.specs.Lines.{LineState}
use Rattle.asgi_run.specs.Lines.{Transferred}
use Rattle.asgi_conversation.specs.OutcomeClasses.{OutcomeClass, ByWrite, class_of}

-- no message follows
abbrev pub is_end : Got → Bool
is_end (got.Message message) = false
is_end got.Idle = false
is_end got.Ended = true
is_end got.Failed = true
is_end got.NoMemory = false

-- a read reported that
abbrev pub says_over : List Call → Bool
says_over [] = false
says_over (call.Read answer ∷ calls) = is_end answer || says_over calls
says_over (call.Send item answer ∷ calls) = says_over calls

-- How many reads follow the first that reported that.
abbrev pub reads_after_end : List Call → ℕ
reads_after_end [] = 0
reads_after_end (call.Read answer ∷ calls) = if is_end answer then count_by is_read calls else reads_after_end calls
reads_after_end (call.Send item answer ∷ calls) = reads_after_end calls

-- the most messages that are read, and dropped, after a close of either side
abbrev pub drop_limit : ℕ
drop_limit = 64

-- the first bytes of a session that a line keeps, once it was given these
abbrev pub kept_with : Option (List ℕ) → Option (List ℕ) → Option (List ℕ)
kept_with before None = before
kept_with before (Some bytes) = kept_by before bytes

-- The line without its session: `Transferred` is about its text alone. No call of a session moves the text, and none lowers
-- the count of failures.
abbrev pub text_of_line : LineState → LineState → LineState
text_of_line start now = record now { session = start.session }

-- an outcome by a failed write counts one failure, any other none
abbrev pub failures_as : OutcomeClass → ℕ
failures_as (ByWrite n) = 1
failures_as _ = 0

abbrev pub failures_of : Outcome → ℕ
failures_of outcome = failures_as (class_of outcome)

-- how many calls failed in a conversation with this traffic, of text or of the session
abbrev pub failures_in : Outcome → SessionTraffic → ℕ
failures_in outcome traffic = failures_of outcome

-- by the first bytes of a session, if the line came to carry messages: the failed writes of text, if it did not
abbrev pub in_text : Option (List ℕ) → ℕ → ℕ
in_text None failures = failures
in_text (Some bytes) failures = 0

-- the failed sends of the session, if it did
abbrev pub in_session : Option (List ℕ) → ℕ → ℕ
in_session None failures = 0
in_session (Some bytes) failures = failures

abbrev pub is_failed_send : Call → Bool
is_failed_send (call.Read answer) = false
is_failed_send (call.Send item answer) = has_failed answer

-- by how many sends failed: none did, or the last call, and none before it
abbrev pub FailsAs : ℕ → List Call → Type 0
FailsAs zero calls = count_by is_failed_send calls ≡ 0
FailsAs (suc n) calls = (before : List Call) × (item : SentMessage) × (calls ≡ before ++ call.Send item put.Failed ∷ []) × (count_by is_failed_send before ≡ 0)

-- The text was transferred, and this was the traffic of the session.
pub record HasCarried (start now : LineState) (end : InputEnd) (read text : List ℕ) (failures : ℕ) (traffic : SessionTraffic) : Type 0 where
  pub moved : Transferred start (text_of_line start now) end read text (in_text traffic.leftover failures)
  -- the reads of messages and the sends, each with its outcome
  pub calls : List Call
  pub told : now.session.calls ≡ start.session.calls ++ calls
  -- what the reads gave, and whether no more messages come
  pub received : traffic.received ≡ messages_in calls
  pub over : traffic.is_over ≡ says_over calls
  -- if the messages to come are known, they were the first of them
  pub coming : Loses start.session.coming now.session.coming traffic.received
  -- what was sent
  pub handed : traffic.handed ≡ handed_in calls
  -- a send that failed is the last call, and the failure that is counted
  pub fails : FailsAs (in_session traffic.leftover failures) calls
  -- no read is made once one reported that no message follows
  pub unread : reads_after_end calls ≡ 0
  -- at most `drop_limit` reads of messages come after a close of either side, counting those that found nothing yet
  pub few : reads_after_close calls ≤ drop_limit
  pub kept : now.session.leftover ≡ kept_with start.session.leftover traffic.leftover
  -- no message was read or sent if the line did not come to carry messages
  pub quiet : traffic.leftover ≡ None → calls ≡ []
