-- What the end of a task means for its HTTP exchange and for the connection (RFC 9112, sections 9.3 to 9.6).
use Rattle.std.specs.Prelude.{Bool, true, false, if◌then◌else◌}
use Rattle.asgi_types.specs.declared.end_kind.EndKind.{EndKind}
use Rattle.asgi_types.specs.declared.end_kind.EndKind.TheVariants as kind
use Rattle.asgi_request.specs.ChunkedBody.{BodyState, partial, complete, faulty}
use Rattle.asgi_request.specs.Refusals.{status_of}
use Rattle.asgi_response.specs.declared.progress.Progress.{Progress}
use Rattle.asgi_response.specs.declared.progress.Progress.TheVariants.{Nothing, Begun, Complete}
use Rattle.asgi_conversation.specs.declared.following.NextStep.{NextStep}
use Rattle.asgi_conversation.specs.declared.following.NextStep.TheVariants.{NextRequest, ConnectionEnds}
use Rattle.asgi_conversation.specs.declared.input.InputEnd.{InputEnd}
use Rattle.asgi_conversation.specs.declared.input.InputEnd.TheVariants.{Open, AtEnd, Failed}
use Rattle.asgi_conversation.specs.declared.report.Outcome.{Outcome}
use Rattle.asgi_conversation.specs.declared.report.Outcome.TheVariants.{Finished, Refused, InputBroke, Idle}

-- no more bytes come
abbrev pub has_ended : InputEnd → Bool
has_ended Open = false
has_ended AtEnd = true
has_ended Failed = true

abbrev pub is_faulty : BodyState → Bool
is_faulty partial = false
is_faulty (complete after) = false
is_faulty (faulty why) = true

-- The response has not begun. The rest of the body is read, and the server answers in its place.
abbrev pub unanswered : BodyState → Outcome
unanswered (complete after) = Refused 500
unanswered (faulty why) = Refused (status_of why)
unanswered partial = InputBroke

-- The response has begun and is not complete: nothing more is written. If `input_broke`, the input ended, failed or was
-- faulty before the end of the task was taken; after a whole body that does not matter.
abbrev pub incomplete : BodyState → (input_broke : Bool) → Outcome
incomplete (complete after) input_broke = Finished
incomplete (faulty why) input_broke = if input_broke then InputBroke else Finished
incomplete partial input_broke = if input_broke then InputBroke else Finished

-- The response is complete and keeps the connection: the rest of the body is read and dropped (section 9.3).
abbrev pub kept : BodyState → NextStep
kept (complete after) = NextRequest
kept (faulty why) = ConnectionEnds InputBroke
kept partial = ConnectionEnds InputBroke

-- by how far the response is; a complete one that closes does not depend on the body (section 9.6)
abbrev pub after_response : Progress → BodyState → (input_broke : Bool) → NextStep
after_response Nothing state input_broke = ConnectionEnds (unanswered state)
after_response Begun state input_broke = ConnectionEnds (incomplete state input_broke)
after_response (Complete true) state input_broke = ConnectionEnds Finished
after_response (Complete false) state input_broke = kept state

-- by how the task ended; a task that a limit on turns ended ends the connection too
abbrev pub after_task : EndKind → Progress → BodyState → (input_broke : Bool) → NextStep
after_task kind.Returned progress state input_broke = after_response progress state input_broke
after_task kind.Faulted progress state input_broke = after_response progress state input_broke
after_task kind.Idle progress state input_broke = ConnectionEnds Idle
