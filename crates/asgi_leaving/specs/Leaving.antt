-- What a session is told by a line whose server asks for its client, or goes away (RFC 6455, sections 5.5.2 and 7.4.1; ASGI WebSocket
-- message format 2.4, "Disconnect").
use Rattle.std.specs.Prelude.{◌≡◌, ◌⊎◌, List, [], ◌∷◌, Option, Some, None, reverse}
use Rattle.asgi_ws.specs.declared.messages.Msg.{Msg}
use Rattle.asgi_ws.specs.declared.messages.Msg.TheVariants as msg
use Rattle.asgi_ws.specs.declared.messages.Got.{Got}
use Rattle.asgi_ws.specs.declared.messages.Got.TheVariants as got
use Rattle.asgi_ws.specs.declared.messages.Call.{Call}
use Rattle.asgi_ws.specs.declared.messages.Call.TheVariants as call
use Rattle.asgi_leaving.specs.declared.notice.Farewell.{Farewell}
use Rattle.asgi_leaving.specs.declared.notice.Notice.{Notice}
use Rattle.asgi_leaving.specs.declared.notice.Notice.TheVariants as notice
use Rattle.asgi_leaving.specs.Notices.{code_of, heard_of, next_of}

-- a close with the code, and no reason
abbrev pub close_of : Farewell → Msg
close_of why = msg.Close (Some (code_of why, []))

-- Where nothing has arrived: nothing is told, or the client is asked, if its ping can be sent, or the session is told to end.
abbrev pub TellsIdle : (next before after : Notice) → Got → Type 0
TellsIdle notice.Nothing before after told = (told ≡ got.Idle) × (after ≡ before)
TellsIdle notice.Ping before after told = (told ≡ got.Idle) × ((after ≡ before) ⊎ (after ≡ notice.Ping))
TellsIdle (notice.Close why) before after told = (told ≡ got.Message (close_of why)) × (after ≡ notice.Close why)

-- By what is due, what was told before and after since the client was heard, and what the line below found. What was found is told, and the
-- client is heard by a message, as by a pong.
abbrev pub Tells : (due before after : Notice) → (found told : Got) → Type 0
Tells due before after (got.Message m) told = (told ≡ got.Message m) × (after ≡ heard_of before)
Tells due before after got.Idle told = TellsIdle (next_of before due) before after told
Tells due before after got.Ended told = (told ≡ got.Ended) × (after ≡ before)
Tells due before after got.Failed told = (told ≡ got.Failed) × (after ≡ before)
Tells due before after got.NoMemory told = (told ≡ got.NoMemory) × (after ≡ before)

-- ---- the calls of the session, by those of the line below

-- a call whose answer was changed is a read that gave a close
abbrev pub told_call : (changed : Option Farewell) → Call → Call
told_call (Some why) one = call.Read (got.Message (close_of why))
told_call None one = one

-- the last calls first
abbrev pub told_last : List (Option Farewell) → List Call → List Call
told_last [] calls = calls
told_last (changed ∷ more) [] = []
told_last (changed ∷ more) (one ∷ calls) = told_call changed one ∷ told_last more calls

-- of the last ones it is known whether their answers were changed
abbrev pub told_calls : List (Option Farewell) → List Call → List Call
told_calls changed calls = reverse (told_last (reverse changed) (reverse calls))
