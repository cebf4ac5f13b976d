-- How many reads of messages come after a close, with one more call.
use Rattle.asgi_halves.proofs.HalfWords.{◌≡◌, ℕ, ◌+◌, ◌≤◌, Bool, true, false, List, [], ◌∷◌, ◌++◌, map, refl, sym, ◌∙◌, arith, append_assoc, count_by, Facts, Outgoing, Got, Put, SentMessage, Call}
use Rattle.asgi_halves.proofs.HalfWords.{is_read, append-nil}
use Rattle.asgi_exchange.specs.{Messages.has_close, Session.Byte, Session.Handshake, Session.Message, Session.Output, Session.message_of, Session.output_of}
use Rattle.asgi_halves.specs.{Traffic.FailsAs, Traffic.is_end, Traffic.is_failed_send, Traffic.reads_after_end, Traffic.says_over, WebSocketHalf.answer_to, declared.session_half.Answered.Answered}
use Rattle.asgi_types.specs.declared.scope.Kind.{Kind}
use Rattle.asgi_ws.specs.{Sessions.handed_in, Sessions.is_close, Sessions.messages_in, Sessions.reads_after_close, declared.messages.Msg.Msg}
use Rattle.std.proofs.Common.{◌||◌}
use Rattle.std.proofs.lemmas.List.{map-append, Sums.sum_by-append}
use Rattle.std.specs.{List.flat_map, Prelude.if◌then◌else◌}
use Rattle.asgi_protocol.specs.Shapes as shapes

-- ---- one more call

counted : (test : Call → Bool) (calls : List Call) (c : Call) → count_by test (calls ++ c ∷ []) ≡ count_by test calls + count_by test (c ∷ [])
counted test calls c = sum_by-append _ calls (c ∷ [])

same_either : (b : Bool) (n : ℕ) → (if b then n else n) ≡ n
same_either b n = grind arith

-- a read is at most one more
pub read_after : (calls : List Call) (answer : Got) → reads_after_close (calls ++ Call.Read answer ∷ []) ≤ reads_after_close calls + 1
read_after [] answer = omega (arith, same_either (is_close (Call.Read answer)) 0)
read_after (first ∷ calls) answer = grind (arith, read_after calls answer, counted is_read calls (Call.Read answer))

-- a send is none
sends_none : (calls : List Call) (item : SentMessage) (answer : Put) → count_by is_read (calls ++ Call.Send item answer ∷ []) ≡ count_by is_read calls
sends_none calls item answer = omega (arith, counted is_read calls (Call.Send item answer))

pub send_after : (calls : List Call) (item : SentMessage) (answer : Put) → reads_after_close (calls ++ Call.Send item answer ∷ []) ≡ reads_after_close calls
send_after [] item answer = same_either (is_close (Call.Send item answer)) 0
send_after (first ∷ calls) item answer = rw (sends_none calls item answer, send_after calls item answer)

-- ---- no message follows

-- no read was made after a report of that, if there was none
pub none_after_end : (calls : List Call) (answer : Got) → says_over calls ≡ false → reads_after_end (calls ++ Call.Read answer ∷ []) ≡ 0
none_after_end [] answer goes_on = same_either (is_end answer) 0
none_after_end (Call.Read first ∷ calls) answer goes_on = grind (arith, none_after_end calls answer)
none_after_end (Call.Send item result ∷ calls) answer goes_on = none_after_end calls answer goes_on

pub end_send : (calls : List Call) (item : SentMessage) (answer : Put) → reads_after_end (calls ++ Call.Send item answer ∷ []) ≡ reads_after_end calls
end_send [] item answer = refl
end_send (first ∷ calls) item answer = grind (arith, sends_none calls item answer, end_send calls item answer)

-- ---- a send that failed

-- how many sends with this result failed
abbrev pub failures_by : Put → ℕ
failures_by Put.Failed = 1
failures_by _ = 0

pub none_fails_after : (calls : List Call) (answer : Got) → count_by is_failed_send calls ≡ 0 → count_by is_failed_send (calls ++ Call.Read answer ∷ []) ≡ 0
none_fails_after calls answer none = omega (arith, none, counted is_failed_send calls (Call.Read answer))

pub fails_after : (calls : List Call) (item : SentMessage) (answer : Put) → count_by is_failed_send calls ≡ 0 → FailsAs (failures_by answer) (calls ++ Call.Send item answer ∷ [])
fails_after calls item Put.Failed none = (calls, item, refl, none)
fails_after calls item answer none = omega (arith, none, counted is_failed_send calls (Call.Send item answer))

-- ---- no close

-- a close went out
abbrev pub closes : List Output → Bool
closes [] = false
closes (Message (SentMessage.Close code reason) ∷ out) = true
closes (_ ∷ out) = closes out

-- if none was read and none went out, no read comes after a close
pub none_after : (calls : List Call) → has_close (messages_in calls) ≡ false → closes (map Message (handed_in calls)) ≡ false → (answer : Got)
    → reads_after_close (calls ++ Call.Read answer ∷ []) ≡ 0
none_after [] received sent answer = same_either (is_close (Call.Read answer)) 0
none_after (Call.Read (Got.Message (Msg.Close close)) ∷ calls) received sent answer = absurd (cc received)
none_after (Call.Send (SentMessage.Close code reason) Put.Done ∷ calls) received sent answer = absurd (cc sent)
none_after (Call.Send (SentMessage.Payload payload) Put.Done ∷ calls) received sent answer = none_after calls received sent answer
none_after (_ ∷ calls) received sent answer = none_after calls received sent answer

-- text has none
pub closes_after : (text : List ℕ) (out : List Output) → closes (map Byte text ++ out) ≡ closes out
closes_after [] out = refl
closes_after (b ∷ text) out = closes_after text out

pub or_none : (b : Bool) → (b || false) ≡ b
or_none b = grind arith

not_whole : (b : Bool) → (if b then Answered.Closed else Answered.Open) ≡ Answered.Open → b ≡ false
not_whole b h = grind arith

row_closes : (events : List Outgoing) → shapes.begins_row shapes.is_message shapes.is_close shapes.is_empty events ≡ true → shapes.is_row shapes.is_message shapes.is_close shapes.is_empty events ≡ false
    → closes (flat_map message_of events) ≡ false
row_closes [] begins part = refl
row_closes (Outgoing.WsSend payload ∷ events) begins part =
    row_closes events (sym (or_none (shapes.begins_row shapes.is_message shapes.is_close shapes.is_empty events)) ∙ begins) (sym (or_none (shapes.is_row shapes.is_message shapes.is_close shapes.is_empty events)) ∙ part)
row_closes (Outgoing.WsClose code reason ∷ events) begins part = absurd (cc (begins, part))
row_closes (_ ∷ events) begins part = absurd (cc begins)

-- nor has what is written in an open session
pub open_closes : (handshake : Handshake) (facts : Facts) (said : List Outgoing) → shapes.begins_word Kind.WebSocket said ≡ true → answer_to said ≡ Answered.Open
    → closes (output_of handshake facts said) ≡ false
open_closes handshake facts (Outgoing.WsAccept subprotocol headers ∷ events) begins is =
    closes_after (handshake subprotocol headers) (flat_map message_of events) ∙ row_closes events begins (not_whole (shapes.is_row shapes.is_message shapes.is_close shapes.is_empty events) is)
open_closes handshake facts _ begins is = absurd (cc is)

-- ---- what is out

-- with one more text, if no message was sent
pub as_text : (text part : List ℕ) (handed : List SentMessage) (written : List Output) → handed ≡ [] → written ≡ map Byte text ++ map Message handed
    → map Byte (text ++ part) ++ map Message handed ≡ written ++ map Byte part
as_text text part handed written none is = rw (is, none) (simp (append-nil, map-append))

-- with more messages
pub as_messages : (text : List ℕ) (handed more : List SentMessage) (written : List Output) → written ≡ map Byte text ++ map Message handed
    → map Byte text ++ map Message (handed ++ more) ≡ written ++ map Message more
as_messages text handed more written is = rw is (simp (map-append, append_assoc))
