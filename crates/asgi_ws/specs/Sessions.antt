-- What a call of a session does to the lists of its line.
use Rattle.std.specs.Prelude.{◌≡◌, ℕ, ◌+◌, ◌-◌, ◌^◌, min, Bool, true, false, List, [], ◌∷◌, ◌++◌, Option, Some, None, ⊤, if◌then◌else◌}
use Rattle.std.specs.List.{count_by, flat_map}
use Rattle.asgi_ws.specs.declared.messages.Msg.{Msg}
use Rattle.asgi_ws.specs.declared.messages.Msg.TheVariants as msg
use Rattle.asgi_ws.specs.declared.messages.Got.{Got}
use Rattle.asgi_ws.specs.declared.messages.Got.TheVariants as got
use Rattle.asgi_ws.specs.declared.messages.Put.{Put}
use Rattle.asgi_ws.specs.declared.messages.Put.TheVariants as put
use Rattle.asgi_ws.specs.declared.messages.SentMessage.{SentMessage}
use Rattle.asgi_ws.specs.declared.messages.SentMessage.TheVariants as item
use Rattle.asgi_ws.specs.declared.messages.Call.{Call}
use Rattle.asgi_ws.specs.declared.messages.Call.TheVariants as call

-- the messages that a read returned: one or none
abbrev pub given_by : Got → List Msg
given_by (got.Message m) = m ∷ []
given_by got.Idle = []
given_by got.Ended = []
given_by got.Failed = []
given_by got.NoMemory = []

-- what went out with this result: the item or nothing
abbrev pub taken_by : SentMessage → Put → List SentMessage
taken_by item put.Done = item ∷ []
taken_by item put.Failed = []
taken_by item put.NoMemory = []

-- what one call read, and what it sent out
abbrev pub read_by : Call → List Msg
read_by (call.Read answer) = given_by answer
read_by (call.Send item answer) = []

abbrev pub sent_by : Call → List SentMessage
sent_by (call.Read answer) = []
sent_by (call.Send item answer) = taken_by item answer

-- the messages that were read, in order
abbrev pub messages_in : List Call → List Msg
messages_in calls = flat_map read_by calls

-- what went out, in order
abbrev pub handed_in : List Call → List SentMessage
handed_in calls = flat_map sent_by calls

-- a close that was read, or that went out (RFC 6455, section 5.5.1)
abbrev pub is_close : Call → Bool
is_close (call.Read (got.Message (msg.Close close))) = true
is_close (call.Send (item.Close code reason) put.Done) = true
is_close _ = false

abbrev pub is_read : Call → Bool
is_read (call.Read answer) = true
is_read (call.Send item answer) = false

abbrev pub is_payload : Call → Bool
is_payload (call.Send (item.Payload payload) answer) = true
is_payload _ = false

-- the same send with another result
abbrev pub with_answer : Call → Put → Call
with_answer (call.Read answer) other = call.Read answer
with_answer (call.Send item answer) other = call.Send item other

-- How many reads follow the first close. No data follows a close (RFC 6455, section 5.5.1), and whoever closes the connection
-- discards what is still received (section 7.1.1); how much of it is read is the limit of this server.
abbrev pub reads_after_close : List Call → ℕ
reads_after_close [] = 0
reads_after_close (c ∷ calls) = if is_close c then count_by is_read calls else reads_after_close calls

abbrev pub is_failed : Got → Bool
is_failed (got.Message m) = false
is_failed got.Idle = false
is_failed got.Ended = false
is_failed got.Failed = true
is_failed got.NoMemory = false

abbrev pub has_failed : Put → Bool
has_failed put.Done = false
has_failed put.Failed = true
has_failed put.NoMemory = false

-- the count of failures after a call: it stops at the greatest `u64`
abbrev pub count_after : ℕ → Bool → ℕ
count_after n true = min (n + 1) (2 ^ 64 - 1)
count_after n false = n

-- known messages to come begin with these, which are then removed; None claims nothing
abbrev pub Loses : Option (List Msg) → Option (List Msg) → List Msg → Type 0
Loses None new ms = ⊤
Loses (Some xs) None ms = ⊥
Loses (Some xs) (Some ys) ms = xs ≡ ms ++ ys

abbrev pub IsNoneLeft : Option (List Msg) → Type 0
IsNoneLeft None = ⊤
IsNoneLeft (Some xs) = xs ≡ []

-- the input has ended only if no known message is left
abbrev pub EndsAt : Got → Option (List Msg) → Type 0
EndsAt (got.Message m) left = ⊤
EndsAt got.Idle left = ⊤
EndsAt got.Ended left = IsNoneLeft left
EndsAt got.Failed left = ⊤
EndsAt got.NoMemory left = ⊤

-- the first call keeps the bytes, a later one changes nothing
abbrev pub kept_by : Option (List ℕ) → List ℕ → Option (List ℕ)
kept_by None bytes = Some bytes
kept_by (Some before) bytes = Some before
