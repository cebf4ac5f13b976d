-- Answers that are ready, and what is added to a reply to a handshake.
use Rattle.std.specs.Prelude.{ℕ, List, [], ◌∷◌, ◌++◌, Some, None}
use Rattle.asgi_types.specs.Fields.{HeaderField}
use Rattle.asgi_types.specs.declared.incoming.Payload.{Payload}
use Rattle.asgi_talks.specs.declared.answer.Answer.{Answer}
use Rattle.asgi_talks.specs.declared.answer.Close.{Close}
use Rattle.asgi_talks.specs.declared.opened.Opened.{Opened}
use Rattle.asgi_talks.specs.declared.opened.Opened.TheVariants.{Accepted, Refused}

-- nothing is sent
abbrev pub no_answer : Answer
no_answer = record { messages = []; close = None }

-- one message
abbrev pub message_answer : Payload → Answer
message_answer message = record { messages = message ∷ []; close = None }

abbrev pub close_of : ℕ → List ℕ → Close
close_of code reason = record { code = code; reason = reason }

-- the session is closed
abbrev pub close_answer : ℕ → List ℕ → Answer
close_answer code reason = record { messages = []; close = Some (close_of code reason) }

module _ {S : Type 0} where
  -- the session is accepted with this subprotocol
  abbrev pub subprotocol_chosen : Opened S → List ℕ → Opened S
  subprotocol_chosen (Accepted subprotocol headers session) name = Accepted (Some name) headers session
  subprotocol_chosen Refused name = Refused

  -- and with one more field
  abbrev pub field_added : Opened S → HeaderField → Opened S
  field_added (Accepted subprotocol headers session) field = Accepted subprotocol (headers ++ field ∷ []) session
  field_added Refused field = Refused
