-- What a script holds: the bytes of text, and the messages.
use Rattle.std.specs.Prelude.{◌≡◌, ℕ, ◌-◌, Bool, true, nat_lt, Option, Some, None, List, [], ◌∷◌, ◌++◌}
use Rattle.asgi_ws.specs.declared.messages.Msg.{Msg}
use Rattle.asgi_ws.specs.declared.pieces.ScriptBytes.{ScriptBytes}
use Rattle.asgi_ws.specs.declared.pieces.ScriptBytes.TheVariants as piece
use Rattle.asgi_ws.specs.declared.lists.ScriptRead.{ScriptRead}
use Rattle.asgi_ws.specs.declared.lists.ScriptRead.TheVariants as turn

-- the bytes of all pieces, in order
abbrev pub bytes_of : List ScriptBytes → List ℕ
bytes_of [] = []
bytes_of (piece.Bytes v ∷ rest) = v.items ++ bytes_of rest
bytes_of (piece.WouldBlock ∷ rest) = bytes_of rest
bytes_of (piece.Fault ∷ rest) = bytes_of rest

-- the messages of all reads, in order
abbrev pub messages_of : List ScriptRead → List Msg
messages_of [] = []
messages_of (turn.Message m ∷ rest) = m ∷ messages_of rest
messages_of (turn.Idle ∷ rest) = messages_of rest
messages_of (turn.Fault ∷ rest) = messages_of rest

-- the message of the first read, if it has one
abbrev pub first_message : List ScriptRead → List Msg
first_message [] = []
first_message (turn.Message m ∷ rest) = m ∷ []
first_message (turn.Idle ∷ rest) = []
first_message (turn.Fault ∷ rest) = []

-- the next read fails or would block; an empty piece would block too
abbrev pub IsHeldUp : List ScriptBytes → Type 0
IsHeldUp [] = ⊥
IsHeldUp (piece.Bytes v ∷ rest) = v.items ≡ []
IsHeldUp (piece.WouldBlock ∷ rest) = Unit {0}
IsHeldUp (piece.Fault ∷ rest) = Unit {0}

-- one more call succeeds; `None` means any number
abbrev pub is_left : Option ℕ → Bool
is_left None = true
is_left (Some n) = nat_lt 0 n

-- how many calls succeed after one more
abbrev pub one_less : Option ℕ → Option ℕ
one_less None = None
one_less (Some n) = Some (n - 1)
