-- What is known of the calls of a stream.
use Rattle.std.specs.Prelude.{◌≡◌, ℕ, List, [], ◌∷◌, ◌++◌, Option, Some, None, Result, Ok, Err, ⊤}
use Rattle.std.specs.IoError.{error_kind}
use Rattle.std.specs.declared.io.Error.{Error}
use Rattle.std.specs.declared.io.ErrorKind.{ErrorKind}

-- A call, with what the stream returned: a read into this much room, a write of these bytes, or a flush.
pub data StreamCall : Type 0 where
  Read : ℕ → Result ℕ Error → StreamCall
  Write : List ℕ → Result ℕ Error → StreamCall
  Flush : Result (Unit {0}) Error → StreamCall

-- known calls grow by these; None claims nothing
abbrev pub Adds : Option (List StreamCall) → Option (List StreamCall) → List StreamCall → Type 0
Adds None new calls = ⊤
Adds (Some before) None calls = ⊥
Adds (Some before) (Some after) calls = after ≡ before ++ calls

-- this one call was made of a stream, which is still there
abbrev pub Asks : {S : Type 0} → (S → Option (List StreamCall)) → Option S → Option S → StreamCall → Type 0
Asks calls None after call = ⊤
Asks calls (Some stream) None call = ⊥
Asks calls (Some stream) (Some after) call = Adds (calls stream) (calls after) (call ∷ [])

-- the call failed with an error of this kind
abbrev pub FailsWith : {A : Type 0} → ErrorKind → Result A Error → Type 0
FailsWith kind (Ok done) = ⊥
FailsWith kind (Err e) = error_kind e ≡ kind
