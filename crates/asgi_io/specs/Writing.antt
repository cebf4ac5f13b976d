-- The writing of a text: what the writer then holds, and how often it was tried.
use Rattle.std.specs.Prelude.{◌≡◌, ℕ, ◌<◌, ◌≤◌, List, [], ◌∷◌, ◌++◌, length, take, All, replicate, Option}
use Rattle.std.specs.List.{sum_by}
use Rattle.std.specs.Io.KnownBytes.{Appends}
use Rattle.asgi_io.specs.declared.answer.Answer.{Answer}
use Rattle.asgi_io.specs.declared.answer.Answer.TheVariants as answer
use Rattle.asgi_io.specs.declared.write.Wrote.{Wrote}
use Rattle.asgi_io.specs.declared.write.Wrote.TheVariants.{Done, Failed}
use Rattle.asgi_io.specs.Counting.{RoseBy}

-- all of the text went out, or its first n bytes and not all, and then the count of failures rose
abbrev pub WritesOut : Option (List ℕ) → Option (List ℕ) → ℕ → ℕ → List ℕ → Wrote → Type 0
WritesOut old new failed_before failed_after text Done = Appends old new text × RoseBy 0 failed_before failed_after
WritesOut old new failed_before failed_after text (Failed n) =
    Appends old new (take n text) × (n < length text) × RoseBy 1 failed_before failed_after

-- how often in a row a write that pauses is tried again
abbrev pub retries : ℕ
retries = 1000

-- a part of a text went out: some bytes, after pauses in a row
pub record Part : Type 0 where
  pub pauses : ℕ
  pub bytes : ℕ

abbrev pub IsPart : Part → Type 0
IsPart part = (part.pauses ≤ retries) × (0 < part.bytes)

-- the answers to the writes of the parts, in order
abbrev pub part_answers : List Part → List Answer
part_answers [] = []
part_answers (part ∷ parts) = replicate part.pauses answer.Paused ++ answer.Moved part.bytes ∷ part_answers parts

-- no write follows this answer, which comes after this many pauses in a row since the last bytes
abbrev pub IsFatal : ℕ → Answer → Type 0
IsFatal pauses answer.Failed = Unit {0}
IsFatal pauses answer.Nothing = Unit {0}
IsFatal pauses answer.Paused = pauses ≡ retries
IsFatal pauses (answer.Moved n) = ⊥

-- the answers at the end of a text: none if all of it went out, else pauses, and one at which writing stopped
abbrev pub IsEnd : Wrote → List Answer → Type 0
IsEnd Done end = end ≡ []
IsEnd (Failed n) end = (pauses : ℕ) × (last : Answer)
    × (pauses ≤ retries) × IsFatal pauses last × (end ≡ replicate pauses answer.Paused ++ last ∷ [])

-- A text was written of which out bytes went out: its parts, and an end.
pub record TriesWrites (before after : List Answer) (out : ℕ) (wrote : Wrote) : Type 0 where
  pub parts : List Part
  pub end : List Answer
  pub each : All IsPart parts
  pub sum : sum_by (λ part. part.bytes) parts ≡ out
  pub ends : IsEnd wrote end
  pub told : after ≡ before ++ part_answers parts ++ end

-- how many bytes of a text went out
abbrev pub out_of : List ℕ → Wrote → ℕ
out_of text Done = length text
out_of text (Failed n) = n

-- ---- the words of the private functions of writing, which state no promise

-- a part was tried, and out bytes of it went out: 0 if writing stopped
pub record TriesPart (before after : List Answer) (out : ℕ) : Type 0 where
  pub pauses : ℕ
  pub last : Answer
  pub few : pauses ≤ retries
  pub went : 0 < out → last ≡ answer.Moved out
  pub stopped : out ≡ 0 → IsFatal pauses last
  pub told : after ≡ before ++ replicate pauses answer.Paused ++ last ∷ []
