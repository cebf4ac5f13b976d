-- A short text in a buffer of 123 bytes, with zero bytes after it.
use Rattle.std.specs.Prelude.{◌≡◌, ℕ, ◌-◌, ◌≤◌, List, ◌++◌, length, take, drop, replicate}
use Rattle.std.specs.Str.{IsUtf8}

-- the buffer holds a text of n bytes
pub record IsPadded (text : List ℕ) (n : ℕ) : Type 0 where
  pub size : length text ≡ 123
  pub fits : n ≤ 123
  pub padding : drop n text ≡ replicate (123 - n) 0

-- the buffer with these bytes
abbrev pub padded : List ℕ → List ℕ
padded bytes = bytes ++ replicate (123 - length bytes) 0

-- and the text is UTF-8, as a close frame's reason is (RFC 6455, section 5.5.1)
pub record IsReason (text : List ℕ) (n : ℕ) : Type 0 where
  pub in_buffer : IsPadded text n
  pub utf8 : IsUtf8 (take n text)
