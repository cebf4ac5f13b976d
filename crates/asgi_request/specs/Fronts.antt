-- Words of `Places.antt` and `BodyOf.antt`; the laws state what these mean. Where a text ends that is judged only once it is
-- whole: a head, a size line, a trailer section, or n bytes.
use Rattle.std.specs.Prelude.{ℕ, ◌+◌, ◌-◌, ◌&&◌, List, [], ◌∷◌, length, take, if◌then◌else◌, ◌==◌, nat_lt, nat_le, Option, Some, None}
use Rattle.std.specs.Option.{option_map}
use Rattle.httparse.specs.Ascii.{line_feed, carriage_return}
use Rattle.asgi_request.specs.HeadText.{is_line_break}

-- the length of an empty line at the front, LF or CR LF, or 0 if there is none
abbrev pub empty_line_len : List ℕ → ℕ
empty_line_len [] = 0
empty_line_len (a ∷ []) = if a == line_feed then 1 else 0
empty_line_len (a ∷ b ∷ rest) = if a == line_feed then 1 else (if a == carriage_return && b == line_feed then 2 else 0)

-- n more
abbrev pub more : ℕ → Option ℕ → Option ℕ
more n found = option_map (λ m. n + m) found

-- the length up to the end of the first empty line that follows a line feed
abbrev pub lines_len : List ℕ → Option ℕ
lines_len [] = None
lines_len (b ∷ rest) =
    if b == line_feed && nat_lt 0 (empty_line_len rest) then Some (1 + empty_line_len rest) else more 1 (lines_len rest)

-- the length of the head text: empty lines, a first byte that is neither CR nor LF, and all up to the first empty line after it
abbrev pub head_len : List ℕ → Option ℕ
head_len [] = None
head_len (b ∷ rest) = more 1 (if is_line_break b then head_len rest else lines_len rest)

-- the length of the line: up to the first line feed
abbrev pub line_len : List ℕ → Option ℕ
line_len [] = None
line_len (b ∷ rest) = if b == line_feed then Some 1 else more 1 (line_len rest)

-- the length of the trailer section: the line feed before it may be the one that its empty line follows
abbrev pub trailer_len : List ℕ → Option ℕ
trailer_len bytes = option_map (λ n. n - 1) (lines_len (line_feed ∷ bytes))

-- what the bytes begin with
pub data Front : Type 0 where
  -- a whole text
  found : List ℕ → Front
  -- no text ends within the limit
  too_long : Front
  -- more bytes are needed
  unfinished : Front

-- what the bytes begin with, a text having at most limit bytes
abbrev pub front_at : ℕ → List ℕ → Option ℕ → Front
front_at limit bytes (Some n) = if nat_le n limit then found (take n bytes) else too_long
front_at limit bytes None = if nat_le limit (length bytes) then too_long else unfinished

-- the first n bytes
abbrev pub first : ℕ → List ℕ → Front
first n bytes = if nat_le n (length bytes) then found (take n bytes) else unfinished

-- the text that was found
abbrev pub front_text : Front → List ℕ
front_text (found text) = text
front_text too_long = []
front_text unfinished = []
