-- Which bytes are the head of a request (RFC 9112, sections 2.1 and 2.2).
use Rattle.std.specs.Prelude.{◌≡◌, ℕ, Bool, false, ◌||◌, List, ◌∷◌, ◌++◌, ◌==◌, IsTrue, All}
use Rattle.httparse.specs.Ascii.{line_feed, carriage_return}
use Rattle.httparse.specs.Grammar.{LineEnd, print_end}

-- CR or LF
abbrev pub is_line_break : ℕ → Bool
is_line_break b = b == carriage_return || b == line_feed

-- The text ends as a head does: after empty lines and the first byte of a line, somewhere a line feed and then an empty line,
-- which is CR LF or, as section 2.2 lets a server accept, LF alone.
pub record EndsAsHead (text : List ℕ) : Type 0 where
  pub blank : List ℕ
  pub first : ℕ
  pub lines : List ℕ
  pub last : LineEnd
  pub only_breaks : All (λ b. IsTrue (is_line_break b)) blank
  pub no_break : is_line_break first ≡ false
  pub text_is : text ≡ blank ++ first ∷ lines ++ line_feed ∷ print_end last
