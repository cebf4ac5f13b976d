-- A method is text, and so is it in upper case.
use Rattle.std.proofs.Common.{◌≡◌, ℕ, ◌<◌, List, [], ◌∷◌, map, All, IsTrue, arith}
use Rattle.std.specs.Str.{IsUtf8}
use Rattle.std.specs.Char.{to_ascii_uppercase}
use Rattle.std.proofs.lemmas.Bool.Decides.{nat_tests}
use Rattle.std.proofs.lemmas.List.Elements.{All-nil, All-cons, All-head, All-tail, All-weaker}
use Rattle.std.proofs.lemmas.Str.{IsUtf8-from_ascii}
use Rattle.std.proofs.lemmas.Str.Ascii.{uppercase_ascii, IsAscii-from_all}
use Rattle.httparse.specs.Grammar.{is_token_byte, IsToken}

abbrev IsSmall : ℕ → Type 0
IsSmall b = b < 128

upper_small : (bytes : List ℕ) → All IsSmall bytes → All IsSmall (map to_ascii_uppercase bytes)
upper_small [] all = All-nil IsSmall
upper_small (b ∷ bytes) all =
    All-cons IsSmall (to_ascii_uppercase b) (map to_ascii_uppercase bytes)
    (uppercase_ascii b (All-head IsSmall b bytes all)) (upper_small bytes (All-tail IsSmall b bytes all))

-- the bytes of a text in upper case are a text
pub upper_text : (bytes upper : List ℕ) → All IsSmall bytes → upper ≡ map to_ascii_uppercase bytes → IsUtf8 upper
upper_text bytes upper all is =
    rw is (IsUtf8-from_ascii (map to_ascii_uppercase bytes) (IsAscii-from_all (map to_ascii_uppercase bytes) (upper_small bytes all)))

token_small : (b : ℕ) → IsTrue (is_token_byte b) → b < 128
unfolding is_token_byte
token_small b h = grind (arith, nat_tests)

pub token_text : (name : List ℕ) → IsToken name → All IsSmall name
token_text name t = All-weaker (λ b. IsTrue (is_token_byte b)) IsSmall token_small name t.1
