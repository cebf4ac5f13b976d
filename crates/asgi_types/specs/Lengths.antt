-- The value of a content-length field as a number (RFC 9110, section 8.6).
use Rattle.std.specs.Prelude.{ℕ, ◌+◌, ◌-◌, ◌*◌, Bool, ◌&&◌, nat_le, List, length, Option, Some, None, if◌then◌else◌}
use Rattle.std.specs.List.{fold, list_all}

abbrev pub is_digit : ℕ → Bool
is_digit byte = nat_le 48 byte && nat_le byte 57

-- the number that the digits write
abbrev pub number_of : List ℕ → ℕ
number_of digits = fold (λ n digit. n * 10 + (digit - 48)) 0 digits

-- 1 to 19 digits, so that the number fits 64 bits
abbrev pub is_length : List ℕ → Bool
is_length text = nat_le 1 (length text) && nat_le (length text) 19 && list_all is_digit text

abbrev pub length_of_text : List ℕ → Option ℕ
length_of_text text = if is_length text then Some (number_of text) else None
