-- How bodies count against the bytes that a content-length promises; `None` for any number.
use Rattle.std.specs.Prelude.{ℕ, ◌+◌, ◌-◌, Bool, false, nat_lt, Option, Some, None}

-- n bytes go past the promised ones
abbrev pub is_above : ℕ → Option ℕ → Bool
is_above n None = false
is_above n (Some promised) = nat_lt promised n

-- n bytes fall short of the promised ones
abbrev pub is_below : ℕ → Option ℕ → Bool
is_below n None = false
is_below n (Some promised) = nat_lt n promised

-- what is left of the promised bytes after n
abbrev pub left_after : Option ℕ → ℕ → Option ℕ
left_after None n = None
left_after (Some promised) n = Some (promised - n)

-- the promised bytes, from those that are sent and those that are left
abbrev pub with_sent : ℕ → Option ℕ → Option ℕ
with_sent sent None = None
with_sent sent (Some left) = Some (sent + left)
