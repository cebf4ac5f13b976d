-- What a reactor has of a quota.
use Rattle.std.specs.Prelude.{◌≡◌, ℕ, ◌+◌, true, Option, Some, None}
use Rattle.asgi_reactor.specs.declared.quota.Quota.{Quota}
use Rattle.asgi_reactor.specs.declared.quota.Tally.{Tally}
use Rattle.asgi_reactor.specs.declared.quota.Ticketer.{Ticketer}

-- what it has taken and found
abbrev pub known : Ticketer → Tally
known ticketer = ticketer.seat.me.0

-- it found that each ticket was spent
abbrev pub FoundSpent : Ticketer → Type 0
FoundSpent ticketer = (known ticketer).over ≡ true

-- which quota it is, if there is one
abbrev pub quota_of : Option Ticketer → Option Quota
quota_of (Some ticketer) = Some ticketer.quota.now
quota_of None = None

-- Which it is, how many tickets are in hand, and how many were spent and still may be, if this many connections are left to the reactor.
abbrev pub Share : Type 0
Share = Option (Quota × ℕ × ℕ)

abbrev pub share_of : Option Ticketer → ℕ → Share
share_of (Some ticketer) left = Some (ticketer.quota.now, (known ticketer).held, left + (known ticketer).spent)
share_of None left = None

-- the same of one that has none in hand and has spent none
abbrev pub new_share : Option Quota → ℕ → Share
new_share (Some quota) left = Some (quota, 0, left)
new_share None left = None
