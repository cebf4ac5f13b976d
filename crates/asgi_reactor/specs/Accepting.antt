-- What an answer of a reactor says of what was accepted.
use Rattle.std.specs.Prelude.{⊤, ℕ, ◌+◌, List, length, Option}
use Rattle.asgi_many.specs.Serving.{came_in}
use Rattle.asgi_many.specs.declared.reactor.Next.{Next}
use Rattle.asgi_many.specs.declared.reactor.Next.TheVariants.{Arrived, NoneNow, NoneEver}
use Rattle.asgi_many.specs.declared.seat.Newcomer.{Newcomer}
use Rattle.asgi_reactor.specs.declared.quota.Quota.{Quota}
use Rattle.asgi_reactor.specs.declared.quota.Ticketer.{Ticketer}
use Rattle.asgi_reactor.specs.Shares.{Share, new_share, share_of}

-- this holds of the newcomer, if there is one
abbrev pub IfArrived : {L : Type 0} → Next L → (Newcomer L → Type 0) → Type 0
IfArrived (Arrived newcomer) P = P newcomer
IfArrived NoneNow P = ⊤
IfArrived NoneEver P = ⊤

-- there is none
abbrev pub IsNone : {L : Type 0} → Next L → Type 0
IsNone (Arrived newcomer) = ⊥
IsNone NoneNow = ⊤
IsNone NoneEver = ⊤

-- none will come any more
abbrev pub IsNoneEver : {L : Type 0} → Next L → Type 0
IsNoneEver (Arrived newcomer) = ⊥
IsNoneEver NoneNow = ⊥
IsNoneEver NoneEver = ⊤

-- how many came and will still be accepted at the most, if a reactor has answered so and this many are left
abbrev pub in_all : {L : Type 0} → List (Next L) → ℕ → ℕ
in_all answers left = length (came_in answers) + left

-- what each call keeps: that, and what it has of a quota
abbrev pub kept_in : {L : Type 0} → List (Next L) → ℕ → Option Ticketer → ℕ × Share
kept_in answers left ticketer = (in_all answers left, share_of ticketer left)

-- the same of one that was asked for none yet, and that has taken no ticket
abbrev pub kept_at : ℕ → Option Quota → ℕ × Share
kept_at left quota = (left, new_share quota left)
