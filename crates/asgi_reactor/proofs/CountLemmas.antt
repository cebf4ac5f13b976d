-- How many connections came, once a reactor was asked for one more.
use Rattle.std.proofs.Common.{◌≡◌, ap₂, ℕ, ◌+◌, List, [], ◌∷◌, ◌++◌, Option, arith}
use Rattle.asgi_many.specs.declared.reactor.Next.{Next}
use Rattle.asgi_many.specs.declared.reactor.Next.TheVariants.{Arrived, NoneNow, NoneEver}
use Rattle.asgi_reactor.specs.declared.quota.Ticketer.{Ticketer}
use Rattle.asgi_reactor.specs.Accepting.{IfArrived, IsNone, in_all, kept_in}
use Rattle.asgi_reactor.specs.Shares.{Share, share_of}

-- one that came takes one of those that are left, and no other answer does
asked_one : {L : Type 0} (P : Type 0) (answers : List (Next L)) (answer : Next L) (old new : ℕ) → IfArrived answer (λ _. (old ≡ new + 1) × P) → (IsNone answer → new ≡ old)
    → in_all (answers ++ answer ∷ []) new ≡ in_all answers old
asked_one P [] (Arrived one) old new some none = omega (arith, some.0)
asked_one P [] NoneNow old new some none = omega (arith, none tt)
asked_one P [] NoneEver old new some none = omega (arith, none tt)
asked_one P (Arrived first ∷ answers) answer old new some none = omega (arith, asked_one P answers answer old new some none)
asked_one P (NoneNow ∷ answers) answer old new some none = asked_one P answers answer old new some none
asked_one P (NoneEver ∷ answers) answer old new some none = asked_one P answers answer old new some none

-- and each that came has spent a ticket, if there is a quota
pub asked_within : {L : Type 0} (P : Type 0) (answers : List (Next L)) (answer : Next L) (old new : ℕ) (was is : Option Ticketer)
    → IfArrived answer (λ _. (old ≡ new + 1) × P) → (IsNone answer → new ≡ old) → share_of is new ≡ share_of was old
    → kept_in (answers ++ answer ∷ []) new is ≡ kept_in answers old was
asked_within P answers answer old new was is some none share = ap₂ (λ (n : ℕ) (s : Share). (n, s)) (asked_one P answers answer old new some none) share
