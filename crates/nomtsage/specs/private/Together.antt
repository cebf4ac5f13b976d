-- How several threads ended, by how each did, and what each has of their quota.
use Rattle.std.specs.Prelude.{◌≡◌, ℕ, List, [], ◌∷◌, Option, Some}
use Rattle.asgi_many.specs.declared.reactor.Next.{Next}
use Rattle.asgi_reactor.specs.declared.quota.Quota.{Quota}
use Rattle.asgi_reactor.specs.declared.quota.Ticketer.{Ticketer}
use Rattle.asgi_reactor.specs.Accepting.{kept_at, kept_in}
use Rattle.nomtsage.specs.declared.ending.Served.{Served}
use Rattle.nomtsage.specs.declared.ending.Served.TheVariants as served
use Rattle.nomtsage.specs.Tables.{in_all}

abbrev pub all_in : List Served → Served
all_in [] = served.Each
all_in (one ∷ others) = in_all one (all_in others)

-- of as many connections as the quota has tickets each that came to a reactor has spent one
abbrev pub IsWithin : {L : Type 0} → Quota → List (Next L) → ℕ → Option Ticketer → Type 0
IsWithin quota asked left ticketer = kept_in asked left ticketer ≡ kept_at quota.count (Some quota)
