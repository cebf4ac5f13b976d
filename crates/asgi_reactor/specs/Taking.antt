-- The order in which sockets are taken up.
use Rattle.std.specs.Prelude.{◌≡◌, ◌+◌, ℕ, zero, suc, Option, Some, None, [], ◌∷◌, ◌++◌}
use Rattle.asgi_reactor.specs.declared.waiting.Waiting.{Waiting}
use Rattle.asgi_reactor.specs.declared.waiting.Wish.{Wish}
use Rattle.asgi_reactor.specs.declared.waiting.Wish.TheVariants.{Told, Goes, Looked}

-- This one stands behind all others of its kind.
abbrev pub IsLast : Waiting → Waiting → ℕ → Wish → Type 0
IsLast old new token Told = (new.told.items ≡ old.told.items ++ token ∷ []) × (new.going ≡ old.going) × (new.looked ≡ old.looked)
IsLast old new token Goes = (new.going.items ≡ old.going.items ++ token ∷ []) × (new.told ≡ old.told) × (new.looked ≡ old.looked)
IsLast old new token Looked = (new.looked.items ≡ old.looked.items ++ token ∷ []) × (new.told ≡ old.told) × (new.going ≡ old.going)

-- Of which kind the next one is, by the kind whose turn it is, and by how many are left in the round of those that were told of, of those that go on by
-- themselves, and of those that are looked at. The first two kinds take turns while both have some; the third one comes once neither has.
abbrev pub kind_of : Wish → ℕ → ℕ → ℕ → Option Wish
kind_of turn zero zero zero = None
kind_of turn zero zero (suc looks) = Some Looked
kind_of turn zero (suc goes) looks = Some Goes
kind_of turn (suc tells) zero looks = Some Told
kind_of Told (suc tells) (suc goes) looks = Some Told
kind_of Goes (suc tells) (suc goes) looks = Some Goes
kind_of Looked (suc tells) (suc goes) looks = Some Told

-- This one stood before all others of its kind. After one that was told of it is the turn of those that go on by themselves, and the other way round.
abbrev pub Takes : Waiting → Waiting → ℕ → Wish → Type 0
Takes old new token Told =
    (old.told.items ≡ token ∷ new.told.items) × (new.going ≡ old.going) × (new.looked ≡ old.looked) × (old.tells ≡ new.tells + 1) × (new.turn ≡ Goes)
Takes old new token Goes =
    (old.going.items ≡ token ∷ new.going.items) × (new.told ≡ old.told) × (new.looked ≡ old.looked) × (old.goes ≡ new.goes + 1) × (new.turn ≡ Told)
Takes old new token Looked =
    (old.looked.items ≡ token ∷ new.looked.items) × (new.told ≡ old.told) × (new.going ≡ old.going) × (old.looks ≡ new.looks + 1)

-- the same, and it is of the kind that is next
abbrev pub IsFirst : Waiting → Waiting → ℕ → Wish → Type 0
IsFirst old new token wish = (kind_of old.turn old.tells old.goes old.looks ≡ Some wish) × Takes old new token wish
