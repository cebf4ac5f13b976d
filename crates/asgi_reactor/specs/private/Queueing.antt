-- Who is to be taken up again.
use Rattle.std.specs.Prelude.{◌≡◌, ◌⊎◌, ◌≤◌, ℕ, [], ◌∷◌, ◌++◌, Some}
use Rattle.std.specs.VecDeque.{deque_len, deque_capacity}
use Rattle.slab.specs.Slab.{get}
use Rattle.asgi_reactor.specs.declared.place.Place.{Place}
use Rattle.asgi_reactor.specs.declared.queue.Queue.{Queue}
use Rattle.asgi_reactor.specs.declared.waiting.Wish.TheVariants.{Goes, Told}

-- The socket with this token, if there is one, waits behind all others if it did not wait already, unless memory for that was refused.
abbrev pub Waits : Queue → Queue → ℕ → Type 0
Waits old new token = (place : Place) → get old.places token ≡ Some place
    → (place.wish ≡ Some Goes) ⊎ (place.wish ≡ Some Told) ⊎ (new.waiting.going.items ≡ old.waiting.going.items ++ token ∷ []) ⊎ (deque_capacity old.waiting.going ≤ deque_len old.waiting.going)
