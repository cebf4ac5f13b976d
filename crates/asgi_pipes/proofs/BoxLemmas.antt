-- The two halves of a queue, brought together: each item that is left has a place, and the reserved place is free until
-- the last item is in.
use Rattle.std.proofs.Common.{◌≡◌, ℕ, ◌+◌, ◌-◌, ◌<◌, ◌≤◌, Bool, true, false, List, ◌++◌, length, refl, ap, ◌∙◌, append_assoc, length-append, arith}
use Rattle.asgi_pipes.specs.declared.outbox.Outbox.{Outbox}
use Rattle.asgi_pipes.specs.declared.inbox.Inbox.{Inbox}
use Rattle.asgi_pipes.specs.Boxes.{AreJoined, put_by, free_in}
use Rattle.asgi_pipes.specs.Queues.{KeepsOrder, open_places}

fit : (is_last_in : Bool) (places away here there : ℕ) → (is_last_in ≡ false → 0 < places - (here + away)) → here + away ≤ places → there ≤ away
    → there + here ≤ open_places (places - 1) is_last_in
fit true places away here there free fits fewer = omega (arith, fits, fewer)
fit false places away here there free fits fewer = let one : 0 < places - (here + away) = free refl in omega (arith, one, fits, fewer)

module _ {T : Type 0} where
  pub left_between : (o : Outbox T) (i : Inbox T) (is_last_in : Bool) → (is_last_in ≡ false → 0 < free_in o) → AreJoined o i
      → KeepsOrder (open_places (o.places - 1) is_last_in) (put_by o) i.taken.items (length i.queue.items + length o.queue.items)
  left_between o i is_last_in free joined =
      let fewer = i.fewer in
      let away = joined.1 in (
        i.queue.items ++ o.queue.items,
        ap (λ (l : List T). l ++ o.queue.items) joined.0 ∙ append_assoc i.taken.items i.queue.items o.queue.items,
        length-append i.queue.items o.queue.items,
        fit is_last_in o.places o.away (length o.queue.items) (length i.queue.items) free o.fits (omega (arith, fewer, away)),
      )
