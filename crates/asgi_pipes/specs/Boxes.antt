-- The two halves of a queue, as the lists of what went through them.
use Rattle.std.specs.Prelude.{◌≡◌, ℕ, ◌+◌, ◌-◌, List, [], ◌++◌, length}
use Rattle.std.specs.VecDeque.{deque_capacity}
use Rattle.asgi_pipes.specs.declared.outbox.Outbox.{Outbox}
use Rattle.asgi_pipes.specs.declared.inbox.Inbox.{Inbox}

-- what was carried between two ends in one direction, how many items waited after that, and the places of the direction
pub record Carriage (T : Type 0) : Type 0 where
  pub items : List T
  pub waiting : ℕ
  pub places : ℕ

module _ {T : Type 0} where
  -- everything that was put
  abbrev pub put_by : Outbox T → List T
  put_by o = o.passed.items ++ o.queue.items

  abbrev pub free_in : Outbox T → ℕ
  free_in o = o.places - (length o.queue.items + o.away)

  -- everything that was carried here
  abbrev pub come_to : Inbox T → List T
  come_to i = i.taken.items ++ i.queue.items

  abbrev pub carriage_from : Outbox T → Carriage T
  carriage_from o = record { items = o.passed.items; waiting = o.away; places = o.places }

  abbrev pub carriage_to : Inbox T → Carriage T
  carriage_to i = record { items = come_to i; waiting = i.arrived; places = i.places }

  -- nothing was put yet, and memory is reserved for exactly this many places
  abbrev pub IsNewOutbox : ℕ → Outbox T → Type 0
  IsNewOutbox places o = (o.queue.items ≡ []) × (o.passed.items ≡ []) × (o.away ≡ 0) × (o.places ≡ places) × (deque_capacity o.queue ≡ places)

  -- nothing was carried here yet, and memory is reserved for exactly this many places
  abbrev pub IsNewInbox : ℕ → Inbox T → Type 0
  IsNewInbox places i = (i.queue.items ≡ []) × (i.taken.items ≡ []) × (i.arrived ≡ 0) × (i.places ≡ places) × (deque_capacity i.queue ≡ places)

  -- what one half passed on is what the other received
  abbrev pub AreJoined : Outbox T → Inbox T → Type 0
  AreJoined o i = (o.passed.items ≡ come_to i) × (o.away ≡ i.arrived) × (o.places ≡ i.places)
