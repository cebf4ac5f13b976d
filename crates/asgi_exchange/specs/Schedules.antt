-- Every schedule of an exchange: steps of both halves in any order; and each half alone, whatever its queue returns.
use Rattle.std.specs.Prelude.{◌≡◌, ℕ, ◌-◌, Bool, List, [], ◌∷◌, length, Option, nat_lt}
use Rattle.asgi_types.specs.declared.incoming.Incoming.{Incoming}
use Rattle.asgi_types.specs.declared.outgoing.Outgoing.{Outgoing}
use Rattle.asgi_types.specs.declared.end_kind.EndKind.{EndKind}
use Rattle.asgi_pipes.specs.declared.items.OutItem.{OutItem}
use Rattle.asgi_exchange.specs.Exchange.{Exchange}
use Rattle.asgi_exchange.specs.Views.{Break, ConnView, AppView, World}
use Rattle.asgi_exchange.specs.Steps.{next_of, arrive, offer, break_off, take_next, write, hear, say, finish}

-- ---- both halves, with the queues between them

pub data Step (A : Type 0) : Type 0 where
  Arrive : List A → Step A
  Offer : Step A
  BreakOff : Break → Step A
  Take : Step A
  Write : ℕ → Step A
  Hear : Step A
  Say : Outgoing → Step A
  End : EndKind → Step A

-- the world after a step: an event has a place if fewer than `ring` items wait in its queue
abbrev pub after : {A W : Type 0} → Exchange A W → World A W → Step A → World A W
after x w (Arrive piece) = record w { conn = arrive x w.conn piece }
after x w Offer = record w { conn = offer x w.conn (nat_lt (length w.conn.offered - length w.app.pulled) x.ring) }
after x w (BreakOff cause) = record w { conn = break_off x w.conn cause }
after x w Take = record w { conn = take_next w.conn (next_of w.app.put w.conn.got) }
after x w (Write k) = record w { conn = write x w.conn k }
after x w Hear = record w { app = hear x w.app (next_of w.conn.offered w.app.pulled) }
after x w (Say event) = record w { app = say x w.app event (nat_lt (length w.app.put - length w.conn.got) x.ring) }
after x w (End kind) = record w { app = finish w.app kind }

-- a whole schedule
abbrev pub run : {A W : Type 0} → Exchange A W → List (Step A) → World A W → World A W
run x [] w = w
run x (step ∷ steps) w = run x steps (after x w step)

-- ---- each half alone: what its queue returns is part of the step

pub data ConnStep (A : Type 0) : Type 0 where
  Arrives : List A → ConnStep A
  Offers : (has_place : Bool) → ConnStep A
  Breaks : Break → ConnStep A
  Takes : (next : Option OutItem) → ConnStep A
  Writes : ℕ → ConnStep A

abbrev pub conn_after : {A W : Type 0} → Exchange A W → ConnView A W → ConnStep A → ConnView A W
conn_after x conn (Arrives piece) = arrive x conn piece
conn_after x conn (Offers has_place) = offer x conn has_place
conn_after x conn (Breaks cause) = break_off x conn cause
conn_after x conn (Takes next) = take_next conn next
conn_after x conn (Writes k) = write x conn k

abbrev pub conn_run : {A W : Type 0} → Exchange A W → List (ConnStep A) → ConnView A W → ConnView A W
conn_run x [] conn = conn
conn_run x (step ∷ steps) conn = conn_run x steps (conn_after x conn step)

pub data AppStep : Type 0 where
  Hears : (next : Option Incoming) → AppStep
  Says : Outgoing → (has_place : Bool) → AppStep
  Ends : EndKind → AppStep

abbrev pub app_after : {A W : Type 0} → Exchange A W → AppView → AppStep → AppView
app_after x app (Hears next) = hear x app next
app_after x app (Says event has_place) = say x app event has_place
app_after x app (Ends kind) = finish app kind

abbrev pub app_run : {A W : Type 0} → Exchange A W → List AppStep → AppView → AppView
app_run x [] app = app
app_run x (step ∷ steps) app = app_run x steps (app_after x app step)

-- a half goes on from what it knew, by steps of its own
abbrev pub ConnGoesOn : {A W : Type 0} → Exchange A W → ConnView A W → ConnView A W → Type 0
ConnGoesOn {A} x old new = (steps : List (ConnStep A)) × (new ≡ conn_run x steps old)

abbrev pub AppGoesOn : {A W : Type 0} → Exchange A W → AppView → AppView → Type 0
AppGoesOn x old new = (steps : List AppStep) × (new ≡ app_run x steps old)
