-- With no exchange to be ended: what the fields of a connection say of where it stands.
use Rattle.std.proofs.Common.{◌≡◌, refl, Option, Some, None}
use Rattle.std.specs.Prelude.{Box}
use Rattle.std.specs.declared.alloc.Global.{Global}
use Rattle.asgi_conversation.specs.declared.report.Outcome.{Outcome}
use Rattle.asgi_halves.specs.declared.{half.HttpHalf.HttpHalf, session_half.WebSocketHalf.WebSocketHalf}
use Rattle.asgi_conn.specs.{declared.connection.Connection.Connection, Places.Place, Places.place_at, Places.place_of}
use Rattle.asgi_conn.specs.Places as place
use Rattle.asgi_conn.specs.private.Loop.{IsBetween, IsDue, IsFree, IsNext}
use Rattle.asgi_io.specs.declared.turns.Turns.{Turns}

module _ {X : Type 0} where
  between_at : (exchange : Option X) (session : Option (Box WebSocketHalf Global)) (ended : Option Outcome) (half : HttpHalf) → IsBetween (place_at exchange session ended half)
      → place_at exchange session ended half ≡ place.Between half.wire
  between_at None session None half between = refl
  between_at None session (Some outcome) half between = absurd between
  between_at (Some x) None ended half between = absurd between
  between_at (Some x) (Some w) ended half between = absurd between

  pub between_of : (connection : Connection X) → IsBetween (place_of connection) → place_of connection ≡ place.Between connection.half.wire
  between_of connection between = between_at connection.exchange connection.session connection.ended connection.half between

  pub free_between : (at : Place X) → IsBetween at → IsFree at
  free_between (place.Between wire) between = tt
  free_between _ between = absurd between

  -- more bytes are needed, or the connection has ended
  pub due_at_rest : (at : Place X) (old new : Turns) → new ≡ old → IsNext at old → IsFree at → IsDue at new
  due_at_rest (place.Between wire) old new same next free = rw same next
  due_at_rest (place.Ended outcome) old new same next free = tt
  due_at_rest _ old new same next free = absurd free
