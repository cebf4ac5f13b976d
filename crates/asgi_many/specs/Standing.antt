-- What holds of a table: each connection that came stands in its seat as `Stands` of asgi_conn says, or has ended as `Serves` says.
use Rattle.std.specs.Prelude.{◌≡◌, ◌≤◌, ℕ, List, length, Option}
use Rattle.asgi_types.specs.declared.end_kind.EndKind.{EndKind}
use Rattle.asgi_types.specs.declared.incoming.Incoming.{Incoming}
use Rattle.asgi_types.specs.declared.limits.Limits.{Limits}
use Rattle.asgi_types.specs.declared.outgoing.Outgoing.{Outgoing}
use Rattle.asgi_types.specs.declared.state.StateValue.{StateValue}
use Rattle.asgi_pipes.specs.declared.ends.AppEnd as app_end
use Rattle.asgi_pipes.specs.declared.ends.ConnEnd as conn_end
use Rattle.asgi_ws.specs.Lines.{LineState}
use Rattle.asgi_apps.specs.Promises.{Promise}
use Rattle.asgi_run.specs.declared.runner.AppSide.{AppSide}
use Rattle.asgi_conn.specs.declared.setting.Setting.{Setting}
use Rattle.asgi_conn.specs.Serving.{Serves}
use Rattle.asgi_conn.specs.Standing.{Stands}
use Rattle.slab.specs.Slab.{get, slab_len}
use Rattle.asgi_many.specs.declared.seat.Ended.{Ended}
use Rattle.asgi_many.specs.declared.seat.Newcomer.{Newcomer}
use Rattle.asgi_many.specs.declared.seat.Seat.{Seat}
use Rattle.asgi_many.specs.declared.table.Table.{Table}
use Rattle.asgi_many.specs.Seats.{Seating}

abbrev pub number_of : {X L : Type 0} → Seat X L → ℕ
number_of seat = seat.number

-- The connection that came was served, with its client, its server and a copy of the state: from its line as it came, to the line as it
-- is handed back, with the pauses of its own seat. Its client is handed back as it came.
abbrev pub IsServed : {L : Type 0} → Promise → (L → LineState) → Limits → List (List ℕ × StateValue) → Newcomer L → Ended L → Type 0
IsServed promise line_state limits state one end =
    (end.client ≡ one.client) × Serves promise limits one.client one.server state (line_state one.line) (line_state end.line) 0 end.pauses end.report

-- nobody sits there
abbrev pub IsEmpty : {X L : Type 0} → Table X L → Type 0
IsEmpty table = slab_len table.seats ≡ 0

-- each seat is taken
abbrev pub IsFull : {X L : Type 0} → Table X L → Type 0
IsFull table = table.places ≤ slab_len table.seats

module _ {T C E X L : Type 0} (answers : T → List Incoming → List Outgoing → Option EndKind → Type 0) (conns : conn_end.Ghosts C) (ends : app_end.Ghosts E) (conn : X → C)
    (began : X → AppSide T E → Type 0) (promise : Promise) (line_state : L → LineState) where
  -- The connection that came stands in this seat, since its line was as it came and there was no pause.
  pub record IsAt (limits : Limits) (state : List (List ℕ × StateValue)) (one : Newcomer L) (seat : Seat X L) : Type 0 where
    pub client : seat.client ≡ one.client
    pub server : seat.server ≡ one.server
    -- what it was served with has these values
    pub setting : Setting
    pub is_client : setting.client.now ≡ one.client
    pub is_server : setting.server.now ≡ one.server
    pub is_state : setting.state.now ≡ state
    pub stands : Stands answers conns ends conn began promise limits setting (line_state one.line) 0 (line_state seat.line) seat.pause.count seat.connection

  -- These came, in this order, and of these `ended` have ended, each at its own place.
  pub record Holds (state : List (List ℕ × StateValue)) (came : List (Newcomer L)) (table : Table X L) (ended : List (Option (Ended L))) : Type 0 where
    pub counted : table.came ≡ length came
    pub seating : Seating (number_of {X = X} {L = L}) (IsAt table.limits state) (IsServed promise line_state table.limits state) came (get table.seats) ended
