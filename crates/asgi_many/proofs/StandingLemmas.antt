-- A connection stands in a setting as in any other one with the same client, server and state.
use Rattle.std.proofs.Common.{◌≡◌, ℕ, List, Option, refl, subst}
use Rattle.asgi_types.specs.declared.end_kind.EndKind.{EndKind}
use Rattle.asgi_types.specs.declared.incoming.Incoming.{Incoming}
use Rattle.asgi_types.specs.declared.limits.Limits.{Limits}
use Rattle.asgi_types.specs.declared.outgoing.Outgoing.{Outgoing}
use Rattle.asgi_types.specs.declared.scope.Scope.{Scope}
use Rattle.asgi_types.specs.declared.state.StateValue.{StateValue}
use Rattle.asgi_pipes.specs.declared.ends.AppEnd as app_end
use Rattle.asgi_pipes.specs.declared.ends.ConnEnd as conn_end
use Rattle.asgi_conversation.specs.ExchangeRecord.{ExchangeRecord}
use Rattle.asgi_ws.specs.Lines.{LineState}
use Rattle.asgi_apps.specs.Promises.{Promise}
use Rattle.asgi_run.specs.declared.runner.AppSide.{AppSide}
use Rattle.asgi_halves.specs.contracts.impls.HttpHalfHalf.TheImpl as http_half
use Rattle.asgi_halves.specs.contracts.impls.WebSocketHalfHalf.TheImpl as session_half
use Rattle.asgi_conn.specs.declared.connection.Connection.{Connection}
use Rattle.asgi_conn.specs.declared.setting.Setting.{Setting}
use Rattle.asgi_conn.specs.Places.{Place, place_of}
use Rattle.asgi_conn.specs.Places as place
use Rattle.asgi_conn.specs.Standing as conn
use Rattle.asgi_conn.specs.Standing.{InExchange, Stands, http_scene, session_scene, scope_in}
use Rattle.asgi_many.specs.declared.seat.Newcomer.{Newcomer}
use Rattle.asgi_many.specs.declared.seat.Seat.{Seat}
use Rattle.asgi_many.specs.Standing.{IsAt}

same_scope : (s t : Setting) → t.client.now ≡ s.client.now → t.server.now ≡ s.server.now → t.state.now ≡ s.state.now → (scope : Scope) → scope_in s scope ≡ scope_in t scope
same_scope s t client server state scope = rw (client, server, state) refl

module _ {T C E X : Type 0} (answers : T → List Incoming → List Outgoing → Option EndKind → Type 0) (conns : conn_end.Ghosts C) (ends : app_end.Ghosts E) (side : X → C)
    (began : X → AppSide T E → Type 0) (promise : Promise) (limits : Limits) (start : LineState) (s t : Setting)
    (client : t.client.now ≡ s.client.now) (server : t.server.now ≡ s.server.now) (state : t.state.now ≡ s.state.now) where
  same_at : (at : Place X) (now : LineState) (read : List ℕ) (exchanges : List ExchangeRecord) (written : List ℕ)
      → conn.IsAt answers conns ends side began promise limits s start at now read exchanges written
      → conn.IsAt answers conns ends side began promise limits t start at now read exchanges written
  same_at (place.Between wire) now read exchanges written stands = stands
  same_at (place.Http half exchange) now read exchanges written stands =
      let (scope, facts, opened, in_it) = stands in (
        scope,
        facts,
        opened,
        subst (λ (in_scope : Scope). InExchange http_half.ghosts answers conns ends side began (promise in_scope)
            (http_scene limits start exchanges written scope facts opened) now half read exchange) (same_scope s t client server state scope) in_it,
      )
  same_at (place.Session half exchange) now read exchanges written stands =
      let (scope, facts, frames, asked, ahead, in_it) = stands in (
        scope,
        facts,
        frames,
        asked,
        ahead,
        subst (λ (in_scope : Scope). InExchange session_half.ghosts answers conns ends side began (promise in_scope)
            (session_scene limits start exchanges written scope facts frames asked) now half read exchange) (same_scope s t client server state scope) in_it,
      )
  same_at (place.Ended outcome) now read exchanges written stands = stands

  pub same_values : (before : ℕ) (now : LineState) (pauses : ℕ) (connection : Connection X)
      → Stands answers conns ends side began promise limits s start before now pauses connection
      → Stands answers conns ends side began promise limits t start before now pauses connection
  same_values before now pauses connection stands = record {
    serving = record {
      read = stands.serving.read;
      written = stands.serving.written;
      exchanges = stands.serving.exchanges;
      promised = rw (client, server, state) stands.serving.promised;
      counted = stands.serving.counted;
      stands = same_at (place_of connection) now stands.serving.read stands.serving.exchanges stands.serving.written stands.serving.stands;
    };
    counted = stands.counted;
  }

-- A connection sits in a seat where it stands so, with the client and server of the one that came.
module _ {T C E X L : Type 0} {answers : T → List Incoming → List Outgoing → Option EndKind → Type 0} {conns : conn_end.Ghosts C} {ends : app_end.Ghosts E} {side : X → C}
    {began : X → AppSide T E → Type 0} {promise : Promise} {line_state : L → LineState} {limits : Limits} {state : List (List ℕ × StateValue)} {one : Newcomer L} {seat : Seat X L}
    {setting : Setting} {pauses : ℕ} where
  pub sits : Stands answers conns ends side began promise limits setting (line_state one.line) 0 (line_state seat.line) pauses seat.connection
      → seat.pause.count ≡ pauses → setting.client.now ≡ one.client → setting.server.now ≡ one.server → setting.state.now ≡ state → seat.client ≡ one.client → seat.server ≡ one.server
      → IsAt answers conns ends side began promise line_state limits state one seat
  sits stands count is_client is_server is_state client server = record {
    client = client;
    server = server;
    setting = setting;
    is_client = is_client;
    is_server = is_server;
    is_state = is_state;
    stands = rw count stands;
  }
