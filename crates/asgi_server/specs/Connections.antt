-- What a server promises of its connections: each one that the listener gave is served once, and has one report.
use Rattle.std.specs.Prelude.{◌≡◌, ℕ, List, [], ◌∷◌, ◌++◌, Option, Some, None}
use Rattle.asgi_types.specs.declared.limits.Limits.{Limits}
use Rattle.asgi_types.specs.declared.scope.Peer.{Peer}
use Rattle.asgi_types.specs.declared.state.StateValue.{StateValue}
use Rattle.asgi_conversation.specs.declared.report.Report.{Report}
use Rattle.asgi_ws.specs.Lines.{LineState}
use Rattle.asgi_apps.specs.Promises.{Promise}
use Rattle.asgi_conn.specs.Serving.{Serves}

-- a connection as a listener gives it: its line, the client and the server
abbrev pub Given : Type 0 → Type 0
Given L = L × Option Peer × Option Peer

-- What is known of a connection before it is served.
pub record Arrived : Type 0 where
  pub line : LineState
  pub client : Option Peer
  pub server : Option Peer

abbrev pub arrived : {L : Type 0} → (L → LineState) → Given L → Arrived
arrived line_state (line, client, server) = record { line = line_state line; client = client; server = server }

-- One connection was served, each scope with its client, its server and a copy of the state: this is its report, and the count of
-- pauses rose from `before` to `after`.
pub record IsServed (answers : Promise) (limits : Limits) (state : List (List ℕ × StateValue)) (connection : Arrived) (before after : ℕ) (report : Report) : Type 0 where
  -- what is known of its line afterwards
  pub line : LineState
  pub serves : Serves answers limits connection.client connection.server state connection.line line before after report

-- One connection was asked for: there was none, or the one that was given was served, and this is its report.
abbrev pub ServesNext : {L : Type 0} → (L → LineState) → Promise → Limits → List (List ℕ × StateValue) → List (Option (Given L)) → List (Option (Given L)) → ℕ → ℕ → Option Report → Type 0
ServesNext line_state answers limits state asked_old asked_new before after None = (asked_new ≡ asked_old ++ None ∷ []) × (after ≡ before)
ServesNext line_state answers limits state asked_old asked_new before after (Some report) =
    (given : Given _) × (asked_new ≡ asked_old ++ Some given ∷ []) × IsServed answers limits state (arrived line_state given) before after report

-- One connection was served by a worker, whose count of pauses rose from `before` to `after`, and this is the report.
abbrev pub served_by : {L : Type 0} → (L → LineState) → Promise → Limits → List (List ℕ × StateValue) → ℕ → ℕ → Given L → Report → Type 0
served_by line_state answers limits state before after given report = IsServed answers limits state (arrived line_state given) before after report
