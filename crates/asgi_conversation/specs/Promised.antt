-- What an application promises of the exchanges of a connection (asgi_apps, `Application`).
use Rattle.std.specs.Prelude.{ℕ, List, Option, Some, None, All}
use Rattle.asgi_types.specs.Scopes.{scope_with}
use Rattle.asgi_types.specs.declared.end_kind.EndKind.{EndKind}
use Rattle.asgi_types.specs.declared.scope.Peer.{Peer}
use Rattle.asgi_types.specs.declared.state.StateValue.{StateValue}
use Rattle.asgi_apps.specs.Ends.{own_end}
use Rattle.asgi_apps.specs.Promises.{Promise}
use Rattle.asgi_conversation.specs.ExchangeRecord.{ExchangeRecord}

-- ---- of one exchange

-- how the task itself ended: a task that still runs, or that a limit stopped, did not
abbrev pub task_end : Option EndKind → Option EndKind
task_end None = None
task_end (Some kind) = own_end kind

-- The events received and sent, and how the task ended, are as the application promises them for the scope, to which the
-- connection added what it knows.
abbrev pub IsPromised : Promise → Option Peer → Option Peer → List (List ℕ × StateValue) → ExchangeRecord → Type 0
IsPromised answers client server state x = answers (scope_with x.scope client server state) x.heard x.said (task_end x.ended)

-- ---- of all of them

abbrev pub ArePromised : Promise → Option Peer → Option Peer → List (List ℕ × StateValue) → List ExchangeRecord → Type 0
ArePromised answers client server state exchanges = All (IsPromised answers client server state) exchanges
