-- The world of one exchange: what the connection's half knows, and what the application's half knows.
use Rattle.std.specs.Prelude.{Bool, false, List, [], ◌++◌, Option, Some, None}
use Rattle.asgi_types.specs.declared.incoming.Incoming.{Incoming}
use Rattle.asgi_types.specs.declared.outgoing.Outgoing.{Outgoing}
use Rattle.asgi_types.specs.declared.end_kind.EndKind.{EndKind}
use Rattle.asgi_pipes.specs.declared.items.OutItem.{OutItem}
use Rattle.asgi_exchange.specs.Items.{events_of, end_of}
use Rattle.asgi_exchange.specs.Exchange.{Exchange}

-- why the connection offers a disconnect: the input ended, failed or was faulty; or the connection is cut short
pub data Break : Type 0 where
  ByInput : Break
  ByCut : Break

-- what the connection's half knows
pub record ConnView (A W : Type 0) : Type 0 where
  pub arrived : List A
  -- the events offered, then the disconnect of the break
  pub offered : List Incoming
  pub broken : Option Break
  -- what was taken: events, then the end
  pub got : List OutItem
  -- a disconnect was offered before the end was taken
  pub broken_first : Bool
  pub written : List W

-- what the application's half knows
pub record AppView : Type 0 where
  -- what came off the queue, and what was received, which has further disconnects
  pub pulled : List Incoming
  pub heard : List Incoming
  -- what was put: the events sent, then the end
  pub put : List OutItem

pub record World (A W : Type 0) : Type 0 where
  pub conn : ConnView A W
  pub app : AppView

abbrev pub said_of : AppView → List Outgoing
said_of app = events_of app.put

abbrev pub taken_of : {A W : Type 0} → ConnView A W → List Outgoing
taken_of conn = events_of conn.got

-- at the start nothing is known
abbrev pub empty_conn : {A W : Type 0} → ConnView A W
empty_conn = record { arrived = []; offered = []; broken = None; got = []; broken_first = false; written = [] }

abbrev pub empty_app : AppView
empty_app = record { pulled = []; heard = []; put = [] }

abbrev pub empty_world : {A W : Type 0} → World A W
empty_world = record { conn = empty_conn; app = empty_app }

-- what the end adds, once it was taken
abbrev pub added_by : {A W : Type 0} → Exchange A W → List Outgoing → Option EndKind → Bool → List A → List W
added_by x events None broken arrived = []
added_by x events (Some kind) broken arrived = x.added events kind broken arrived

-- all that is to be written for what was taken
abbrev pub output : {A W : Type 0} → Exchange A W → ConnView A W → List W
output x conn = x.text (taken_of conn) ++ added_by x (taken_of conn) (end_of conn.got) conn.broken_first conn.arrived
