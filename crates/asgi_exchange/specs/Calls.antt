-- What the halves of an exchange know, read off the two ends of a pair.
use Rattle.std.specs.Prelude.{◌≡◌, is_some}
use Rattle.asgi_pipes.specs.declared.ends.ConnEnd as conn_end
use Rattle.asgi_pipes.specs.declared.ends.AppEnd as app_end
use Rattle.asgi_pipes.specs.Items.{items_of}
use Rattle.asgi_exchange.specs.Exchange.{Exchange}
use Rattle.asgi_exchange.specs.Views.{ConnView, AppView}

-- ---- the connection's end

-- the view has the lists of the end; what arrived, what was written and the kind of the break are the loop's
abbrev pub IsViewOf : {A W C : Type 0} → conn_end.Ghosts C → C → ConnView A W → Type 0
IsViewOf E conn view = (view.offered ≡ E.offered conn) × (is_some view.broken ≡ E.is_broken conn) × (view.got ≡ E.got conn)

-- ---- the application's end

-- all that an application's half knows is in its end
abbrev pub view_of : {C : Type 0} → app_end.Ghosts C → C → AppView
view_of E app = record { pulled = E.pulled app; heard = E.heard app; put = items_of (E.said app) (E.ended app) }

-- the exchange has the end's kind of scope, and its request
abbrev pub IsExchangeOf : {A W C : Type 0} → app_end.Ghosts C → C → Exchange A W → Type 0
IsExchangeOf E app x = (x.kind ≡ E.kind app) × (x.facts ≡ E.facts app)
