-- What each half of an exchange keeps by itself, whatever its queue returns. `ConnKeeps` is what a connection owes when the
-- halves meet; everything else here is for proofs.
use Rattle.std.specs.Prelude.{◌≡◌, List, [], ◌∷◌, ◌++◌, Option, Some, None, ⊤}
use mathlib.Core.List.{IsPrefix}
use Rattle.asgi_types.specs.declared.incoming.Incoming.{Incoming}
use Rattle.asgi_protocol.specs.Lawful.{IsLawful}
use Rattle.asgi_pipes.specs.declared.items.OutItem.{OutItem}
use Rattle.asgi_pipes.specs.declared.items.OutItem.TheVariants.{Event, Ended}
use Rattle.asgi_pipes.specs.Disconnects.{Hears}
use Rattle.asgi_exchange.specs.Exchange.{Exchange, cut_disconnect}
use Rattle.asgi_exchange.specs.Views.{Break, ByInput, ByCut, ConnView, AppView, said_of, output}

-- what was offered is a beginning of what is due, or that and the disconnect of the break: by the input after all of it
abbrev pub IsOffered : {A W : Type 0} → Exchange A W → List A → List Incoming → Option Break → Type 0
IsOffered x arrived offered None = IsPrefix offered (x.due arrived)
IsOffered x arrived offered (Some ByInput) = offered ≡ x.due arrived ++ x.input_disconnect arrived ∷ []
IsOffered x arrived offered (Some ByCut) = (events : List Incoming) × IsPrefix events (x.due arrived) × (offered ≡ events ++ cut_disconnect x.kind ∷ [])

-- the connection's half: what was offered, and that what was written is a beginning of what is to be written
pub record ConnKeeps {A W : Type 0} (x : Exchange A W) (conn : ConnView A W) : Type 0 where
  pub offered : IsOffered x conn.arrived conn.offered conn.broken
  pub written : IsPrefix conn.written (output x conn)

-- nothing follows an end
abbrev pub IsOrdered : List OutItem → Type 0
IsOrdered [] = ⊤
IsOrdered (Event event ∷ items) = IsOrdered items
IsOrdered (Ended kind ∷ items) = items ≡ []

-- the application's half
pub record AppKeeps {A W : Type 0} (x : Exchange A W) (app : AppView) : Type 0 where
  pub heard : Hears x.kind (said_of app) app.pulled app.heard
  pub lawful : IsLawful x.kind x.facts (said_of app)
  pub ordered : IsOrdered app.put

-- what came out of each queue is a beginning of what went in
pub record AreJoined {A W : Type 0} (conn : ConnView A W) (app : AppView) : Type 0 where
  pub inward : IsPrefix app.pulled conn.offered
  pub outward : IsPrefix conn.got app.put
