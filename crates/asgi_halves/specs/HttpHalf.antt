-- The connection's half of an HTTP exchange, as its runner sees it: the members of its `Half`.
use Rattle.std.specs.Prelude.{◌≡◌, ℕ, List}
use Rattle.asgi_types.specs.declared.limits.Limits.{Limits}
use Rattle.asgi_exchange.specs.Views.{ConnView}
use Rattle.asgi_halves.specs.declared.half.HttpHalf.{HttpHalf}
use Rattle.asgi_halves.specs.Half.{Scene, Invariant}
use Rattle.asgi_ws.specs.Lines.{LineState}

-- The constants of one exchange, with the limits of its connection.
pub record HttpScene : Type 0 where
  pub limits : Limits
  pub at : Scene

-- The half's invariant in its exchange, with the limits of the connection.
pub record StandsIn (scene : HttpScene) (now : LineState) (half : HttpHalf) (read : List ℕ) (view : ConnView ℕ ℕ) : Type 0 where
  pub limits : half.wire.limits ≡ scene.limits
  pub stands : Invariant scene.at now half read view
