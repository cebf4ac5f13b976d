-- How the calls of a connection's half move it on in its exchange, whether bytes or messages arrive and are written.
use Rattle.std.specs.Prelude.{ℕ, List, ◌++◌}
use Rattle.asgi_exchange.specs.Views.{ConnView}
use Rattle.asgi_ws.specs.Lines.{LineState}

module _ {S H A W : Type 0} (stands : S → LineState → H → List ℕ → ConnView A W → Type 0) where
  -- From a half and its view to later ones: if the invariant held, it holds again.
  abbrev pub PreservesOn : LineState → H → (ConnView A W → Type 0) → LineState → H → (ConnView A W → Type 0) → Type 0
  PreservesOn was old IsOldView now new IsNewView =
      (scene : S) (read : List ℕ) (view : ConnView A W) → stands scene was old read view → IsOldView view
      → (more : List ℕ) × (later : ConnView A W) × stands scene now new (read ++ more) later × IsNewView later

  -- the same, if the line does not move
  abbrev pub PreservesInLine : H → (ConnView A W → Type 0) → H → (ConnView A W → Type 0) → Type 0
  PreservesInLine old IsOldView new IsNewView =
      (scene : S) (line : LineState) (read : List ℕ) (view : ConnView A W) → stands scene line old read view → IsOldView view
      → (later : ConnView A W) × stands scene line new read later × IsNewView later
