-- What the end of an application keeps besides its queues.
use Rattle.std.specs.Prelude.{◌≡◌, false, [], None}
use Rattle.asgi_types.specs.declared.scope.Kind.{Kind}
use Rattle.asgi_types.specs.declared.facts.Facts.{Facts}
use Rattle.asgi_pipes.specs.declared.app_state.AppState.{AppState}

-- nothing was received or sent yet
abbrev pub IsFresh : Kind → Facts → AppState → Type 0
IsFresh kind facts s = (s.kind ≡ kind) × (s.facts ≡ facts) × (s.heard.items ≡ []) × (s.pulled.items ≡ []) × (s.said.items ≡ []) × (s.ended ≡ None) × (s.has_moved ≡ false)

abbrev pub SameScope : AppState → AppState → Type 0
SameScope old new = (new.kind ≡ old.kind) × (new.facts ≡ old.facts)
