-- One application for requests and one for sessions: the promise of the two as one.
use Rattle.asgi_types.specs.declared.scope.Scope.{Scope}
use Rattle.asgi_types.specs.declared.scope.Scope.TheVariants.{Http, WebSocket, Lifespan}
use Rattle.asgi_apps.specs.Promises.{Promise}

module _ {A B : Type 0} where
  -- what the application promises that the scope goes to
  abbrev pub BothAnswer : (A → Promise) → (B → Promise) → A → B → Promise
  BothAnswer first second http ws (Http scope) heard said ended = first http (Http scope) heard said ended
  BothAnswer first second http ws (WebSocket scope) heard said ended = second ws (WebSocket scope) heard said ended
  BothAnswer first second http ws (Lifespan scope) heard said ended = first http (Lifespan scope) heard said ended

  -- a call may fail by judgement if that of this application may
  abbrev pub BothRefuse : (A → Scope → Type 0) → (B → Scope → Type 0) → A → B → Scope → Type 0
  BothRefuse first second http ws (Http scope) = first http (Http scope)
  BothRefuse first second http ws (WebSocket scope) = second ws (WebSocket scope)
  BothRefuse first second http ws (Lifespan scope) = first http (Lifespan scope)
