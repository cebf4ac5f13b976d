-- A scope goes to one of two applications.
use Rattle.std.proofs.Common.{◌≡◌, List, [], Option, Some, Result, Ok, Err, IfOk, sym, subst}
use Rattle.std.specs.Prelude.{OnErr}
use Rattle.asgi_types.specs.declared.scope.HttpScope.{HttpScope}
use Rattle.asgi_types.specs.declared.scope.WsScope.{WsScope}
use Rattle.asgi_types.specs.declared.scope.LifespanScope.{LifespanScope}
use Rattle.asgi_types.specs.declared.scope.Scope.{Scope}
use Rattle.asgi_types.specs.declared.scope.Scope.TheVariants.{Http, WebSocket, Lifespan}
use Rattle.asgi_types.specs.declared.incoming.Incoming.{Incoming}
use Rattle.asgi_types.specs.declared.outgoing.Outgoing.{Outgoing}
use Rattle.asgi_types.specs.declared.end_kind.EndKind.{EndKind}
use Rattle.asgi_types.specs.declared.end_kind.EndKind.TheVariants.{Faulted}
use Rattle.asgi_apps.specs.Promises.{Promise}
use Rattle.asgi_talks.specs.Both.{BothAnswer, BothRefuse}

module _ {A B : Type 0} (http : A) (ws : B) (scope : Scope) where
  module _ (first : A → Promise) (second : B → Promise) where
    -- what the application promises in the scope, the two as one promise
    module _ (heard : List Incoming) (said : List Outgoing) (ended : Option EndKind) where
      request_goes : (request : HttpScope) → scope ≡ Http request → first http scope heard said ended → BothAnswer first second http ws scope heard said ended
      request_goes request is holds =
          subst (λ (s : Scope). BothAnswer first second http ws s heard said ended) (sym is) (subst (λ (s : Scope). first http s heard said ended) is holds)

      session_goes : (session : WsScope) → scope ≡ WebSocket session → second ws scope heard said ended → BothAnswer first second http ws scope heard said ended
      session_goes session is holds =
          subst (λ (s : Scope). BothAnswer first second http ws s heard said ended) (sym is) (subst (λ (s : Scope). second ws s heard said ended) is holds)

      lifespan_goes : (life : LifespanScope) → scope ≡ Lifespan life → first http scope heard said ended → BothAnswer first second http ws scope heard said ended
      lifespan_goes life is holds =
          subst (λ (s : Scope). BothAnswer first second http ws s heard said ended) (sym is) (subst (λ (s : Scope). first http s heard said ended) is holds)

    module _ {T F : Type 0} (answers : T → List Incoming → List Outgoing → Option EndKind → Type 0) where
      -- what a task of it promises is within that
      pub request_answers : (made : Result T F) (it : HttpScope) → scope ≡ Http it
          → IfOk made (λ task. (heard : List Incoming) (said : List Outgoing) (ended : Option EndKind) → answers task heard said ended → first http scope heard said ended)
          → IfOk made (λ task. (heard : List Incoming) (said : List Outgoing) (ended : Option EndKind) → answers task heard said ended
          → BothAnswer first second http ws scope heard said ended)
      request_answers (Ok task) it is within = λ heard said ended kept. request_goes heard said ended it is (within heard said ended kept)
      request_answers (Err fault) it is within = tt

      pub request_fault : (made : Result T F) (it : HttpScope) → scope ≡ Http it → OnErr made (first http scope [] [] (Some Faulted))
          → OnErr made (BothAnswer first second http ws scope [] [] (Some Faulted))
      request_fault (Ok task) it is fault = tt
      request_fault (Err why) it is fault = request_goes [] [] (Some Faulted) it is fault

      pub session_answers : (made : Result T F) (it : WsScope) → scope ≡ WebSocket it
          → IfOk made (λ task. (heard : List Incoming) (said : List Outgoing) (ended : Option EndKind) → answers task heard said ended → second ws scope heard said ended)
          → IfOk made (λ task. (heard : List Incoming) (said : List Outgoing) (ended : Option EndKind) → answers task heard said ended
          → BothAnswer first second http ws scope heard said ended)
      session_answers (Ok task) it is within = λ heard said ended kept. session_goes heard said ended it is (within heard said ended kept)
      session_answers (Err fault) it is within = tt

      pub session_fault : (made : Result T F) (it : WsScope) → scope ≡ WebSocket it → OnErr made (second ws scope [] [] (Some Faulted))
          → OnErr made (BothAnswer first second http ws scope [] [] (Some Faulted))
      session_fault (Ok task) it is fault = tt
      session_fault (Err why) it is fault = session_goes [] [] (Some Faulted) it is fault

      pub lifespan_answers : (made : Result T F) (it : LifespanScope) → scope ≡ Lifespan it
          → IfOk made (λ task. (heard : List Incoming) (said : List Outgoing) (ended : Option EndKind) → answers task heard said ended → first http scope heard said ended)
          → IfOk made (λ task. (heard : List Incoming) (said : List Outgoing) (ended : Option EndKind) → answers task heard said ended
          → BothAnswer first second http ws scope heard said ended)
      lifespan_answers (Ok task) it is within = λ heard said ended kept. lifespan_goes heard said ended it is (within heard said ended kept)
      lifespan_answers (Err fault) it is within = tt

      pub lifespan_fault : (made : Result T F) (it : LifespanScope) → scope ≡ Lifespan it → OnErr made (first http scope [] [] (Some Faulted))
          → OnErr made (BothAnswer first second http ws scope [] [] (Some Faulted))
      lifespan_fault (Ok task) it is fault = tt
      lifespan_fault (Err why) it is fault = lifespan_goes [] [] (Some Faulted) it is fault

  module _ (first : A → Scope → Type 0) (second : B → Scope → Type 0) where
    pub request_refused : (request : HttpScope) → scope ≡ Http request → first http scope → BothRefuse first second http ws scope
    request_refused request is holds = subst (λ (s : Scope). BothRefuse first second http ws s) (sym is) (subst (λ (s : Scope). first http s) is holds)

    pub session_refused : (session : WsScope) → scope ≡ WebSocket session → second ws scope → BothRefuse first second http ws scope
    session_refused session is holds = subst (λ (s : Scope). BothRefuse first second http ws s) (sym is) (subst (λ (s : Scope). second ws s) is holds)

    pub lifespan_refused : (life : LifespanScope) → scope ≡ Lifespan life → first http scope → BothRefuse first second http ws scope
    lifespan_refused life is holds = subst (λ (s : Scope). BothRefuse first second http ws s) (sym is) (subst (λ (s : Scope). first http s) is holds)
