-- A fresh task of a handler, and that it promises what the application promises.
use Rattle.std.proofs.Common.{◌≡◌, ℕ, List, [], Option, Some, None, Result, Ok, Err, IfOk, refl, sym, subst}
use Rattle.std.specs.Prelude.{OnErr}
use Rattle.asgi_types.specs.declared.scope.Kind.{Kind}
use Rattle.asgi_types.specs.declared.scope.Kind.TheVariants as kind
use Rattle.asgi_types.specs.declared.scope.HttpScope.{HttpScope}
use Rattle.asgi_types.specs.declared.scope.WsScope.{WsScope}
use Rattle.asgi_types.specs.declared.scope.Scope.{Scope}
use Rattle.asgi_types.specs.declared.scope.Scope.TheVariants.{Http, WebSocket}
use Rattle.asgi_types.specs.declared.incoming.Incoming.{Incoming}
use Rattle.asgi_types.specs.declared.outgoing.Outgoing.{Outgoing}
use Rattle.asgi_types.specs.declared.end_kind.EndKind.{EndKind}
use Rattle.asgi_types.specs.declared.end_kind.EndKind.TheVariants.{Faulted}
use Rattle.asgi_apps.specs.Answers.{Answers, not_found_answer}
use Rattle.asgi_apps.specs.Scopes.{kind_of}
use Rattle.asgi_handlers.specs.declared.handled.HandledTask.{HandledTask}
use Rattle.asgi_handlers.specs.declared.handled.HandledTask.TheVariants.{Handles, Denies}
use Rattle.asgi_handlers.specs.declared.reply.Reply.{Reply}
use Rattle.asgi_handlers.specs.declared.sending.Sending.{Sending}
use Rattle.asgi_handlers.specs.Handling.{Begins, IsDenied, IsHearing, StandsAt, TaskAnswers, TaskStands}
use Rattle.asgi_handlers.specs.Replies.{AnswersRequest, HandledAnswers}
use Rattle.asgi_handlers.proofs.HearingLemmas.{failed}

module _ {H F : Type 0} (replies : H → HttpScope → List ℕ → Reply → Type 0) (handler : H) where
  -- ---- a request

  begun_at : (made : Result (HandledTask H) F) (request : HttpScope) → IfOk made (λ task. Begins task handler request)
      → IfOk made (λ task. TaskStands replies task kind.Http [] [])
  begun_at (Ok (Handles task)) request is =
      let hears : IsHearing task.body.items task.given.items kind.Http [] [] =
      record { kind_is = refl; connected = refl; not_whole = refl; body_is = is.2; uncalled = is.3; silent = refl } in
      subst (λ (o : Option Sending). StandsAt (replies task.asked.handler task.asked.scope.value) task.body.items task.given.items o kind.Http [] []) (sym is.4) hears
  begun_at (Ok (Denies says)) request is = absurd is
  begun_at (Err fault) request is = tt

  begun_promise : (made : Result (HandledTask H) F) (request : HttpScope) → IfOk made (λ task. Begins task handler request)
      → IfOk made (λ task. (heard : List Incoming) (said : List Outgoing) (ended : Option EndKind) → TaskAnswers replies task heard said ended
      → HandledAnswers replies handler (Http request) heard said ended)
  begun_promise (Ok (Handles task)) request is = λ heard said ended answers.
      subst (λ (s : HttpScope). AnswersRequest (replies handler s) heard said ended) is.1
      (subst (λ (h : H). AnswersRequest (replies h task.asked.scope.value) heard said ended) is.0 answers)
  begun_promise (Ok (Denies says)) request is = absurd is
  begun_promise (Err fault) request is = tt

  begun_failure : (made : Result (HandledTask H) F) (request : HttpScope) → OnErr made (HandledAnswers replies handler (Http request) [] [] (Some Faulted))
  begun_failure (Ok task) request = tt
  begun_failure (Err fault) request = failed (replies handler request) [] [] refl

  -- ---- a session

  denied_at : (made : Result (HandledTask H) F) (scope : Scope) → IfOk made (λ task. IsDenied task scope) → IfOk made (λ task. TaskStands replies task (kind_of scope) [] [])
  denied_at (Ok (Handles task)) scope is = absurd is
  denied_at (Ok (Denies says)) scope is = is.0
  denied_at (Err fault) scope is = tt

  denied_promise : (made : Result (HandledTask H) F) (session : WsScope) → IfOk made (λ task. IsDenied task (WebSocket session))
      → IfOk made (λ task. (heard : List Incoming) (said : List Outgoing) (ended : Option EndKind) → TaskAnswers replies task heard said ended
      → HandledAnswers replies handler (WebSocket session) heard said ended)
  denied_promise (Ok (Handles task)) session is = absurd is
  denied_promise (Ok (Denies says)) session is = is.1
  denied_promise (Err fault) session is = tt

  -- ---- what was made in a scope

  module _ (made : Result (HandledTask H) F) (scope : Scope) where
    pub begun_stands : (request : HttpScope) → scope ≡ Http request → IfOk made (λ task. Begins task handler request)
        → IfOk made (λ task. TaskStands replies task (kind_of scope) [] [])
    begun_stands request is begins =
        subst (λ (s : Scope). IfOk made (λ task. TaskStands replies task (kind_of s) [] [])) (sym is) (begun_at made request begins)

    pub begun_answers : (request : HttpScope) → scope ≡ Http request → IfOk made (λ task. Begins task handler request)
        → IfOk made (λ task. (heard : List Incoming) (said : List Outgoing) (ended : Option EndKind) → TaskAnswers replies task heard said ended
        → HandledAnswers replies handler scope heard said ended)
    begun_answers request is begins =
        subst (λ (s : Scope). IfOk made (λ task. (heard : List Incoming) (said : List Outgoing) (ended : Option EndKind) → TaskAnswers replies task heard said ended
        → HandledAnswers replies handler s heard said ended)) (sym is) (begun_promise made request begins)

    pub begun_fault : (request : HttpScope) → scope ≡ Http request → OnErr made (HandledAnswers replies handler scope [] [] (Some Faulted))
    begun_fault request is =
        subst (λ (s : Scope). OnErr made (HandledAnswers replies handler s [] [] (Some Faulted))) (sym is) (begun_failure made request)

    pub denied_stands : IfOk made (λ task. IsDenied task scope) → IfOk made (λ task. TaskStands replies task (kind_of scope) [] [])
    denied_stands denies = denied_at made scope denies

    pub denied_answers : (session : WsScope) → scope ≡ WebSocket session → IfOk made (λ task. IsDenied task scope)
        → IfOk made (λ task. (heard : List Incoming) (said : List Outgoing) (ended : Option EndKind) → TaskAnswers replies task heard said ended
        → HandledAnswers replies handler scope heard said ended)
    denied_answers session is denies =
        subst (λ (s : Scope). IfOk made (λ task. (heard : List Incoming) (said : List Outgoing) (ended : Option EndKind) → TaskAnswers replies task heard said ended
        → HandledAnswers replies handler s heard said ended)) (sym is)
        (denied_promise made session (subst (λ (s : Scope). IfOk made (λ task. IsDenied task s)) is denies))

    pub denied_fault : (session : WsScope) → scope ≡ WebSocket session → OnErr made (Answers (not_found_answer scope) [] [] (Some Faulted))
        → OnErr made (HandledAnswers replies handler scope [] [] (Some Faulted))
    denied_fault session is faults =
        subst (λ (s : Scope). OnErr made (HandledAnswers replies handler s [] [] (Some Faulted))) (sym is)
        (subst (λ (s : Scope). OnErr made (Answers (not_found_answer s) [] [] (Some Faulted))) is faults)
