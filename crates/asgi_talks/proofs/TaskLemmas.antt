-- A fresh task of a talker, and that it promises what the application promises.
use Rattle.std.proofs.Common.{◌≡◌, List, [], Option, Some, None, Result, Ok, Err, IfOk, refl, sym, subst, inl, inr}
use Rattle.std.specs.Prelude.{OnErr}
use Rattle.asgi_types.specs.declared.scope.Kind.TheVariants as kind
use Rattle.asgi_types.specs.declared.scope.HttpScope.{HttpScope}
use Rattle.asgi_types.specs.declared.scope.WsScope.{WsScope}
use Rattle.asgi_types.specs.declared.scope.Scope.{Scope}
use Rattle.asgi_types.specs.declared.scope.Scope.TheVariants.{Http, WebSocket, Lifespan}
use Rattle.asgi_types.specs.declared.incoming.Payload.{Payload}
use Rattle.asgi_types.specs.declared.incoming.Incoming.{Incoming}
use Rattle.asgi_types.specs.declared.outgoing.Outgoing.{Outgoing}
use Rattle.asgi_types.specs.declared.end_kind.EndKind.{EndKind}
use Rattle.asgi_types.specs.declared.end_kind.EndKind.TheVariants.{Faulted}
use Rattle.asgi_apps.specs.Answers.{Answers, not_found_answer}
use Rattle.asgi_apps.specs.Scopes.{kind_of}
use Rattle.asgi_talks.specs.declared.answer.Answer.{Answer}
use Rattle.asgi_talks.specs.declared.opened.Opened.{Opened}
use Rattle.asgi_talks.specs.declared.talked.TalkedTask.{TalkedTask}
use Rattle.asgi_talks.specs.declared.talked.TalkedTask.TheVariants.{Talks, Denies}
use Rattle.asgi_talks.specs.declared.talking.Stage.{Stage}
use Rattle.asgi_talks.specs.Sessions.{AnswersSession, IsUnopened, TalkedAnswers}
use Rattle.asgi_talks.specs.Talking.{Begins, BeginsIn, IsDenied, IsWaiting, StandsAt, TaskAnswers, TaskStands}

-- what is a session's scope
pub session_in : (scope : Scope) → kind_of scope ≡ kind.WebSocket → (session : WsScope) × (scope ≡ WebSocket session)
session_in (Http request) is = absurd (cc (is))
session_in (WebSocket session) is = (session, refl)
session_in (Lifespan life) is = absurd (cc (is))

module _ {T S F : Type 0} (opens : T → WsScope → Opened S → Type 0) (answers : S → Payload → S → Answer → Type 0) (tells : S → S → Answer → Type 0)
    (fails : S → Type 0) (talker : T) where
  -- ---- a session

  begun_at : (made : Result (TalkedTask T S) F) (session : WsScope) → IfOk made (λ task. Begins task talker session)
      → IfOk made (λ task. TaskStands opens answers tells task kind.WebSocket [] [])
  begun_at (Ok (Talks task)) session is =
      let unopened : IsUnopened [] [] = record { unconnected = refl; silent = refl } in
      let waiting : IsWaiting task.called.items kind.WebSocket [] [] = record { kind_is = refl; gone = refl; unopened = unopened; uncalled = is.2 } in
      subst (λ (g : Stage S). StandsAt (opens task.asked.talker task.asked.scope) answers tells task.called.items g kind.WebSocket [] []) (sym is.3) waiting
  begun_at (Ok (Denies says)) session is = absurd is
  begun_at (Err fault) session is = tt

  begun_promise : (made : Result (TalkedTask T S) F) (session : WsScope) → IfOk made (λ task. Begins task talker session)
      → IfOk made (λ task. (heard : List Incoming) (said : List Outgoing) (ended : Option EndKind) → TaskAnswers opens answers tells fails task heard said ended
      → TalkedAnswers opens answers tells fails talker (WebSocket session) heard said ended)
  begun_promise (Ok (Talks task)) session is = λ heard said ended kept.
      subst (λ (s : WsScope). AnswersSession (opens talker s) answers tells fails heard said ended) is.1
      (subst (λ (t : T). AnswersSession (opens t task.asked.scope) answers tells fails heard said ended) is.0 kept)
  begun_promise (Ok (Denies says)) session is = absurd is
  begun_promise (Err fault) session is = tt

  begun_failure : (made : Result (TalkedTask T S) F) (session : WsScope) → OnErr made (TalkedAnswers opens answers tells fails talker (WebSocket session) [] [] (Some Faulted))
  begun_failure (Ok task) session = tt
  begun_failure (Err fault) session = inl (refl, refl)

  -- ---- a request

  denied_at : (made : Result (TalkedTask T S) F) (scope : Scope) → IfOk made (λ task. IsDenied task scope) → IfOk made (λ task. TaskStands opens answers tells task (kind_of scope) [] [])
  denied_at (Ok (Talks task)) scope is = absurd is
  denied_at (Ok (Denies says)) scope is = is.0
  denied_at (Err fault) scope is = tt

  denied_promise : (made : Result (TalkedTask T S) F) (request : HttpScope) → IfOk made (λ task. IsDenied task (Http request))
      → IfOk made (λ task. (heard : List Incoming) (said : List Outgoing) (ended : Option EndKind) → TaskAnswers opens answers tells fails task heard said ended
      → TalkedAnswers opens answers tells fails talker (Http request) heard said ended)
  denied_promise (Ok (Talks task)) request is = absurd is
  denied_promise (Ok (Denies says)) request is = is.1
  denied_promise (Err fault) request is = tt

  -- ---- what was made in a scope

  module _ (made : Result (TalkedTask T S) F) (scope : Scope) where
    begun_in : (session : WsScope) → scope ≡ WebSocket session → IfOk made (λ task. BeginsIn task talker scope)
        → IfOk made (λ task. Begins task talker session)
    begun_in session is begins = subst (λ (s : Scope). IfOk made (λ task. BeginsIn task talker s)) is begins

    pub begun_stands : (session : WsScope) → scope ≡ WebSocket session → IfOk made (λ task. BeginsIn task talker scope)
        → IfOk made (λ task. TaskStands opens answers tells task (kind_of scope) [] [])
    begun_stands session is begins =
        subst (λ (s : Scope). IfOk made (λ task. TaskStands opens answers tells task (kind_of s) [] [])) (sym is) (begun_at made session (begun_in session is begins))

    pub begun_answers : (session : WsScope) → scope ≡ WebSocket session → IfOk made (λ task. BeginsIn task talker scope)
        → IfOk made (λ task. (heard : List Incoming) (said : List Outgoing) (ended : Option EndKind) → TaskAnswers opens answers tells fails task heard said ended
        → TalkedAnswers opens answers tells fails talker scope heard said ended)
    begun_answers session is begins =
        subst (λ (s : Scope). IfOk made (λ task. (heard : List Incoming) (said : List Outgoing) (ended : Option EndKind) → TaskAnswers opens answers tells fails task heard said ended
        → TalkedAnswers opens answers tells fails talker s heard said ended)) (sym is) (begun_promise made session (begun_in session is begins))

    pub begun_fault : (session : WsScope) → scope ≡ WebSocket session → OnErr made (TalkedAnswers opens answers tells fails talker scope [] [] (Some Faulted))
    begun_fault session is =
        subst (λ (s : Scope). OnErr made (TalkedAnswers opens answers tells fails talker s [] [] (Some Faulted))) (sym is) (begun_failure made session)

    pub denied_stands : IfOk made (λ task. IsDenied task scope) → IfOk made (λ task. TaskStands opens answers tells task (kind_of scope) [] [])
    denied_stands denies = denied_at made scope denies

    pub denied_answers : (request : HttpScope) → scope ≡ Http request → IfOk made (λ task. IsDenied task scope)
        → IfOk made (λ task. (heard : List Incoming) (said : List Outgoing) (ended : Option EndKind) → TaskAnswers opens answers tells fails task heard said ended
        → TalkedAnswers opens answers tells fails talker scope heard said ended)
    denied_answers request is denies =
        subst (λ (s : Scope). IfOk made (λ task. (heard : List Incoming) (said : List Outgoing) (ended : Option EndKind) → TaskAnswers opens answers tells fails task heard said ended
        → TalkedAnswers opens answers tells fails talker s heard said ended)) (sym is)
        (denied_promise made request (subst (λ (s : Scope). IfOk made (λ task. IsDenied task s)) is denies))

    pub denied_fault : (request : HttpScope) → scope ≡ Http request → OnErr made (Answers (not_found_answer scope) [] [] (Some Faulted))
        → OnErr made (TalkedAnswers opens answers tells fails talker scope [] [] (Some Faulted))
    denied_fault request is faults =
        subst (λ (s : Scope). OnErr made (TalkedAnswers opens answers tells fails talker s [] [] (Some Faulted))) (sym is)
        (subst (λ (s : Scope). OnErr made (Answers (not_found_answer s) [] [] (Some Faulted))) is faults)
