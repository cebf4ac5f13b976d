-- Steps after steps are steps.
use Rattle.std.proofs.Common.{◌≡◌, List, [], ◌∷◌, ◌++◌, refl, sym, ap, ◌∙◌}
use Rattle.asgi_exchange.specs.Exchange.{Exchange}
use Rattle.asgi_exchange.specs.Schedules.{ConnStep, conn_after, conn_run, ConnGoesOn, AppStep, app_after, app_run, AppGoesOn}
use Rattle.asgi_exchange.specs.Views.{ConnView, AppView}

module _ {A W : Type 0} (x : Exchange A W) where
  conn_run-append : (first more : List (ConnStep A)) (view : ConnView A W) → conn_run x (first ++ more) view ≡ conn_run x more (conn_run x first view)
  conn_run-append [] more view = refl
  conn_run-append (step ∷ first) more view = conn_run-append first more (conn_after x view step)

  app_run-append : (first more : List AppStep) (view : AppView) → app_run x (first ++ more) view ≡ app_run x more (app_run x first view)
  app_run-append [] more view = refl
  app_run-append (step ∷ first) more view = app_run-append first more (app_after x view step)

  pub conn_stays : (view : ConnView A W) → ConnGoesOn x view view
  conn_stays view = ([], refl)

  pub conn_steps : (view : ConnView A W) (step : ConnStep A) → ConnGoesOn x view (conn_after x view step)
  conn_steps view step = (step ∷ [], refl)

  pub conn_follows : (old view new : ConnView A W) → ConnGoesOn x old view → ConnGoesOn x view new → ConnGoesOn x old new
  conn_follows old view new first more =
      (first.0 ++ more.0, more.1 ∙ ap (conn_run x more.0) first.1 ∙ sym (conn_run-append first.0 more.0 old))

  pub app_stays : (view : AppView) → AppGoesOn x view view
  app_stays view = ([], refl)

  pub app_steps : (view : AppView) (step : AppStep) → AppGoesOn x view (app_after x view step)
  app_steps view step = (step ∷ [], refl)

  pub app_follows : (old view new : AppView) → AppGoesOn x old view → AppGoesOn x view new → AppGoesOn x old new
  app_follows old view new first more =
      (first.0 ++ more.0, more.1 ∙ ap (app_run x more.0) first.1 ∙ sym (app_run-append first.0 more.0 old))
