use Rattle.std.proofs.Common.{Result, Ok, Err, IfOk, ◌≡◌, true, [], Some, refl}
use Rattle.std.specs.Prelude.{codes}
use Rattle.asgi_types.specs.declared.scope.Kind.TheVariants as kind
use Rattle.asgi_apps.specs.declared.echo.EchoTask.{EchoTask}
use Rattle.asgi_apps.specs.Answers.{start_of}
use Rattle.asgi_apps.specs.Echoing.{Stands}
use Rattle.asgi_apps.proofs.EchoSteps.{begun_http, begun_session}
use Rattle.asgi_apps.proofs.echo.EchoApplication.call.Goals as goal

begun : {F : Type 0} (made : Result EchoTask F)
    → IfOk made (λ task. (task.kind ≡ kind.Http) × (task.listens ≡ true) × (task.waiting ≡ Some (start_of 200 (codes "content-type") (codes "application/octet-stream"))))
    → IfOk made (λ task. Stands task kind.Http [] [])
begun (Ok task) made =
    rw (made.1, made.2) (begun_http task.kind kind.Http [] [] made.0 refl refl refl)
begun (Err fault) made = tt

pub returns-in-Http-clause-stands : goal.returns-in-Http-clause-stands
returns-in-Http-clause-stands c = rw c.in-Http.is (begun c.echo_request.result c.echo_request.ensures.ok)

pub returns-in-WebSocket-clause-stands : goal.returns-in-WebSocket-clause-stands
returns-in-WebSocket-clause-stands c = rw c.in-WebSocket.is (begun_session kind.WebSocket kind.WebSocket [] [] refl refl refl refl c.close.result c.close.ensures)
