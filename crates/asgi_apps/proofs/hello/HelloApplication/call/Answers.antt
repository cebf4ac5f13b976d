use Rattle.asgi_apps.proofs.SayLemmas.{given_answers}
use Rattle.asgi_apps.proofs.hello.HelloApplication.call.Goals as goal

pub returns-in-Http-clause-answers : goal.returns-in-Http-clause-answers
returns-in-Http-clause-answers c = rw c.in-Http.is (given_answers c.respond_line.result _ _ c.respond_line.ensures.gives)
