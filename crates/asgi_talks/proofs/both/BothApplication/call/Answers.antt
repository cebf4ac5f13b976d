use Rattle.asgi_talks.specs.Either.{EitherAnswers}
use Rattle.asgi_talks.proofs.BothLemmas.{lifespan_answers, lifespan_fault, lifespan_refused, request_answers, request_fault, request_refused, session_answers, session_fault, session_refused}
use Rattle.asgi_talks.proofs.both.BothApplication.call.Goals as goal

pub returns-in-Http-clause-answers : goal.returns-in-Http-clause-answers
returns-in-Http-clause-answers g c =
    request_answers c.args.self.now.http c.args.self.now.ws c.args.scope.now g.A.Application.answers g.B.Application.answers (EitherAnswers g.A.Task.AppTask.answers g.B.Task.AppTask.answers) c.call_http.result _ c.in-Http.is c.call_http.ensures.answers

pub returns-in-Http-clause-failed : goal.returns-in-Http-clause-failed
returns-in-Http-clause-failed g c failed = request_refused c.args.self.now.http c.args.self.now.ws c.args.scope.now g.A.Application.refuses g.B.Application.refuses _ c.in-Http.is (c.call_http.ensures.failed failed)

pub returns-in-Http-clause-fault : goal.returns-in-Http-clause-fault
returns-in-Http-clause-fault g c =
    request_fault c.args.self.now.http c.args.self.now.ws c.args.scope.now g.A.Application.answers g.B.Application.answers (EitherAnswers g.A.Task.AppTask.answers g.B.Task.AppTask.answers) c.call_http.result _ c.in-Http.is c.call_http.ensures.fault

pub returns-in-WebSocket-clause-answers : goal.returns-in-WebSocket-clause-answers
returns-in-WebSocket-clause-answers g c =
    session_answers c.args.self.now.http c.args.self.now.ws c.args.scope.now g.A.Application.answers g.B.Application.answers (EitherAnswers g.A.Task.AppTask.answers g.B.Task.AppTask.answers) c.call_ws.result _ c.in-WebSocket.is c.call_ws.ensures.answers

pub returns-in-WebSocket-clause-failed : goal.returns-in-WebSocket-clause-failed
returns-in-WebSocket-clause-failed g c failed = session_refused c.args.self.now.http c.args.self.now.ws c.args.scope.now g.A.Application.refuses g.B.Application.refuses _ c.in-WebSocket.is (c.call_ws.ensures.failed failed)

pub returns-in-WebSocket-clause-fault : goal.returns-in-WebSocket-clause-fault
returns-in-WebSocket-clause-fault g c =
    session_fault c.args.self.now.http c.args.self.now.ws c.args.scope.now g.A.Application.answers g.B.Application.answers (EitherAnswers g.A.Task.AppTask.answers g.B.Task.AppTask.answers) c.call_ws.result _ c.in-WebSocket.is c.call_ws.ensures.fault

pub returns-in-Lifespan-clause-answers : goal.returns-in-Lifespan-clause-answers
returns-in-Lifespan-clause-answers g c =
    lifespan_answers c.args.self.now.http c.args.self.now.ws c.args.scope.now g.A.Application.answers g.B.Application.answers (EitherAnswers g.A.Task.AppTask.answers g.B.Task.AppTask.answers) c.call_http-in-Lifespan.result _ c.in-Lifespan.is c.call_http-in-Lifespan.ensures.answers

pub returns-in-Lifespan-clause-failed : goal.returns-in-Lifespan-clause-failed
returns-in-Lifespan-clause-failed g c failed = lifespan_refused c.args.self.now.http c.args.self.now.ws c.args.scope.now g.A.Application.refuses g.B.Application.refuses _ c.in-Lifespan.is (c.call_http-in-Lifespan.ensures.failed failed)

pub returns-in-Lifespan-clause-fault : goal.returns-in-Lifespan-clause-fault
returns-in-Lifespan-clause-fault g c =
    lifespan_fault c.args.self.now.http c.args.self.now.ws c.args.scope.now g.A.Application.answers g.B.Application.answers (EitherAnswers g.A.Task.AppTask.answers g.B.Task.AppTask.answers) c.call_http-in-Lifespan.result _ c.in-Lifespan.is c.call_http-in-Lifespan.ensures.fault
