use Rattle.asgi_handlers.proofs.TaskLemmas.{begun_answers, begun_fault, begun_stands}
use Rattle.asgi_handlers.proofs.shared.SharedApplication.call_owned.Goals as goal

pub returns-in-Http-clause-stands : goal.returns-in-Http-clause-stands
returns-in-Http-clause-stands g c =
    begun_stands g.H.Handler.replies c.args.self.now.held c.begin_owned.result c.args.scope _ c.in-Http.is c.begin_owned.ensures.begins

pub returns-in-Http-clause-answers : goal.returns-in-Http-clause-answers
returns-in-Http-clause-answers g c =
    begun_answers g.H.Handler.replies c.args.self.now.held c.begin_owned.result c.args.scope _ c.in-Http.is c.begin_owned.ensures.begins

pub returns-in-Http-clause-fault : goal.returns-in-Http-clause-fault
returns-in-Http-clause-fault g c =
    begun_fault g.H.Handler.replies c.args.self.now.held c.begin_owned.result c.args.scope _ c.in-Http.is
