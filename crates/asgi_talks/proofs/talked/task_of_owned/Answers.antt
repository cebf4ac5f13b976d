use Rattle.asgi_talks.proofs.TaskLemmas.{begun_answers, begun_fault, begun_stands, session_in}
use Rattle.asgi_talks.proofs.talked.task_of_owned.Goals as goal

pub returns-then-is_session-clause-stands : goal.returns-then-is_session-clause-stands
returns-then-is_session-clause-stands g c =
    let it = session_in c.args.scope (c.is_session.ensures.0 c.if-is_session.true) in
    begun_stands g.T.Talker.opens g.S.Talk.answers g.S.Tells.tells g.S.Tells.fails c.args.talker c.begin_with.result c.args.scope it.0 it.1 c.begin_with.ensures.begins

pub returns-then-is_session-clause-answers : goal.returns-then-is_session-clause-answers
returns-then-is_session-clause-answers g c =
    let it = session_in c.args.scope (c.is_session.ensures.0 c.if-is_session.true) in
    begun_answers g.T.Talker.opens g.S.Talk.answers g.S.Tells.tells g.S.Tells.fails c.args.talker c.begin_with.result c.args.scope it.0 it.1 c.begin_with.ensures.begins

pub returns-then-is_session-clause-failed : goal.returns-then-is_session-clause-failed
returns-then-is_session-clause-failed g c failed = absurd (c.begin_with.ensures.failed failed (c.is_session.ensures.0 c.if-is_session.true))

pub returns-then-is_session-clause-fault : goal.returns-then-is_session-clause-fault
returns-then-is_session-clause-fault g c =
    let it = session_in c.args.scope (c.is_session.ensures.0 c.if-is_session.true) in
    begun_fault g.T.Talker.opens g.S.Talk.answers g.S.Tells.tells g.S.Tells.fails c.args.talker c.begin_with.result c.args.scope it.0 it.1

pub returns-clause-memory : goal.returns-clause-memory
returns-clause-memory g c is = let yes = c.is_session.ensures.1 is in absurd (cc (yes, c.if-is_session.false))
