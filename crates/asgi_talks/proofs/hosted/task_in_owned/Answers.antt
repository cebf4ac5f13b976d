use Rattle.asgi_talks.proofs.TaskLemmas.{begun_answers, begun_fault, begun_stands, session_in}
use Rattle.asgi_talks.proofs.hosted.task_in_owned.Goals as goal

pub returns-then-is_session-clause-stands : goal.returns-then-is_session-clause-stands
returns-then-is_session-clause-stands g c =
    let it = session_in c.args.scope (c.is_session.ensures.0 c.if-is_session.true) in
    begun_stands g.T.Talker.opens g.S.Talk.answers g.S.Tells.tells g.S.Tells.fails c.args.hosted.now c.begin_shared_owned.result c.args.scope it.0 it.1 c.begin_shared_owned.ensures.begins

pub returns-then-is_session-clause-answers : goal.returns-then-is_session-clause-answers
returns-then-is_session-clause-answers g c =
    let it = session_in c.args.scope (c.is_session.ensures.0 c.if-is_session.true) in
    begun_answers g.T.Talker.opens g.S.Talk.answers g.S.Tells.tells g.S.Tells.fails c.args.hosted.now c.begin_shared_owned.result c.args.scope it.0 it.1 c.begin_shared_owned.ensures.begins

pub returns-then-is_session-clause-failed : goal.returns-then-is_session-clause-failed
returns-then-is_session-clause-failed g c failed = absurd (c.begin_shared_owned.ensures.failed failed (c.is_session.ensures.0 c.if-is_session.true))

pub returns-then-is_session-clause-fault : goal.returns-then-is_session-clause-fault
returns-then-is_session-clause-fault g c =
    let it = session_in c.args.scope (c.is_session.ensures.0 c.if-is_session.true) in
    begun_fault g.T.Talker.opens g.S.Talk.answers g.S.Tells.tells g.S.Tells.fails c.args.hosted.now c.begin_shared_owned.result c.args.scope it.0 it.1
