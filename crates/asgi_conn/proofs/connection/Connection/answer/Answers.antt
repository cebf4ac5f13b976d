use Rattle.asgi_conn.proofs.AnswerLemmas.{serves_short}
use Rattle.asgi_conn.proofs.TurnLemmas.{http_begun}
use Rattle.asgi_conn.proofs.connection.Connection.answer.Goals as goal

pub returns-in-Some-clause-serves : goal.returns-in-Some-clause-serves
returns-in-Some-clause-serves g c scene setting read arrived tally scope opens promised tallied =
    rw c.end_with.ensures.at (serves_short opens promised tallied c.in-Some.outcome c.in-Some.ensures.lacking.0)

pub returns-in-None-clause-serves : goal.returns-in-None-clause-serves
returns-in-None-clause-serves g c scene setting read arrived tally scope opens promised tallied =
    let begun = c.in-None.ensures.begun in
    rw (begun.1, c.leave_session.ensures) (http_begun (g.A.Application.answers c.args.calls.now.app.now) scene arrived begun.2 scope opens.facts_are c.begin-in-None.ensures.limits
    (c.begin-in-None.ensures.begins scene c.args.facts read arrived opens (c.new-text.ensures.response c.requires.plain)) promised tallied)
