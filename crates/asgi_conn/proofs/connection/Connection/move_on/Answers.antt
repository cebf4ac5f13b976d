use Rattle.std.proofs.Common.{sym}
use Rattle.asgi_conn.proofs.TurnLemmas as lemma
use Rattle.asgi_conn.proofs.connection.Connection.move_on.Goals as goal

pub returns-in-Ok-clause-serves : goal.returns-in-Ok-clause-serves
returns-in-Ok-clause-serves g c app limits start s =
    let due = rw (c.in-None.is, c.in-None-ended.is) at c.requires.due in
    let moved = c.in-Ok.ensures.moved in
    rw (c.in-None.is, c.in-None-ended.is) (lemma.read_on c.read.new.self (rw (c.in-None.is, c.in-None-ended.is) at s)
    due.0 due.1 moved.0 moved.1 moved.3 c.read.ensures.same c.read.ensures.limits moved.2)

pub returns-in-Err-clause-serves : goal.returns-in-Err-clause-serves
returns-in-Err-clause-serves g c app limits start s =
    let due = rw (c.in-None.is, c.in-None-ended.is) at c.requires.due in
    let moved = c.read.ensures.moved in
    rw (c.end_with.ensures.at, c.end_with.ensures.tally) (lemma.read_short c.read.new.self (rw (c.in-None.is, c.in-None-ended.is) at s) due.0 due.1 moved.0 moved.1 moved.3)

pub returns-in-None-session-clause-serves : goal.returns-in-None-session-clause-serves
returns-in-None-session-clause-serves g c app limits start s =
    rw c.in-None-session.is (lemma.http_moves c.turn.ensures.began (rw (c.in-Some.is, c.in-None-session.is) at s) c.turn.ensures.leads)

pub returns-in-Some-session-clause-serves : goal.returns-in-Some-session-clause-serves
returns-in-Some-session-clause-serves g c app limits start s =
    lemma.session_moves c.turn-in-Some-session.ensures.began (rw (c.in-Some.is, c.in-Some-session.is, sym c.deref_mut.ensures.value) at s)
    c.turn-in-Some-session.ensures.leads
