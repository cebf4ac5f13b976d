use Rattle.std.proofs.Common.{inl, refl}
use Rattle.asgi_conversation.specs.declared.report.Outcome.TheVariants.{NoMemory}
use Rattle.asgi_conn.proofs.SessionServeLemmas as lemma
use Rattle.asgi_conn.proofs.TurnLemmas.{session_begun}
use Rattle.asgi_conn.proofs.connection.Connection.open.Goals as goal

pub returns-in_default-clause-serves : goal.returns-in_default-clause-serves
returns-in_default-clause-serves g c scene setting read tally scope opens promised tallied =
    rw c.end_with.ensures.at (lemma.opens_short opens promised tallied NoMemory (inl refl))

pub returns-in_default-copy-clause-serves : goal.returns-in_default-copy-clause-serves
returns-in_default-copy-clause-serves g c scene setting read tally scope opens promised tallied =
    rw c.end_with-in_default-copy.ensures.at (lemma.opens_short opens promised tallied NoMemory (inl refl))

pub returns-in_default-boxed-clause-serves : goal.returns-in_default-boxed-clause-serves
returns-in_default-boxed-clause-serves g c scene setting read tally scope opens promised tallied =
    rw c.end_with-in_default-boxed.ensures.at (lemma.opens_short opens promised tallied NoMemory (inl refl))

pub returns-in-Some-begin-clause-serves : goal.returns-in-Some-begin-clause-serves
returns-in-Some-begin-clause-serves g c scene setting read tally scope opens promised tallied =
    rw c.end_with-in-Some-begin.ensures.at (lemma.opens_short opens promised tallied c.in-Some-begin.outcome c.in-Some-begin.ensures.lacking.0)

pub returns-in-None-clause-serves : goal.returns-in-None-clause-serves
returns-in-None-clause-serves g c scene setting read tally scope opens promised tallied =
    let now = g.L.Line.state c.args.line.now in
    let frames = lemma.frames_are opens c.in-Ok.frames.items c.in-Ok.ensures.frames in
    let starts = lemma.opens_session opens c.new-text.result c.in-Ok.ensures.same c.in-Ok-copy.ensures.same frames c.new-text.ensures.denial c.requires.upgrade in
    let begun = c.in-None.ensures.begun in
    rw (begun.1, c.in-Some.ensures) (session_begun (g.A.Application.answers c.args.calls.now.app.now) scene begun.2 scope opens.facts_are
    (c.begin-half.ensures.begins scene now read (rw c.replace-wire.ensures.value starts)) (rw opens.read_is at opens.ahead) promised tallied)
