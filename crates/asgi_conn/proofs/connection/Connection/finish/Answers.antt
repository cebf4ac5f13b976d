use Rattle.std.proofs.Common.{sym, ◌∙◌}
use Rattle.asgi_conn.proofs.connection.Connection.finish.Goals as goal

pub end_request-self-requires-clause-stands : goal.end_request-self-requires-clause-stands
end_request-self-requires-clause-stands g c =
    let s = c.requires in (s.0, s.1, s.2, s.3, rw (sym c.take.ensures.value ∙ c.in-Some.is, c.in-None.is) at s.6.serving)

pub returns-in-None-clause-stands : goal.returns-in-None-clause-stands
returns-in-None-clause-stands g c app limits start now before pauses s =
    let is = sym c.take.ensures.value ∙ c.in-Some.is in
    let over = rw (is, c.in-None.is) at (c.goes_on.ensures.no c.if-goes_on.false) in
    record {
      serving = rw (c.take.ensures.after, c.in-None.is) (c.end_request-self.ensures.serves app limits start now (rw (is, c.in-None.is) at s.serving));
      counted = rw (c.take.ensures.after, c.in-None.is) (c.end_request-self.ensures.counts limits before pauses (rw (is, c.in-None.is) at s.counted) over);
    }

pub end_session-requires-clause-stands : goal.end_session-requires-clause-stands
end_session-requires-clause-stands g c =
    let s = c.requires in
    (s.0, s.1, s.2, s.3, rw c.deref_mut.ensures.value (rw (sym c.take.ensures.value ∙ c.in-Some.is, c.in-Some-session.is) at s.6.serving))

pub returns-in-Some-session-clause-stands : goal.returns-in-Some-session-clause-stands
returns-in-Some-session-clause-stands g c app limits start now before pauses s =
    let is = sym c.take.ensures.value ∙ c.in-Some.is in
    let over = rw (is, c.in-Some-session.is, sym c.deref_mut.ensures.value) at (c.goes_on.ensures.no c.if-goes_on.false) in
    record {
      serving = rw c.take.ensures.after (c.end_session.ensures.serves app limits start now (rw (is, c.in-Some-session.is, sym c.deref_mut.ensures.value) at s.serving));
      counted = rw c.take.ensures.after (c.end_session.ensures.counts limits before pauses (rw (is, c.in-Some-session.is, sym c.deref_mut.ensures.value) at s.counted) over);
    }
