use Rattle.asgi_request.proofs.laws.given_events_are_due.Goals as goal
use Rattle.asgi_request.proofs.DueLemmas.{events_are_due, whole_is_complete, bad_is_faulty, need_is_partial, no_head}
use Rattle.asgi_request.proofs.OpenedLemmas.{opened_at, opened_plain}

pub returns-clause-events : goal.returns-clause-events
returns-clause-events c reader bytes opened framing arrived events due state x body r =
    events_are_due reader.limits bytes opened framing arrived due state reader.place reader.held (opened_at reader.limits bytes opened framing arrived x) (opened_plain reader.limits bytes opened framing arrived x) body events r

pub returns-clause-need : goal.returns-clause-need
returns-clause-need c reader bytes opened framing arrived events due state x body g =
    need_is_partial reader.limits bytes opened framing arrived due state events g.0 (opened_at reader.limits bytes opened framing arrived x) (opened_plain reader.limits bytes opened framing arrived x) body g.1

pub returns-clause-whole : goal.returns-clause-whole
returns-clause-whole c reader bytes opened framing arrived events due state x body r =
    whole_is_complete reader.limits bytes opened framing arrived due state reader.place reader.held (opened_at reader.limits bytes opened framing arrived x) (opened_plain reader.limits bytes opened framing arrived x) body events r

pub returns-clause-refused : goal.returns-clause-refused
returns-clause-refused c reader bytes opened framing arrived events due state status x body r =
    bad_is_faulty reader.limits bytes opened framing arrived due state reader.place reader.held (opened_at reader.limits bytes opened framing arrived x) (opened_plain reader.limits bytes opened framing arrived x) body events status r

pub returns-clause-head : goal.returns-clause-head
returns-clause-head c reader bytes opened framing arrived events due state scope facts x body r =
    no_head reader.limits bytes opened framing arrived due state reader.place reader.held (opened_at reader.limits bytes opened framing arrived x) (opened_plain reader.limits bytes opened framing arrived x) body events scope facts r
