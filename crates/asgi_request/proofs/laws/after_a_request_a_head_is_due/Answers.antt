use Rattle.asgi_request.proofs.laws.after_a_request_a_head_is_due.Goals as goal
use Rattle.std.proofs.Common.{[], refl}
use Rattle.asgi_request.proofs.OpenedLemmas.{closed_at, closed_stays, opens_after}
use Rattle.asgi_request.proofs.StartLemmas.{next_refusal, head_is_open}

pub returns-clause-starts : goal.returns-clause-starts
returns-clause-starts c limits bytes = ([], refl, refl)

pub returns-clause-grows : goal.returns-clause-grows
returns-clause-grows c limits bytes more closed after x = closed_stays limits bytes more closed after x

pub returns-clause-opens : goal.returns-clause-opens
returns-clause-opens c limits bytes closed after scope facts arrived x b = opens_after limits bytes closed after scope facts arrived x b

pub returns-clause-refused : goal.returns-clause-refused
returns-clause-refused c reader bytes closed after status x r =
    next_refusal reader.limits bytes closed after reader.place reader.held status (closed_at reader.limits bytes closed after x) r

pub returns-clause-need : goal.returns-clause-need
returns-clause-need c reader bytes closed after x g = head_is_open reader.limits bytes closed after g.0 (closed_at reader.limits bytes closed after x) g.1
