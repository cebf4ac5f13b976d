use Rattle.asgi_request.proofs.laws.head_opens_a_body.Goals as goal
use Rattle.asgi_request.proofs.OpenedLemmas.{head_opens, opened_stays, whole_closes, next_opens}

pub returns-clause-opens : goal.returns-clause-opens
returns-clause-opens c reader bytes before after scope facts x plain = head_opens reader.limits bytes reader.place reader.held before scope facts after x plain

pub returns-clause-grows : goal.returns-clause-grows
returns-clause-grows c limits bytes more opened framing arrived x = opened_stays limits bytes more opened framing arrived x

pub returns-clause-ends : goal.returns-clause-ends
returns-clause-ends c limits bytes opened framing arrived events after x body = whole_closes limits bytes opened framing arrived events after x body

pub returns-clause-next : goal.returns-clause-next
returns-clause-next c reader bytes closed more after scope facts x r plain =
    next_opens reader.limits bytes closed after reader.place reader.held scope facts more x r plain
