use Rattle.std.proofs.Common.{inl, inr}
use Rattle.asgi_conn.proofs.BetweenLemmas.{held_is, ends_finished, ends_broken}
use Rattle.asgi_conn.proofs.between.at_end.Goals as goal

pub returns-in-Failed-clause-ends : goal.returns-in-Failed-clause-ends
returns-in-Failed-clause-ends c limits start now read given exchanges after written x all = ends_broken x all (inl c.in-Failed.is)

pub returns-then-is_blank-clause-ends : goal.returns-then-is_blank-clause-ends
returns-then-is_blank-clause-ends c limits start now read given exchanges after written x all =
    ends_finished x all c.in-AtEnd.is (rw (held_is x c.held.result.now (c.held.ensures read given x.stands)) (c.is_blank.ensures.0 c.if-is_blank.true))

pub returns-else-is_blank-clause-ends : goal.returns-else-is_blank-clause-ends
returns-else-is_blank-clause-ends c limits start now read given exchanges after written x all =
    let held = held_is x c.held.result.now (c.held.ensures read given x.stands) in
    ends_broken x all (inr (c.in-AtEnd.is, λ blank. let never = c.is_blank.ensures.1 (rw held at blank) in cc))
