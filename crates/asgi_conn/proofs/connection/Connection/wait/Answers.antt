use Rattle.asgi_conn.proofs.BetweenLemmas.{ends_idle}
use Rattle.asgi_conn.proofs.connection.Connection.wait.Goals as goal

pub returns-then-has_ended-clause-waits : goal.returns-then-has_ended-clause-waits
returns-then-has_ended-clause-waits g c limits start now read given exchanges after written x all =
    rw c.end_with.ensures.at (c.at_end-outcome.ensures.ends limits start now read given exchanges after written x all)

pub returns-then-is_over-clause-waits : goal.returns-then-is_over-clause-waits
returns-then-is_over-clause-waits g c limits start now read given exchanges after written x all =
    rw c.end_with-then-is_over.ensures.at (ends_idle x all)
