use Rattle.asgi_halves.proofs.session_half.WebSocketHalf.finish_task.Goals as goal

pub returns-then-eq-clause-leads : goal.returns-then-eq-clause-leads
returns-then-eq-clause-leads g c scene read view x =
    let a = c.end_by-outcome.ensures.leads scene read view x in
    let b = c.drop_rest.ensures.leads scene read (record view { arrived = a.0; written = a.1 }) a.2 in
    (b.0, b.1, b.2)
