use Rattle.asgi_halves.proofs.HalfWords.{[], append-nil}
use Rattle.asgi_halves.proofs.HalfEndLemmas.{dropped, dropped_short}
use Rattle.asgi_halves.proofs.half.HttpHalf.finish_task.Goals as goal

pub returns-in-Err-clause-leads : goal.returns-in-Err-clause-leads
returns-in-Err-clause-leads g c scene read view x =
    ([], view.arrived, view.written, rw append-nil (dropped_short x c.requires c.drop_rest.ensures.same c.drop_rest.ensures.limits))

pub returns-in-Ok-clause-leads : goal.returns-in-Ok-clause-leads
returns-in-Ok-clause-leads g c scene read view x =
    c.read_rest_or_end.ensures.leads scene read view (dropped x c.requires c.drop_rest.ensures.same c.drop_rest.ensures.limits c.in-Ok.ensures.gives c.drop_rest.ensures.input_broke)
