use Rattle.asgi_run.specs.Running.{GoesOnAs, HasMoved, IsPolled, TagStays}
use Rattle.asgi_run.proofs.inline.poll_on.Given as goal

abbrev pub invariant-loop-poll : goal.invariant-loop-poll
invariant-loop-poll g l = record {
  side : GoesOnAs g.T.AppTask.stands g.T.AppTask.answers g.E.AppEnd l.fn.side l.side;
  tag : TagStays g.E.AppEnd l.fn.side l.side;
  moved : HasMoved g.E.AppEnd l.fn.side l.side;
  polled : IsPolled l.fn.side l.side;
}
