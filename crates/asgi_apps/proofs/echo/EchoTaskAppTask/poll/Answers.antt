use Rattle.std.proofs.Common.{sym, None}
use Rattle.asgi_apps.specs.Ends.{GoesOn}
use Rattle.asgi_apps.proofs.EndLemmas.{goes_further}
use Rattle.asgi_apps.proofs.echo.EchoTaskAppTask.poll.Goals as goal
use Rattle.asgi_apps.proofs.echo.EchoTaskAppTask.poll.Goals.{then-is_none+else-not-self+in-Ready-true, else-is_none}

pub returns-clause-end : goal.returns-clause-end
returns-clause-end g c = elim c.if-is_none.branch [
  | then-is_none+else-not-self+in-Ready-true w ↦
      goes_further g.E.AppEnd None None c.args.end.now c.if-is_none.end c.tell.new.end (rw w.end-is w.listen.ensures.end) c.tell.ensures.end
  | else-is_none w ↦ rw (sym w.end-is) c.tell.ensures.end
]
