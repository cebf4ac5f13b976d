use Rattle.std.proofs.Common.{◌≡◌, ◌-◌, Some}
use Rattle.futures.specs.Task.{Keeps}
use Rattle.asgi_io.specs.Turns.{CountsTurns}
use Rattle.asgi_apps.proofs.EndLemmas.{Polled}
use Rattle.asgi_apps.proofs.TurnLemmas.{HasTaken}
use Rattle.asgi_apps.proofs.driving.drive.Given as goal

abbrev pub invariant-loop-driven : goal.invariant-loop-driven
invariant-loop-driven g l = record {
  polled : Polled g.E.AppEnd g.T.AppTask.stands g.T.AppTask.answers l.fn.running.lent (Some l.driven.lent);
  took : HasTaken g.E.AppEnd l.fn.running.lent l.driven;
  turn_limit : l.taken.turn_limit ≡ l.turns;
  idle_limit : l.taken.idle_limit ≡ l.idle_turns;
  counts : CountsTurns l.turns l.idle_turns l.driven.did.items (g.P.Pause.count l.fn.pause) (g.P.Pause.count l.pause) l.taken.turns l.taken.idle;
  kept : Keeps l.fn.cx l.cx;
}

abbrev pub decreases-loop-driven : goal.decreases-loop-driven
decreases-loop-driven g l = l.taken.turn_limit - l.taken.turns
