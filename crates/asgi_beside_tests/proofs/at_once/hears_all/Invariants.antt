use Rattle.std.proofs.Common.{None}
use Rattle.futures.specs.Task.{Keeps}
use Rattle.asgi_apps.specs.Ends.{GoesOn}
use Rattle.asgi_beside_tests.proofs.at_once.hears_all.Given as goal

abbrev pub invariant-loop-try : goal.invariant-loop-try
invariant-loop-try g l = record {
  goes : GoesOn g.E.AppEnd None l.fn.end l.end;
  kept : Keeps l.fn.cx l.cx;
}
