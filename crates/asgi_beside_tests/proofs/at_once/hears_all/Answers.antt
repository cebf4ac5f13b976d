use Rattle.std.proofs.Common.{None}
use Rattle.asgi_apps.proofs.EndLemmas.{goes_nowhere, goes_further}
use Rattle.asgi_beside_tests.proofs.at_once.hears_all.Goals as goal

pub loop-try-init : goal.loop-try-init
loop-try-init g c = record { goes = goes_nowhere g.E.AppEnd None c.args.end.now c.requires; kept = λ fact h. h }

pub loop-try-preserved : goal.loop-try-preserved
loop-try-preserved g c = record {
  goes = goes_further g.E.AppEnd None None _ _ _ c.loop-try.invariant.goes c.ask.ensures.end;
  kept = λ fact h. c.ask.ensures.kept fact (c.loop-try.invariant.kept fact h);
}

pub returns-then-ask-clause-end : goal.returns-then-ask-clause-end
returns-then-ask-clause-end g c = goes_further g.E.AppEnd None None _ _ _ c.loop-try.invariant.goes c.ask.ensures.end

pub returns-then-ask-clause-kept : goal.returns-then-ask-clause-kept
returns-then-ask-clause-kept g c = λ fact h. c.ask.ensures.kept fact (c.loop-try.invariant.kept fact h)
