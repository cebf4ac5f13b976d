use Rattle.std.proofs.lemmas.Grind.{merely}
use Rattle.asgi_pipes.proofs.StartLemmas.{nothing_at_once, hears_nothing}
use Rattle.asgi_pipes.proofs.app_state.AppState.new.Goals as goal

pub invariant_of-result-clause-judged : goal.invariant_of-result-clause-judged
invariant_of-result-clause-judged c = rw (c.new-2.ensures, c.new-4.ensures) (merely (c.new.ensures c.args.facts))

pub invariant_of-result-clause-at_once : goal.invariant_of-result-clause-at_once
invariant_of-result-clause-at_once c = rw (c.new-2.ensures, c.new-4.ensures) (nothing_at_once c.args.kind)

pub invariant_of-result-clause-hears_is : goal.invariant_of-result-clause-hears_is
invariant_of-result-clause-hears_is c = rw (c.new-2.ensures, c.new-3.ensures, c.new-4.ensures) (merely (hears_nothing c.args.kind))
