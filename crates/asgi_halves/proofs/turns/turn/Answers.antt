use Rattle.asgi_halves.proofs.HalfWords.{IsViewOf, leads_none, leads_out}
use Rattle.asgi_run.proofs.LeadsLemmas.{leads_in}
use Rattle.asgi_halves.proofs.turns.turn.Goals as goal

pub returns-in-Ending-clause-leads : goal.returns-in-Ending-clause-leads
returns-in-Ending-clause-leads g c = leads_out g.K.ExchangeKind.stands _ g.C.ConnEnd c.args.end.now _ _ _ _ c.finish.ensures.leads

pub returns-in-Cut-clause-leads : goal.returns-in-Cut-clause-leads
returns-in-Cut-clause-leads g c = leads_in g.K.ExchangeKind.stands _ _ _ _ _ c.drain_after_cut.ensures.leads

pub returns-in-Over-clause-leads : goal.returns-in-Over-clause-leads
returns-in-Over-clause-leads g c = leads_none g.K.ExchangeKind.stands _ _ (IsViewOf g.C.ConnEnd c.args.end.now)

pub returns-in-Ending-clause-rest : goal.returns-in-Ending-clause-rest
returns-in-Ending-clause-rest g c kind other was is = c.finish.ensures.turn other is
