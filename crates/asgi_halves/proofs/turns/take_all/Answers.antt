use Rattle.asgi_halves.proofs.HalfWords.{arith, IsViewOf, leads_none, leads_then, rules}
use Rattle.asgi_halves.proofs.TurnLemmas.{one_longer}
use Rattle.asgi_halves.proofs.turns.take_all.Goals as goal

pub loop-item-init : goal.loop-item-init
loop-item-init g c =
    search (rules, arith, leads_none g.K.ExchangeKind.stands (g.L.Line.state c.args.line.now) c.args.half.now (IsViewOf g.C.ConnEnd c.args.end.now))

pub returns-then-not-take_one-clause-leads : goal.returns-then-not-take_one-clause-leads
returns-then-not-take_one-clause-leads g c = leads_then g.K.ExchangeKind.stands _ _ _ _ _ _ _ _ _ c.loop-item.invariant.leads c.take_one.ensures.leads

pub loop-item-preserved : goal.loop-item-preserved
loop-item-preserved g c =
    let i = c.loop-item.invariant in
    let e = c.take_one.ensures in
    let more = one_longer c.take_one.result (g.C.ConnEnd.got c.loop-item.end) (g.C.ConnEnd.got c.take_one.new.end) c.if-not-take_one.false e.took in
    let leads = leads_then g.K.ExchangeKind.stands _ _ _ _ _ _ _ _ _ i.leads e.leads in search (rules, arith, more, leads, i, e)
