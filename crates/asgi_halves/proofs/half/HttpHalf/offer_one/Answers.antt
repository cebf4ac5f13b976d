use Rattle.asgi_halves.proofs.HalfInLemmas.{pulled}
use Rattle.asgi_halves.proofs.half.HttpHalf.offer_one.Goals as goal

pub returns-clause-leads : goal.returns-clause-leads
returns-clause-leads g c scene line read view x v =
    c.offer_held.ensures.leads scene line read view (pulled x c.requires c.if-self.false c.pull.ensures.same c.pull.ensures.limits c.pull.ensures.gives) v
