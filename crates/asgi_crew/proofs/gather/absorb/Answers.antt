use Rattle.std.proofs.Common.{ap, ◌∙◌}
use Rattle.crossbeam_channel.specs.Claims.{view}
use Rattle.asgi_crew.specs.declared.channel.Hand.{Hand}
use Rattle.asgi_crew.proofs.Moves.{bounds, merges}
use Rattle.asgi_crew.proofs.gather.absorb.Goals as goal

pub absorb-requires-clause-rule : goal.absorb-requires-clause-rule
absorb-requires-clause-rule g c =
    let is = c.requires.ended in
    merges c.args.pass.now.id (view c.args.pass.now) c.args.other.id (view c.args.other) c.requires.may.0 c.requires.may.1
    (ap (λ (h : Hand g.row.C.Denot). h.gives) is) (ap (λ (h : Hand g.row.C.Denot). h.given) is) (ap (λ (h : Hand g.row.C.Denot). h.shut) is)

pub learn_as-requires-clause-rule : goal.learn_as-requires-clause-rule
learn_as-requires-clause-rule g c =
    bounds c.absorb.new.pass.id (view c.absorb.new.pass) (ap (λ (h : Hand g.row.C.Denot). h.gives) c.absorb.ensures.rule ∙ c.requires.may.0)
