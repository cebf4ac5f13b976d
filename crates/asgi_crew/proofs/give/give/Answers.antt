use Rattle.std.proofs.Common.{ap, ◌∙◌}
use Rattle.asgi_crew.specs.declared.channel.Hand.{Hand}
use Rattle.asgi_crew.proofs.Moves.{gives_this}
use Rattle.asgi_crew.proofs.give.give.Goals as goal

pub send_as-requires-clause-rule : goal.send_as-requires-clause-rule
send_as-requires-clause-rule g c =
    let same = c.loop.invariant.same in (
      gives_this _ _ _ _ c.args.task c.loop.invariant.mark
          (ap (λ (h : Hand g.row.C.Denot). h.gives) same ∙ c.requires.may.0)
          (rw same c.requires.may.1)
          (ap (λ (h : Hand g.row.C.Denot). h.shut) same ∙ c.requires.may.2),
      λ items views h at. tt,
    )
