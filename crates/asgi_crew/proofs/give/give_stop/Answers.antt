use Rattle.std.proofs.Common.{ap, ◌∙◌}
use Rattle.asgi_crew.specs.declared.channel.Hand.{Hand}
use Rattle.asgi_crew.proofs.Moves.{gives_end}
use Rattle.asgi_crew.proofs.give.give_stop.Goals as goal

pub send_as-requires-clause-rule : goal.send_as-requires-clause-rule
send_as-requires-clause-rule g c =
    let same = c.loop.invariant.same in (
      gives_end _ _ _ _ c.loop.invariant.mark
          (ap (λ (h : Hand g.row.C.Denot). h.gives) same ∙ c.requires.may.0)
          (rw same c.requires.may.1),
      λ items views h at. tt,
    )
