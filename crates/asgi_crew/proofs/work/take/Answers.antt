use Rattle.std.proofs.Common.{ap, ◌∙◌}
use Rattle.asgi_crew.specs.declared.channel.Hand.{Hand}
use Rattle.asgi_crew.proofs.Moves.{takes}
use Rattle.asgi_crew.proofs.work.take.Goals as goal

pub recv_as-requires-clause-rule : goal.recv_as-requires-clause-rule
recv_as-requires-clause-rule g c =
    let same = c.loop.invariant.same in (
      takes _ _ (rw same c.requires.may.0) (ap (λ (h : Hand g.row.C.Denot). h.gives) same ∙ c.requires.may.1),
      λ items views h at. tt,
    )
