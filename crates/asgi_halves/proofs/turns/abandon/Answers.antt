use Rattle.asgi_halves.proofs.HalfWords.{sym, subst, inl, inr, ◌∙◌, Stage, IsOpen}
use Rattle.asgi_halves.proofs.TurnLemmas.{offers_cut}
use Rattle.asgi_halves.proofs.turns.abandon.Goals as goal

pub returns-clause-leads : goal.returns-clause-leads
returns-clause-leads g c scene line read view x v =
    let o = c.offer_disconnect-told.ensures in
    offers_cut g.C.ConnEnd view _ c.cut_disconnect.ensures.event v o.first o.yes o.no o.broken o.same.0 (λ later off. elim c.in-Some.ensures.ends [
      | inl is ↦ c.end_with.ensures.cut (sym c.stage.ensures ∙ is) scene line read view later x off
      | inr is ↦ c.end_with.ensures.stops (subst (λ (s : Stage). IsOpen s) c.stage.ensures is.0) is.1 scene line read view later x off
    ])
