use Rattle.asgi_halves.proofs.HalfWords.{sym, subst, ◌∙◌, BodyProgress, Invariant, ◌++◌, ◌∷◌, [], List, ap, Incoming}
use Rattle.asgi_halves.proofs.HalfInLemmas.{offered_on}
use Rattle.asgi_halves.proofs.half.HttpHalf.offer.Goals as goal

pub returns-in-Ok-clause-leads : goal.returns-in-Ok-clause-leads
returns-in-Ok-clause-leads g c scene line read view x v =
    let event = c.in-Waits.event in
    let on = offered_on x c.requires.running.0 event c.requires.running.1 (sym c.replace.ensures.value ∙ c.in-Waits.is) in
    let offered = ap (λ (l : List Incoming). l ++ event ∷ []) v.0 ∙ sym c.in-Ok.ensures.ok.0 in
    (record view { offered = view.offered ++ event ∷ [] }, rw c.replace.ensures.after on, (offered, v.1 ∙ sym c.offer.ensures.same.0, v.2 ∙ sym c.offer.ensures.same.1))

pub returns-in-Err-clause-leads : goal.returns-in-Err-clause-leads
returns-in-Err-clause-leads g c scene line read view x v =
    let waits = sym c.replace.ensures.value ∙ c.in-Waits.is ∙ ap BodyProgress.Waits (sym c.in-Err.ensures.err.0) in
    let still = subst (λ (b : BodyProgress). Invariant scene line (record c.args.self.now { body = b }) read view) waits x in
    (view, still, (v.0 ∙ sym c.in-Err.ensures.err.1, v.1 ∙ sym c.offer.ensures.same.0, v.2 ∙ sym c.offer.ensures.same.1))
