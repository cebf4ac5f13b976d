use Rattle.asgi_halves.proofs.HalfWords.{◌++◌, ◌∷◌, [], List, ap, sym, ◌∙◌, is_some, not, Incoming}
use Rattle.asgi_halves.proofs.HalfInLemmas.{broken_off, none_broke}
use Rattle.asgi_halves.proofs.half.HttpHalf.break_off.Goals as goal

pub returns-clause-leads : goal.returns-clause-leads
returns-clause-leads g c scene line read view x v =
    let o = c.offer_disconnect.ensures in
    let told = o.yes (o.first ∙ ap not (sym v.1 ∙ ap is_some (none_broke x c.requires.running.0 c.requires.running.1))) in
    let offered = ap (λ (l : List Incoming). l ++ Incoming.HttpDisconnect ∷ []) v.0 ∙ sym told in
    (_, broken_off x c.requires.running.0 c.requires.running.1 c.requires.due, (offered, sym o.broken, v.2 ∙ sym o.same.0))
