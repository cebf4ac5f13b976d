use Rattle.std.proofs.Common.{◌++◌, ℕ, List, ap, ◌∙◌, append-nil, subst}
use Rattle.std.specs.List.Sorted.{IsPermutation}
use Rattle.crossbeam_channel.specs.Claims.{view}
use Rattle.asgi_crew.proofs.Moves.{ended_none, learns}
use Rattle.asgi_crew.proofs.gather.settle.Goals as goal

pub learn_as-requires-clause-rule : goal.learn_as-requires-clause-rule
learn_as-requires-clause-rule g c = learns c.args.pass.id (view c.args.pass) c.requires.whole.1 c.requires.whole.0

pub returns : goal.returns
returns g c =
    let fact = c.learn_as.ensures.rule in let v = view c.args.pass in
    subst (λ (l : List (ℕ × g.row.C.Denot)). IsPermutation v.given l)
    (ap (λ (l : List (ℕ × g.row.C.Denot)). v.taken ++ l) (ended_none fact.0 (fact.1.ended c.requires.whole.2)) ∙ append-nil v.taken) fact.1.each_item
