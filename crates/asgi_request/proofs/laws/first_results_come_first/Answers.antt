use Rattle.std.proofs.Common.{◌++◌, ◌∙◌, List, ℕ, subst, append_assoc}
use Rattle.asgi_request.specs.Results.{GivesResults}
use Rattle.asgi_request.proofs.ResultsLemmas.{prefix_of}
use Rattle.asgi_request.proofs.laws.first_results_come_first.Goals as goal

pub returns : goal.returns
returns c limits bytes first results rest x y =
    let on = prefix_of limits limits.block_in_range.0 x.front x.after (first ++ x.further) results x.rest rest x.gives
    (subst (λ (l : List ℕ). GivesResults limits l results rest) x.splits y) in
    (x.further ++ on.0, on.1 ∙ append_assoc first x.further on.0)
