use Rattle.std.proofs.lemmas.Bool.Decides.{Decides-eqb}
use Rattle.std.proofs.lemmas.Slice.Eq.{slice_eq-Decides, strip_prefix_is}
use Rattle.asgi_talks.proofs.OriginLemmas.{joined, not_joined}
use Rattle.asgi_talks.proofs.origin.is_joined.Goals as goal

pub returns-in-Some : goal.returns-in-Some
returns-in-Some c =
    let split = rw c.in-Some.is at (strip_prefix_is Decides-eqb c.args.text.now c.args.first.now c.strip_prefix.result c.strip_prefix.ensures.cases) in
    joined c.args.text.now c.args.first.now c.in-Some.after.now c.args.rest.now c.eq.result split (slice_eq-Decides Decides-eqb c.in-Some.after.now c.args.rest.now c.eq.result c.eq.ensures)

pub returns-in-None : goal.returns-in-None
returns-in-None c =
    let other = rw c.in-None.is at (strip_prefix_is Decides-eqb c.args.text.now c.args.first.now c.strip_prefix.result c.strip_prefix.ensures.cases) in
    (λ no. absurd (cc), not_joined c.args.text.now c.args.first.now c.args.rest.now other)
