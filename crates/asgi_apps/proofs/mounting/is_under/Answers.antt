use Rattle.std.proofs.Common.{refl}
use Rattle.std.proofs.lemmas.Bool.Decides.{Decides-eqb}
use Rattle.std.proofs.lemmas.Slice.Eq.{strip_prefix_is}
use Rattle.asgi_apps.proofs.MountLemmas.{empty_is, not_under, some_are, under_at_end, under_after}
use Rattle.asgi_apps.proofs.mounting.is_under.Goals as goal

pub returns-in_default : goal.returns-in_default
returns-in_default c =
    let other = not_under c.args.prefix.now c.args.path.now (rw c.in_default.is at (strip_prefix_is Decides-eqb c.args.path.now c.args.prefix.now c.strip_prefix.result c.strip_prefix.ensures.cases)) in
    (λ h. absurd (cc), λ under. absurd (other under))

pub returns-then-is_empty : goal.returns-then-is_empty
returns-then-is_empty c =
    let split = rw c.in-Some.is at (strip_prefix_is Decides-eqb c.args.path.now c.args.prefix.now c.strip_prefix.result c.strip_prefix.ensures.cases) in
    (λ h. under_at_end c.args.prefix.now c.args.path.now c.in-Some.rest.now split (empty_is c.in-Some.rest.now c.is_empty.result c.is_empty.ensures c.if-is_empty.true), λ under. refl)

pub returns : goal.returns
returns c =
    let split = rw c.in-Some.is at (strip_prefix_is Decides-eqb c.args.path.now c.args.prefix.now c.strip_prefix.result c.strip_prefix.ensures.cases) in
    under_after c.args.prefix.now c.args.path.now c.in-Some.rest.now c.starts_with.result split (some_are c.in-Some.rest.now c.is_empty.result c.is_empty.ensures c.if-is_empty.false) c.starts_with.ensures.value
