use Rattle.std.proofs.Common.{◌∙◌, ap, inl, inr, refl}
use Rattle.nomtsage.specs.Seats.{served_in}
use Rattle.nomtsage.proofs.SeatsLemmas.{same_around, served_part}
use Rattle.nomtsage.proofs.seats.serve.Goals as goal

pub returns-in-Ok-clause-serves : goal.returns-in-Ok-clause-serves
returns-in-Ok-clause-serves g c = inl (
  c.in-Ok.ended,
  served_part g.K.Teller.tells (λ t. t.on_report) _ _ _ _ _ _ _ _ _ c.in-Ok.ensures.serves,
  c.served_in.ensures ∙ ap (λ w. served_in c.in-Ok.ended w) c.why.ensures,
)

pub returns-in-Err-clause-serves : goal.returns-in-Err-clause-serves
returns-in-Err-clause-serves g c = inr (same_around (λ t. t.on_report) _ _ _ _ (c.in-Err.ensures.no_memory refl).0 (c.in-Err.ensures.no_memory refl).2, refl)

pub returns-in-Ok-clause-kept : goal.returns-in-Ok-clause-kept
returns-in-Ok-clause-kept g c = ap (λ k. k.0) c.in-Ok.ensures.kept

pub returns-in-Err-clause-kept : goal.returns-in-Err-clause-kept
returns-in-Err-clause-kept g c = ap (λ k. k.0) c.in-Err.ensures.kept
