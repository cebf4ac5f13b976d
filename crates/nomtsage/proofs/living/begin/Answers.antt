use Rattle.std.proofs.Common.{◌≡◌, None, subst}
use Rattle.nomtsage.proofs.LivesLemmas.{begins_so}
use Rattle.nomtsage.specs.private.Living.{IsLiving}
use Rattle.nomtsage.proofs.living.begin.Goals as goal

pub returns-in-Started : goal.returns-in-Started
returns-in-Started g c =
    begins_so (λ p. p.count) _ _ (g.A.Application.answers c.args.app.now) _ c.start-answer.result _ _ c.start-answer.ensures.starts c.in-Started.is c.lives.ensures

pub returns-in-Unsupported : goal.returns-in-Unsupported
returns-in-Unsupported g c =
    begins_so (λ p. p.count) _ _ (g.A.Application.answers c.args.app.now) _ c.start-answer.result _ _ c.start-answer.ensures.starts c.in-Unsupported.is
    (subst (λ s. IsLiving c.lives-in-Unsupported.result None s c.start-answer.new.pause.count) c.new.ensures c.lives-in-Unsupported.ensures)

pub returns-in-Failed : goal.returns-in-Failed
returns-in-Failed g c =
    begins_so (λ p. p.count) _ _ (g.A.Application.answers c.args.app.now) _ c.start-answer.result _ _ c.start-answer.ensures.starts c.in-Failed.is c.ended.ensures

pub returns-in-Idle : goal.returns-in-Idle
returns-in-Idle g c =
    begins_so (λ p. p.count) _ _ (g.A.Application.answers c.args.app.now) _ c.start-answer.result _ _ c.start-answer.ensures.starts c.in-Idle.is c.ended-in-Idle.ensures

pub returns : goal.returns
returns g c =
    begins_so (λ p. p.count) _ _ (g.A.Application.answers c.args.app.now) _ c.start-answer.result _ _ c.start-answer.ensures.starts c.in-NoMemory.is c.ended-in-NoMemory.ensures
