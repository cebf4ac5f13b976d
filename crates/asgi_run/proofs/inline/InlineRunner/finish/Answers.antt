use Rattle.asgi_run.specs.declared.runner.AppSide.TheVariants.{HasEnded}
use Rattle.asgi_run.proofs.FinishLemmas.{has_run}
use Rattle.asgi_pipes.specs.contracts.plain_app.PlainAppAppEnd.TheImpl as app_end
use Rattle.asgi_run.proofs.InlineLemmas as lemma
use Rattle.asgi_run.proofs.inline.InlineRunner.finish.Goals as goal

pub returns-clause-runs : goal.returns-clause-runs
returns-clause-runs g c side scene now read view b s is request =
    let last = c.end_of-last.result in
    let all = lemma.goes_further g.T.AppTask.stands g.T.AppTask.answers app_end.ghosts side c.args.exchange.side (HasEnded last.app_end last.kind) b.1 c.end_of-last.ensures.side in
    let y = c.abandon.ensures.leads scene now read view s is in
    let met = c.join-met.ensures in
    has_run (g.met.H.Half.steady scene) (λ m. m.left_in) (λ m. m.left_out) g.T.AppTask.stands last.app_end c.join-met.result y.0 _ _ _ _ b.2 all request y.1
    (g.met.H.Half.keeps scene now c.abandon.new.self read y.0 y.1) y.2.0 y.2.2 met.met met.inward met.outward met.heard met.lawful
