use Rattle.std.proofs.Common.{◌∙◌, ap, inl, map, rules}
use Rattle.asgi_reactor.specs.Accepting.{kept_in}
use Rattle.nomtsage.specs.Tables.{ServesThread, thread}
use Rattle.nomtsage.specs.private.Together.{all_in}
use Rattle.nomtsage.proofs.TablesLemmas.{seats_within, served_together}
use Rattle.nomtsage.proofs.TicketsLemmas.{each_keeps}
use Rattle.nomtsage.proofs.tables.serve.Goals as goal

-- The law of the engine holds in each thread, so in this one.
pub returns-clause-serves : goal.returns-clause-serves
returns-clause-serves g c =
    let keeps = (g.met.G.TableEngineOf g.world.𝓛 g.world.𝓜 g.world.𝓡 ((λ s x. x), (λ x. x), (λ x. x), λ x. x)).keeps c.args.how.now.app.now in
    let serves = ServesThread _ g.K.Teller.tells (g.A.Application.answers c.args.how.now.app.now) c.args.how.now.limits.now c.args.how.now.state.now in
    inl (served_together _ c.args.posts.items c.work_abreast-parts.result.parts.items (c.work_abreast-parts.ensures.all (search rules)) serves
    (λ p. thread p.reactor.told.items p.on_report p.reactor.why) (λ p. p.how)
    (λ was is so. seats_within _ _ keeps c.args.how.now.limits.now c.args.how.now.state.now _ _ is.reactor.why _ _ is.how so.0)
    _ (c.all_in.ensures ∙ ap (λ l. all_in (map (λ p. p.how) l)) c.as_slice.ensures.value))

pub returns-clause-kept : goal.returns-clause-kept
returns-clause-kept g c =
    each_keeps _ c.args.posts.items c.work_abreast-parts.result.parts.items (c.work_abreast-parts.ensures.all (search rules))
    (λ p. kept_in p.reactor.told.items p.reactor.left p.reactor.ticketer) (λ was is so. so.1)
