use Rattle.std.proofs.Common.{◌≡◌, [], ◌∷◌, ◌++◌, None, refl, subst}
use Rattle.asgi_server.proofs.StationLemmas.{all_more}
use Rattle.nomtsage.specs.declared.ending.Served.TheVariants as served
use Rattle.nomtsage.specs.declared.tables.Post.{Post}
use Rattle.nomtsage.specs.private.Together.{IsWithin}
use Rattle.nomtsage.proofs.tabled.put.Goals as goal

pub returns-clause-fresh : goal.returns-clause-fresh
returns-clause-fresh g c is_ok =
    let one : Post g.row.H.Denot g.row.K.Denot = record { reactor = c.args.reactor; on_report = c.args.on_report; how = served.NoThread } in
    all_more (λ p. (p.reactor.told.items ≡ []) × (p.reactor.why ≡ None) × (p.on_report ≡ c.args.on_report)) c.args.posts.now.items c.push_reserved.new.self.items one c.requires.fresh (c.requires.one.0, c.requires.one.1, refl)
    (subst (λ list. c.push_reserved.new.self.items ≡ list ++ one ∷ []) c.reserve.ensures.items c.push_reserved.ensures.items)

pub returns-clause-kept : goal.returns-clause-kept
returns-clause-kept g c is_ok =
    let one : Post g.row.H.Denot g.row.K.Denot = record { reactor = c.args.reactor; on_report = c.args.on_report; how = served.NoThread } in
    all_more (λ p. IsWithin c.args.quota.now p.reactor.told.items p.reactor.left p.reactor.ticketer) c.args.posts.now.items c.push_reserved.new.self.items one c.requires.kept c.requires.of
    (subst (λ list. c.push_reserved.new.self.items ≡ list ++ one ∷ []) c.reserve.ensures.items c.push_reserved.ensures.items)
