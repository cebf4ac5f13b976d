use Rattle.std.proofs.Common.{◌≡◌, [], None, Some, ap, map, replicate, subst, sym, ◌∙◌}
use Rattle.std.specs.Prelude.{IfSome}
use Rattle.asgi_reactor.specs.Accepting.{kept_at, kept_in}
use Rattle.nomtsage.specs.Tables.{first_error, thread}
use Rattle.nomtsage.proofs.TablesLemmas.{all_fresh, ran_tables}
use Rattle.nomtsage.proofs.TicketsLemmas.{all_keep}
use Rattle.nomtsage.proofs.tabled.listened_in_tables.Goals as goal

pub returns : goal.returns
returns g c =
    let (seconds, in_seconds, serves) = c.serve_in_tables-ending.ensures.serves in
    let fresh = all_fresh (λ p. p.reactor.told.items) (λ p. p.on_report) (λ p. p.reactor.why) c.args.on_report c.args.posts.items c.requires.fresh
    ∙ ap (λ n. replicate n (thread [] c.args.on_report None)) (sym c.args.posts.ok.0 ∙ c.requires.many) in
    let why = c.why_of.ensures ∙ ap (λ l. first_error (map (λ p. thread p.reactor.told.items p.on_report p.reactor.why) l)) c.as_slice.ensures.value in
    ran_tables _ _ _ _ _ _ _ _ _ _ _ _ _ fresh in_seconds serves (subst (λ w. IfSome w (λ e. c.error_of-why.result ≡ e)) why c.error_of-why.ensures) c.result_of.ensures c.settle.ensures

pub settle-requires : goal.settle-requires
settle-requires g c =
    all_keep (λ p. kept_in p.reactor.told.items p.reactor.left p.reactor.ticketer) (kept_at c.args.quota.now.count (Some c.args.quota.now))
    c.args.posts.items c.serve_in_tables-ending.result.1.items c.serve_in_tables-ending.ensures.kept c.requires.kept
