use Rattle.std.proofs.Common.{◌≡◌}
use Rattle.asgi_run.proofs.FinishLemmas.{has_run}
use Rattle.asgi_run.proofs.InlineLemmas.{of_end_gives}
use Rattle.asgi_run.proofs.apart.finish_apart.Goals as goal

pub join-met-requires : goal.join-met-requires
join-met-requires g c =
    let began = c.requires.1 in
    let conn = c.abandon.new.end.end in of_end_gives c.requires.0 (λ was. g.N.Pipes.is_pair c.args.conn.now.end was) (λ was. g.E.AppEnd.tag c.end-ran.result.app_end ≡ g.E.AppEnd.tag was)
    (g.N.Pipes.is_pair conn c.end-ran.result.app_end) began.1 (c.end-ran.ensures.side c.requires.0 began.0 began.2).1
    (λ was pair same. g.met.N.Pipes.stays_pair c.args.conn.now.end conn was c.end-ran.result.app_end c.abandon.ensures.tag.0 same pair)

pub returns-clause-runs : goal.returns-clause-runs
returns-clause-runs g c side scene now read view b s is request =
    let y = c.abandon.ensures.leads scene now read view s is in
    let met = c.join-met.ensures in
    has_run (g.met.H.Half.steady scene) (λ m. m.left_in) (λ m. m.left_out) g.T.AppTask.stands c.end-ran.result.app_end c.join-met.result y.0 _ _ _ _ b.2
    (c.end-ran.ensures.side side b.0 b.2).0 request y.1 (g.met.H.Half.keeps scene now c.abandon.new.self read y.0 y.1) y.2.0 y.2.2 met.met met.inward met.outward met.heard met.lawful
