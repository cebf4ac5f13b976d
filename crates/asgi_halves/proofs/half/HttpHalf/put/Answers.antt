use Rattle.asgi_run.proofs.LineLemmas.{tries_front}
use Rattle.asgi_halves.proofs.HalfLemmas.{put_done, put_cut}
use Rattle.asgi_halves.proofs.half.HttpHalf.put.Goals as goal

pub returns-in-Some-clause-puts : goal.returns-in-Some-clause-puts
returns-in-Some-clause-puts g c scene read view p =
    let o = c.put.ensures in
    let w = c.in-Some.ensures.some in
    let tries = tries_front _ _ c.in-Some.n _ w.0 c.in-Some.ensures.tries in
    (_, put_cut p (g.L.Line.state c.put.new.line) o.same c.in-Some.n w.0 (record { beside = o.reads; session = o.session; appends = w.1; rose = w.2; tries = tries }))

pub returns-in_default-clause-puts : goal.returns-in_default-clause-puts
returns-in_default-clause-puts g c scene read view p =
    let o = c.put.ensures in
    let w = c.in_default.ensures.none in
    (_, put_done p (g.L.Line.state c.put.new.line) o.same o.empty (record { beside = o.reads; session = o.session; appends = w.0; rose = w.1; tries = c.in_default.ensures.tries }))
