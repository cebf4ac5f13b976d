use Rattle.std.proofs.Common.{ap, is_some}
use Rattle.asgi_halves.specs.declared.half.HttpHalf.{HttpHalf}
use Rattle.asgi_halves.proofs.HttpHalfLemmas.{over_at}
use Rattle.asgi_conn.proofs.TurnLemmas as lemma
use Rattle.asgi_conn.proofs.closing.end_request.Goals as goal

pub ended_by-requires : goal.ended_by-requires
ended_by-requires g c = over_at c.finish-kind.new.half.stage c.finish-kind.ensures.over

pub returns-clause-serves : goal.returns-clause-serves
returns-clause-serves g c app limits start now s =
    lemma.http_left c.count.new.self c.count.ensures.exchanges c.count.ensures.faults c.finish-kind.new.half c.ended_by.result s c.finish-kind.ensures.runs c.ended_by.ensures

pub returns-clause-counts : goal.returns-clause-counts
returns-clause-counts g c limits before pauses counted over =
    lemma.counted_left c.ended_by.result c.finish-kind.new.half counted over (λ last is. ap (λ (h : HttpHalf). h.stage) (c.finish-kind.ensures.stays (ap is_some is)))
    c.finish-kind.ensures.follows c.count.ensures.exchanges c.count.ensures.turns c.ended_by.ensures
