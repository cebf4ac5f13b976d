use Rattle.std.proofs.Common.{ap, is_some}
use Rattle.asgi_halves.specs.declared.session_half.WebSocketHalf.{WebSocketHalf}
use Rattle.asgi_halves.proofs.HttpHalfLemmas.{over_at}
use Rattle.asgi_conn.proofs.TurnLemmas as lemma
use Rattle.asgi_conn.proofs.closing.end_session.Goals as goal

pub outcome_of-requires : goal.outcome_of-requires
outcome_of-requires g c =
    lemma.session_over c.count.new.self c.count.ensures.exchanges c.count.ensures.faults c.finish-ended.new.half c.requires.stands.4
    c.finish-ended.ensures.runs (over_at c.finish-ended.new.half.stage c.finish-ended.ensures.over)

pub returns-clause-serves : goal.returns-clause-serves
returns-clause-serves g c app limits start now s =
    lemma.session_left c.count.new.self c.count.ensures.exchanges c.count.ensures.faults c.finish-ended.new.half s c.finish-ended.ensures.runs c.outcome_of.result c.outcome_of.ensures

pub returns-clause-counts : goal.returns-clause-counts
returns-clause-counts g c limits before pauses counted over =
    lemma.counted_closed c.finish-ended.new.half counted over (λ last is. ap (λ (h : WebSocketHalf). h.stage) (c.finish-ended.ensures.stays (ap is_some is)))
    c.count.ensures.turns c.outcome_of.ensures
