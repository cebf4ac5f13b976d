use Rattle.std.proofs.Common.{arith, refl}
use Rattle.asgi_many.proofs.TableLemmas as lemma
use Rattle.asgi_many.proofs.table.Table.seat.Goals as goal

pub insert_reserved-requires : goal.insert_reserved-requires
insert_reserved-requires g c = omega (arith, c.is_full.ensures.free c.if-is_full.false, c.args.self.now.room)

pub returns-clause-holds : goal.returns-clause-holds
returns-clause-holds g c app came ended holds =
    lemma.comes _ _ _ _ _ _ _ _ c.args.self.now _ c.insert_reserved.result refl holds c.args.newcomer c.new-seat.result c.in-Some.ensures.1
    c.insert_reserved.ensures.was_vacant c.insert_reserved.ensures.updates c.new-seat.ensures.number (c.new-seat.ensures.at app)
