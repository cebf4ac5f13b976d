use Rattle.std.proofs.Common.{refl, sym}
use Rattle.asgi_many.proofs.TableLemmas as lemma
use Rattle.asgi_many.proofs.table.Table.look.Goals as goal

pub turn-step-requires : goal.turn-step-requires
turn-step-requires g c =
    let (came, ended, holds) = c.requires in
    let (one, given, none, sits) = holds.seating.sitting c.args.at c.in_ok-seat.seat.now (sym c.in_ok-seat.ensures.value) in
    (c.args.self.now.limits, one, rw c.swap_piece.ensures.same sits)

pub returns-clause-holds : goal.returns-clause-holds
returns-clause-holds g c came ended holds =
    lemma.goes_on _ _ _ _ _ _ _ _ c.args.self.now _ c.args.at refl holds c.in_ok-seat.seat.now c.swap_piece-2.new.self refl (sym c.in_ok-seat.ensures.value) refl
    (rw c.swap_piece-2.ensures.same (rw c.swap_piece.ensures.same at c.turn-step.ensures.number))
    (rw c.swap_piece-2.ensures.same (rw c.swap_piece.ensures.same at (c.turn-step.ensures.at c.args.self.now.limits)))

pub returns-clause-sits : goal.returns-clause-sits
returns-clause-sits g c = lemma.stays c.args.self.now.seats c.args.at c.in_ok-seat.seat.now c.swap_piece-2.new.self (sym c.in_ok-seat.ensures.value)
