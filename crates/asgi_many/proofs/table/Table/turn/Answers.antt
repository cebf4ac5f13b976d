use Rattle.std.proofs.Common.{refl, sym, ◌∙◌, arith}
use Rattle.asgi_many.proofs.TableLemmas as lemma
use Rattle.asgi_many.proofs.table.Table.turn.Goals as goal

pub turn-step-requires : goal.turn-step-requires
turn-step-requires g c =
    let (came, ended, holds) = c.requires in
    let (one, given, none, sits) = holds.seating.sitting c.args.at c.in-Some.seat.now (sym c.in-Some.ensures.value) in
    (c.args.self.now.limits, one, rw c.swap_piece.ensures.same sits)

pub free-requires : goal.free-requires
free-requires g c =
    let written = lemma.writes c.args.self.now.seats c.args.at c.in-Some.seat.now c.swap_piece-2.new.self (sym c.in-Some.ensures.value) in
    rw (written.changed, c.swap_piece-2.ensures.same) c.in-Over.ensures.ended

pub returns-in-Moved-clause-holds : goal.returns-in-Moved-clause-holds
returns-in-Moved-clause-holds g c came ended holds =
    lemma.goes_on _ _ _ _ _ _ _ _ c.args.self.now _ c.args.at refl holds c.in-Some.seat.now c.swap_piece-2.new.self refl (sym c.in-Some.ensures.value) refl
    (rw c.swap_piece-2.ensures.same (rw c.swap_piece.ensures.same at c.turn-step.ensures.number))
    (rw c.swap_piece-2.ensures.same (rw c.swap_piece.ensures.same at (c.turn-step.ensures.at c.args.self.now.limits)))

pub returns-in-Moved-clause-turned : goal.returns-in-Moved-clause-turned
returns-in-Moved-clause-turned g c =
    let there = sym c.in-Some.ensures.value in
    let written = lemma.writes c.args.self.now.seats c.args.at c.in-Some.seat.now c.swap_piece-2.new.self there in
    rw (there, written.changed, c.swap_piece-2.ensures.same) (rw c.swap_piece.ensures.same at (c.in-Moved.ensures.moved refl))

pub returns-in-Idle-clause-holds : goal.returns-in-Idle-clause-holds
returns-in-Idle-clause-holds g c came ended holds =
    lemma.goes_on _ _ _ _ _ _ _ _ c.args.self.now _ c.args.at refl holds c.in-Some.seat.now c.swap_piece-2.new.self refl (sym c.in-Some.ensures.value) refl
    (rw c.swap_piece-2.ensures.same (rw c.swap_piece.ensures.same at c.turn-step.ensures.number))
    (rw c.swap_piece-2.ensures.same (rw c.swap_piece.ensures.same at (c.turn-step.ensures.at c.args.self.now.limits)))

pub returns-in-Idle-clause-turned : goal.returns-in-Idle-clause-turned
returns-in-Idle-clause-turned g c =
    let there = sym c.in-Some.ensures.value in
    let written = lemma.writes c.args.self.now.seats c.args.at c.in-Some.seat.now c.swap_piece-2.new.self there in
    rw (there, written.changed, c.swap_piece-2.ensures.same) (rw c.swap_piece.ensures.same at (c.in-Idle.ensures.idle refl))

pub returns-in-Over-clause-holds : goal.returns-in-Over-clause-holds
returns-in-Over-clause-holds g c came ended holds =
    let there = sym c.in-Some.ensures.value in
    let written = lemma.writes c.args.self.now.seats c.args.at c.in-Some.seat.now c.swap_piece-2.new.self there in
    let end = rw (written.changed, c.swap_piece-2.ensures.same) at c.free.ensures.end in
    let number = rw c.swap_piece.ensures.same at c.turn-step.ensures.number in
    let sits = rw c.swap_piece.ensures.same at (c.turn-step.ensures.at c.args.self.now.limits) in
    let served = rw c.swap_piece.ensures.same at (c.in-Over.ensures.served c.args.self.now.limits) in
    lemma.ends_at _ _ _ _ _ _ _ _ c.args.self.now _ c.args.at c.free.ensures.same.0 holds c.in-Some.seat.now c.free.result c.free.ensures.same.2 there c.free.ensures.free
    (λ j differs. c.free.ensures.others j differs ∙ written.others j differs) (end.0 ∙ number)
    (λ one before. (end.4 ∙ (sits one before).client, rw (end.3, end.2, end.1) (served one before)))

pub returns-in-Over-clause-over : goal.returns-in-Over-clause-over
returns-in-Over-clause-over g c came ended holds =
    let there = sym c.in-Some.ensures.value in
    let written = lemma.writes c.args.self.now.seats c.args.at c.in-Some.seat.now c.swap_piece-2.new.self there in
    let end = rw (written.changed, c.swap_piece-2.ensures.same) at c.free.ensures.end in
    let number = rw c.swap_piece.ensures.same at c.turn-step.ensures.number in
    let sits = rw c.swap_piece.ensures.same at (c.turn-step.ensures.at c.args.self.now.limits) in
    let served = rw c.swap_piece.ensures.same at (c.in-Over.ensures.served c.args.self.now.limits) in
    lemma.over _ _ _ _ _ _ _ _ c.args.self.now c.args.self.now c.args.at refl holds c.in-Some.seat.now c.free.result there (end.0 ∙ number)
    (λ one before. (end.4 ∙ (sits one before).client, rw (end.3, end.2, end.1) (served one before)))

pub returns-in-Over-clause-turned : goal.returns-in-Over-clause-turned
returns-in-Over-clause-turned g c =
    let there = sym c.in-Some.ensures.value in
    let written = lemma.writes c.args.self.now.seats c.args.at c.in-Some.seat.now c.swap_piece-2.new.self there in
    let end = rw (written.changed, c.swap_piece-2.ensures.same) at c.free.ensures.end in
    let number = rw c.swap_piece.ensures.same at c.turn-step.ensures.number in
    (rw there (sym (end.0 ∙ number)), c.free.ensures.free)

pub returns-in-Moved-clause-sits : goal.returns-in-Moved-clause-sits
returns-in-Moved-clause-sits g c =
    omega (arith, lemma.stays c.args.self.now.seats c.args.at c.in-Some.seat.now c.swap_piece-2.new.self (sym c.in-Some.ensures.value))

pub returns-in-Idle-clause-sits : goal.returns-in-Idle-clause-sits
returns-in-Idle-clause-sits g c =
    omega (arith, lemma.stays c.args.self.now.seats c.args.at c.in-Some.seat.now c.swap_piece-2.new.self (sym c.in-Some.ensures.value))

pub returns-in-Over-clause-sits : goal.returns-in-Over-clause-sits
returns-in-Over-clause-sits g c =
    omega (arith, c.free.ensures.sits, lemma.stays c.args.self.now.seats c.args.at c.in-Some.seat.now c.swap_piece-2.new.self (sym c.in-Some.ensures.value))
