use Rattle.std.proofs.Common.{inl}
use Rattle.nomtsage.proofs.seated.Server+K+E+InSeats.run.Goals as goal

pub returns : goal.returns
returns g c = inl (rw (c.in-Ok.ensures.count, c.numbers_of-numbers.ensures) at c.listened_in_seats.ensures)
