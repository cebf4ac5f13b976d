use Rattle.std.proofs.Common.{inl, inr, refl}
use Rattle.nomtsage.proofs.tabled.Server+K+E+InTables+G.run.Goals as goal

pub returns-in-Err : goal.returns-in-Err
returns-in-Err g c = inr (inl (c.in-Err.count, c.in-Err.ensures.err.0, c.in-Err.ensures.err.1, refl))
