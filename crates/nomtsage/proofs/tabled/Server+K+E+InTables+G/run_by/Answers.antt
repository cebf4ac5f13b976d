use Rattle.std.proofs.Common.{inl, inr, refl}
use Rattle.nomtsage.proofs.tabled.Server+K+E+InTables+G.run_by.Goals as goal

pub returns : goal.returns
returns g c = inl (c.args.workers.count, c.requires, rw c.in-Ok.ensures at c.listened_in_tables.ensures)

pub returns-in-Err : goal.returns-in-Err
returns-in-Err g c = inr (inr (_, refl))
