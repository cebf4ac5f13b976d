use Rattle.std.proofs.Common.{length}
use Rattle.nomtsage.proofs.tables.+all_in.Given as goal

abbrev pub decreases-all_in : goal.decreases-all_in
decreases-all_in g l = length l.posts.now
