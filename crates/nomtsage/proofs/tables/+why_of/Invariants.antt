use Rattle.std.proofs.Common.{length}
use Rattle.nomtsage.proofs.tables.+why_of.Given as goal

abbrev pub decreases-why_of : goal.decreases-why_of
decreases-why_of g l = length l.posts.now
