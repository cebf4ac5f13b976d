use Rattle.nomtsage.proofs.RunLemmas.{ran}
use Rattle.nomtsage.proofs.server.listened.Goals as goal

pub returns : goal.returns
returns g c = ran _ _ _ _ _ _ _ _ _ _ _ _ _ c.requires c.serve_by-ending.ensures.serves c.result_of.ensures
