use Rattle.asgi_request.proofs.StandardLemmas.{all_results}
use Rattle.asgi_request.proofs.laws.waiting_reader_gave_all.Goals as goal

pub returns : goal.returns
returns c reader bytes given x w = all_results reader.limits reader.limits.block_in_range.0 bytes given reader.place reader.held x w
