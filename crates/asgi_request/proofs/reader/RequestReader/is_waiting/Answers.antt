use Rattle.std.proofs.Common.{sym}
use Rattle.asgi_request.proofs.StandardLemmas.{all_results}
use Rattle.asgi_request.proofs.reader.RequestReader.is_waiting.Goals as goal

pub returns-in-Partial-clause-all : goal.returns-in-Partial-clause-all
returns-in-Partial-clause-all c waits bytes given stands =
    let r = c.args.self.now in
    all_results r.limits r.limits.block_in_range.0 bytes given r.place r.held stands (sym c.in-Partial.ensures.front)
