use Rattle.asgi_types.proofs.StateLemmas.{found_value}
use Rattle.asgi_types.proofs.state.State.get.Goals as goal

pub returns : goal.returns
returns c =
    found_value c.self.inside.entries.items c.as_slice.result.now c.args.self.now c.args.name.now c.in_ok-index.index c.index-entry.result.now
    c.as_slice.ensures.value c.self.view_is c.in_ok-index.ensures.found c.index-entry.ensures
