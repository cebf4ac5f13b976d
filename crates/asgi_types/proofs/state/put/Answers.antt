use Rattle.std.proofs.Common.{refl}
use Rattle.std.proofs.lemmas.Option.{slice_get_read}
use Rattle.asgi_types.proofs.state.put.Goals as goal

pub returns : goal.returns
returns c = record {
  name = c.index_mut-entry.result.now.0;
  before = c.index_mut-entry.result.now.1;
  here = slice_get_read c.args.entries.now.items _ c.args.index c.index_mut-entry.result.now refl c.requires c.index_mut-entry.ensures.value;
  after = refl;
}
