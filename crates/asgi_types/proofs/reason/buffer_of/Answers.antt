use Rattle.std.proofs.Common.{refl}
use Rattle.asgi_types.proofs.ReasonLemmas.{front_padded}
use Rattle.asgi_types.proofs.reason.buffer_of.Goals as goal

pub returns : goal.returns
returns c = front_padded c.copy_from_slice.new.self c.args.bytes.now _ c.copy_from_slice.ensures.after refl
