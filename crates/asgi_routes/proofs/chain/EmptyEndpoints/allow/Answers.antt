use Rattle.std.proofs.Common.{sym, append-nil}
use Rattle.std.specs.Prelude.{string_bytes}
use Rattle.asgi_routes.proofs.chain.EmptyEndpoints.allow.Goals as goal

pub returns : goal.returns
returns c = sym (append-nil (string_bytes c.args._text.now))
