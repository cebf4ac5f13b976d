use Rattle.std.proofs.Common.{refl}
use Rattle.std.specs.Fmt.{digits}
use Rattle.asgi_response.proofs.head.ok_code.Goals as goal

pub returns : goal.returns
unfolding digits
returns c = refl
