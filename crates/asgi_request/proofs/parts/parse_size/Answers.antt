use Rattle.asgi_request.proofs.PartLemmas.{other_length}
use Rattle.asgi_request.proofs.parts.parse_size.Goals as goal

pub returns-in_default : goal.returns-in_default
returns-in_default c l reads =
    let found = rw c.in-Ok-Complete.field-0-is at c.in-Ok-Complete.ensures.complete in
    c.if-n-text.false (other_length c.args.text.now c.in-Ok-Complete.n c.in-Ok-Complete.size found.0 l found.1 reads)
