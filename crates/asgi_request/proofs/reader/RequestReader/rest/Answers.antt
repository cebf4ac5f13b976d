use Rattle.std.proofs.Common.{ap, ◌∙◌}
use Rattle.asgi_request.specs.Reading.{Reading}
use Rattle.asgi_request.proofs.HeldLemmas.{held_is}
use Rattle.asgi_request.proofs.reader.RequestReader.rest.Goals as goal

pub returns : goal.returns
returns c bytes given stands ends =
    held_is c.args.self bytes given _ stands ends (c.drop_front.ensures.items ∙ ap (λ (r : Reading). r.held) c.self.view_is)
