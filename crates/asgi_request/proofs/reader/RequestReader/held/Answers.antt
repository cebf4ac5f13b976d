use Rattle.std.proofs.Common.{ap, ◌∙◌, drop}
use Rattle.std.proofs.lemmas.List.{take_rest}
use Rattle.asgi_request.specs.Reading.{Reading}
use Rattle.asgi_request.proofs.HeldLemmas.{held_is}
use Rattle.asgi_request.proofs.reader.RequestReader.held.Goals as goal

pub returns : goal.returns
returns c bytes given stands ends =
    let start = c.self.inside.start in
    let rest = take_rest c.deref.result.now start ∙ ap (drop start) c.deref.ensures.value in
    held_is c.args.self.now bytes given _ stands ends (rest ∙ ap (λ (r : Reading). r.held) c.self.view_is)
