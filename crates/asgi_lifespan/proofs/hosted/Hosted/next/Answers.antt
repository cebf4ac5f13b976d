use Rattle.std.proofs.Common.{◌++◌, ◌∷◌, [], ap, ◌∙◌}
use Rattle.asgi_pipes.specs.declared.items.OutItem.{OutItem}
use Rattle.asgi_lifespan.specs.Hosting.{got_of}
use Rattle.asgi_lifespan.proofs.HostLemmas.{no_end_waits}
use Rattle.asgi_lifespan.proofs.hosted.Hosted.next.Goals as goal

pub unreachable-requires : goal.unreachable-requires
unreachable-requires g c =
    no_end_waits g.T.AppTask.stands g.T.AppTask.answers c.args.self.now c.take.new.self c.in-Some-Ended.field-0-0 c.requires c.take.ensures.tag.0
    (c.in-Some-Ended.ensures.some.0 ∙ ap (λ (i : OutItem). got_of c.args.self.now ++ i ∷ []) c.in-Some-Ended.field-0-is)
