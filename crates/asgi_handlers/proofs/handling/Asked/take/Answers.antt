use Rattle.std.proofs.Common.{ℕ, List, ◌≡◌, ◌++◌, OnOk, subst}
use Rattle.asgi_handlers.proofs.HearingLemmas.{part_is}
use Rattle.asgi_handlers.proofs.handling.Asked.take.Goals as goal

pub returns : goal.returns
returns g c =
    part_is (g.H.Handler.replies c.args.self.now.handler c.args.self.now.scope.value) c.args.part c.args.body.now.items c.add-added.new.body.items c.as_slice.result.now
    c.args.more_body c.args.given.now.items c.after_part.new.given.items c.add-added.result c.after_part.result
    (subst (λ (part : List ℕ). OnOk c.add-added.result (c.add-added.new.body.items ≡ c.args.body.now.items ++ part)) c.bytes.ensures c.add-added.ensures)
    c.as_slice.ensures.value c.after_part.ensures.ok c.after_part.ensures.err
