use Rattle.std.proofs.Common.{◌≡◌, [], refl}
use Rattle.asgi_reactor.specs.Holding.{GoesOut, waiting}
use Rattle.asgi_reactor.proofs.HeldLemmas.{none_left, nothing_goes, writes_on}
use Rattle.asgi_reactor.proofs.held.Held.write.Goals as goal
use Rattle.asgi_reactor.proofs.held.Held.write.Goals.{then-not-is_empty+in-Ok-true, else-not-is_empty}

pub returns-in-Ok-clause-bytes : goal.returns-in-Ok-clause-bytes
returns-in-Ok-clause-bytes g c =
    let now = c.if-not-is_empty.self in
    let old = c.args.self.now in
    let ready : GoesOut (g.W.Write.contents c.args.stream.now) (g.W.Write.contents c.if-not-is_empty.stream) (waiting old.buf.items old.start) (waiting now.buf.items now.start)
    × (waiting now.buf.items now.start ≡ []) = elim c.if-not-is_empty.branch [
      | then-not-is_empty+in-Ok-true w ↦ (rw (w.stream-is, w.self-is) w.push.ensures.bytes, rw w.self-is ((rw w.in-Ok-true.is at w.push.ensures.all) w.in-Ok-true.field-0-test))
      | else-not-is_empty w ↦ (rw (w.stream-is, w.self-is) (nothing_goes _ _), rw w.self-is (none_left _ (w.if-not-is_empty.ensures.0 refl)))
    ] in
    let (n, waits, many) = c.hold_rest.ensures.waits in
    rw many (writes_on _ _ _ _ _ _ c.args.buf.now c.in-Ok.took n ready.0 ready.1 c.in-Ok.ensures.bytes waits)
