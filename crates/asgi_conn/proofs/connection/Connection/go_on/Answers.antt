use Rattle.std.proofs.Common.{ℕ, ◌+◌, refl, sym, ap, ◌∙◌, length}
use Rattle.asgi_conn.specs.Places.{place_of}
use Rattle.asgi_conn.proofs.CallLemmas.{counts_at_rest}
use Rattle.asgi_conn.proofs.PlaceLemmas.{between_of, due_at_rest, free_between}
use Rattle.asgi_conn.proofs.ServeLemmas as serve
use Rattle.asgi_conn.proofs.TurnLemmas as lemma
use Rattle.asgi_conn.proofs.connection.Connection.go_on.Goals as goal

pub returns-then-not-is_between-clause-stands : goal.returns-then-not-is_between-clause-stands
returns-then-not-is_between-clause-stands g c limits start before pauses s = c.finish.ensures.stands c.args.calls.now.app.now limits start (g.L.Line.state c.args.line.now) before pauses s

-- ---- more bytes are needed

pub wait-requires-clause-between : goal.wait-requires-clause-between
wait-requires-clause-between g c = rw c.needs_more.ensures.same (c.is_between.ensures.yes c.if-not-is_between.false)

pub wait-requires-clause-waits : goal.wait-requires-clause-waits
wait-requires-clause-waits g c = rw c.needs_more.ensures.same (c.needs_more.ensures.waits c.if-needs_more.true)

pub returns-then-needs_more-clause-stands : goal.returns-then-needs_more-clause-stands
returns-then-needs_more-clause-stands g c limits start before pauses stood =
    let f = c.finish.new.self in
    let s = c.finish.ensures.stands c.args.calls.now.app.now limits start (g.L.Line.state c.args.line.now) before pauses stood in
    let between = c.is_between.ensures.yes c.if-not-is_between.false in
    let serving = serve.waited (rw (between_of f between) at s.serving) f.half.wire.requests refl (place_of c.wait.new.self)
    (λ bytes given stands. (stands, c.needs_more.ensures.all c.if-needs_more.true bytes given stands)) (rw c.needs_more.ensures.same at c.wait.ensures.waits) in
    lemma.stands_next {new = c.wait.new.self} f serving s.counted between (rw c.needs_more.ensures.same at c.wait.ensures.tally) (rw c.needs_more.ensures.same at c.wait.ensures.next)

pub returns-then-needs_more-clause-due : goal.returns-then-needs_more-clause-due
returns-then-needs_more-clause-due g c =
    due_at_rest (place_of c.wait.new.self) c.needs_more.new.self.tally.turns c.wait.new.self.tally.turns (ap (λ tally. tally.turns) c.wait.ensures.tally) c.wait.ensures.next c.wait.ensures.free

pub returns-then-needs_more-clause-called : goal.returns-then-needs_more-clause-called
returns-then-needs_more-clause-called g c =
    let f = c.finish.new.self in
    let same = rw c.needs_more.ensures.same at c.wait.ensures.tally in
    let free = free_between (place_of f) (c.is_between.ensures.yes c.if-not-is_between.false) in
    ap (λ (n : ℕ). length c.args.calls.now.scopes.items + n) (sym (counts_at_rest f c.wait.new.self free c.wait.ensures.free same ∙ c.finish.ensures.counts))

-- ---- its next result is there

pub next-requires-clause-between : goal.next-requires-clause-between
next-requires-clause-between g c = rw c.needs_more.ensures.same (c.is_between.ensures.yes c.if-not-is_between.false)

pub next-requires-clause-stands : goal.next-requires-clause-stands
next-requires-clause-stands g c =
    let r = c.requires in
    rw c.needs_more.ensures.same (r.0, r.1, (c.finish.ensures.stands c.args.calls.now.app.now r.0 r.1 (g.L.Line.state c.args.line.now) r.2 r.3 r.4).serving)

pub finish-requires-2 : goal.finish-requires-2
finish-requires-2 g c =
    let r = c.requires in
    let s = c.finish.ensures.stands c.args.calls.now.app.now r.0 r.1 (g.L.Line.state c.args.line.now) r.2 r.3 r.4 in
    let serves = rw c.needs_more.ensures.same at c.next.ensures.serves in
    let stands = lemma.stands_next {new = c.next.new.self} c.finish.new.self (serves r.0 r.1 s.serving) s.counted
    (c.is_between.ensures.yes c.if-not-is_between.false) (rw c.needs_more.ensures.same at c.next.ensures.tally) (rw c.needs_more.ensures.same at c.next.ensures.next) in
    (c.args.calls.now.app.now, r.0, r.1, g.L.Line.state c.next.new.line, r.2, r.3, stands)

pub returns-clause-stands : goal.returns-clause-stands
returns-clause-stands g c limits start before pauses stood =
    let s = c.finish.ensures.stands c.args.calls.now.app.now limits start (g.L.Line.state c.args.line.now) before pauses stood in
    let serves = rw c.needs_more.ensures.same at c.next.ensures.serves in
    c.finish-2.ensures.stands c.args.calls.now.app.now limits start (g.L.Line.state c.next.new.line) before pauses (lemma.stands_next c.finish.new.self
    (serves limits start s.serving) s.counted (c.is_between.ensures.yes c.if-not-is_between.false)
    (rw c.needs_more.ensures.same at c.next.ensures.tally) (rw c.needs_more.ensures.same at c.next.ensures.next))
