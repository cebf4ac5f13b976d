use Rattle.std.proofs.Common.{◌≡◌, ◌<◌, ◌≤◌, ◌-◌, ◌++◌, length, take, drop, slice_range, sym, ap, ◌∙◌, arith, subst}
use Rattle.asgi_ahead.proofs.ReadingLemmas.{given, ends_meet}
use Rattle.asgi_ahead.proofs.ahead.Ahead.give.Goals as goal

pub returns-clause-bytes : goal.returns-clause-bytes
returns-clause-bytes c known ended =
    let now = c.args.self.now in
    let n = c.in_ok-given.given in
    let out = c.read.new.buf in
    let all = slice_range now.buf.items now.start now.end in
    let rest = c.read.new.self.now in
    let at : all ≡ take n out ++ rest = rw (sym c.deref.ensures.value) c.in_ok-given.ensures.bytes.0 in
    let behind : rest ≡ drop n all = rw (sym c.deref.ensures.value) c.in_ok-given.ensures.rest in
    let few : n ≤ now.end - now.start = omega (arith, ap length at, c.in_ok-given.ensures.bound) in
    let read = given now.buf.items out now.start now.end n known (at ∙ ap (λ l. take n out ++ l) behind) few
    (λ (p : (n ≡ 0) × (0 < length out)).
    let nothing : length rest ≡ 0 = ap length (c.in_ok-given.ensures.bytes.1 p.0 p.1) in
    let empty : now.start ≡ now.end = ends_meet now.buf.items now.start now.end (ap length (subst (λ k. all ≡ take k out ++ rest) p.0 at) ∙ nothing) now.ordered (omega (arith, now.in_bounds, ap length c.deref.ensures.value, c.deref.ensures.len)) in
    (omega (arith, empty, p.0), ended empty)) in
    (read.0, λ zero room. read.1 (zero, room))
