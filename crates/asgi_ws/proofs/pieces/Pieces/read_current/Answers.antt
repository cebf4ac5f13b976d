use Rattle.std.proofs.Common.{◌≡◌, ◌<◌, ◌+◌, ◌-◌, arith, take, drop, length, length-take}
use Rattle.std.proofs.lemmas.Bool.Decides.{nat_tests}
use Rattle.asgi_ws.specs.Scripts.{bytes_of}
use Rattle.asgi_ws.proofs.PieceLemmas.{read_front}
use Rattle.asgi_ws.proofs.pieces.Pieces.read_current.Goals as goal

pub returns-clause-bytes : goal.returns-clause-bytes
returns-clause-bytes c =
    let at = c.args.self.now.at in
    let n = c.min-n.result in
    let whole = c.args.self.now.current.items in
    let copied = c.copy_from_slice.new.self in
    let front : copied ≡ take (at + n - at) (drop at whole) = rw c.deref.ensures.value at c.copy_from_slice.ensures.after in
    let size : length copied ≡ n = omega (arith, c.copy_from_slice.ensures.len, length-take n c.args.buf.now) in
    let room : 0 < length c.args.buf.now = grind (arith, nat_tests, c.is_empty.ensures, c.if-is_empty.false) in
    let some : 0 < n = omega (arith, room) in
    (read_front whole (bytes_of c.args.self.now.pieces.items) c.args.buf.now copied at n front size, λ none. let no : ⊥ = omega (arith, some, none) in absurd no)
