use Rattle.std.proofs.Common.{◌++◌, length, take, drop, sym, arith}
use Rattle.std.specs.Io.KnownBytes.{Keeps}
use Rattle.asgi_ahead.specs.Reading.{left}
use Rattle.asgi_ahead.proofs.ReadingLemmas.{left_nothing, held, after_keeping, written_front}
use Rattle.asgi_ahead.proofs.ahead.Ahead.read_ahead.Goals as goal

pub returns-clause-bytes : goal.returns-clause-bytes
returns-clause-bytes g c =
    let now = c.args.self.now in
    let many = c.in-Ok.many in
    let same = written_front c.read.new.buf (drop (length c.read.new.buf) now.buf.items) now.buf.len many (omega (arith, c.read.auto.buf, c.as_mut_slice.ensures.len)) in
    let kept : Keeps (g.S.Read.remaining c.args.stream.now) (left (take now.buf.len (c.read.new.buf ++ drop (length c.read.new.buf) now.buf.items)) 0 many (g.S.Read.remaining c.read.new.self)) = rw same (held _ _ _ c.in-Ok.ensures.bytes.0) in
    rw (left_nothing now.buf.items now.start now.end (g.S.Read.remaining c.args.stream.now) c.requires.0)
    (after_keeping _ _ _ _ _ kept (c.give.ensures.bytes _ (λ none. c.in-Ok.ensures.bytes.1 (sym none) (omega (arith, c.requires.1, c.read.auto.buf, c.as_mut_slice.ensures.len)))))
