use Rattle.std.proofs.Common.{Err, Ok, Result}
use Rattle.std.specs.Result.{IsErr, OnOk}
use Rattle.asgi_halves.proofs.HalfWords.{◌≡◌, take, arith, inl, ◌∙◌, session_is, piece_size, length}
use Rattle.asgi_io.specs.{Answers.bytes_of}
use Rattle.asgi_run.proofs.LineLemmas.{gave, moved_by_open_read, told_as}
use Rattle.std.proofs.lemmas.List.{take_at}
use Rattle.asgi_halves.proofs.{ReadAheadLemmas.short_piece}
use Rattle.asgi_halves.proofs.piece.Piece.fill.Goals as goal

-- of an error nothing more is to be shown
on_error : {A E : Type 0} (P : Type 0) (r : Result A E) → IsErr r → OnOk r P
on_error P (Ok a) is = cc
on_error P (Err e) is = tt

pub returns-clause-moved : goal.returns-clause-moved
returns-clause-moved g c =
    let buffer = c.read_some-read.new.buf in
    let a = c.answer_of-answer.result in
    let size : length buffer ≡ piece_size = omega (arith, c.read_some-read.auto.buf, c.deref_mut.ensures.len, c.in_ok-make_ready.ensures.made) in
    let e = c.read_some-read.ensures in
    let x = gave _ _ buffer c.read_some-read.result a e.bound e.bytes size c.answer_of-answer.ensures in
    let told = told_as _ _ buffer c.read_some-read.result a e.told size c.answer_of-answer.ensures in
    let stay = g.met.L.Line.writes_stay _ _ e.beside in
    let session = session_is _ _ (g.met.L.Line.session_stays _ _ (inl e.beside)) in
    let same : c.deref.result.now ≡ buffer = c.deref.ensures.value ∙ take_at buffer _ _ (omega (arith, c.read_some-read.auto.buf, c.deref_mut.ensures.len)) in (
      take (bytes_of a) buffer,
      λ start read written failures moved. rw (c.take_in.ensures.input, g.met.L.Line.state_is c.read_some-read.new.self)
          (moved_by_open_read start _ _ _ read written failures buffer a c.requires (rw (g.met.L.Line.state_is c.args.line.now) at moved) x told stay.0 stay.1.1 stay.1.0 session),
      rw same at c.in_ok-take_in.ensures.fed,
      short_piece buffer (bytes_of a) size x.fits,
    )

pub returns-in_err-take_in-clause-moved : goal.returns-in_err-take_in-clause-moved
returns-in_err-take_in-clause-moved g c =
    let buffer = c.read_some-read.new.buf in
    let a = c.answer_of-answer.result in
    let size : length buffer ≡ piece_size = omega (arith, c.read_some-read.auto.buf, c.deref_mut.ensures.len, c.in_ok-make_ready.ensures.made) in
    let e = c.read_some-read.ensures in
    let x = gave _ _ buffer c.read_some-read.result a e.bound e.bytes size c.answer_of-answer.ensures in
    let told = told_as _ _ buffer c.read_some-read.result a e.told size c.answer_of-answer.ensures in
    let stay = g.met.L.Line.writes_stay _ _ e.beside in
    let session = session_is _ _ (g.met.L.Line.session_stays _ _ (inl e.beside)) in (
      take (bytes_of a) buffer,
      λ start read written failures moved. rw (c.take_in.ensures.input, g.met.L.Line.state_is c.read_some-read.new.self)
          (moved_by_open_read start _ _ _ read written failures buffer a c.requires (rw (g.met.L.Line.state_is c.args.line.now) at moved) x told stay.0 stay.1.1 stay.1.0 session),
      on_error _ _ c.from_residual-in_err-take_in.ensures.0,
      short_piece buffer (bytes_of a) size x.fits,
    )
