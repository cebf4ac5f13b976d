-- What is known of a line after a read and after a write.
use Rattle.std.proofs.Common.{◌≡◌, ℕ, zero, suc, ◌+◌, true, false, ◌<◌, ◌≤◌, List, [], ◌∷◌, ◌++◌, length, take, refl, sym, ap, ◌∙◌, subst, append_assoc, Option, Result, Ok, Err, Bool, arith}
use Rattle.std.specs.{Prelude.All, Prelude.replicate, Io.ReadsAtMost, Io.KnownBytes.Appends, Io.KnownBytes.Consumes, Io.KnownBytes.ReadConsumes, IoError.error_kind, declared.io.Error.Error}
use Rattle.std.proofs.lemmas.List.{append-nil, length-append, length-take, Elements.All-append, Elements.All-cons, Elements.All-nil, Sums.sum_by-append}
use Rattle.asgi_io.specs.{declared.answer.Answer.Answer, Answers.answer_of, Answers.passes, Answers.bytes_of, Counting.RoseBy, Writing.IsEnd, Writing.IsPart, Writing.Part, Writing.TriesWrites}
use Rattle.asgi_io.specs.Writing.{part_answers}
use Rattle.asgi_ws.specs.{Sides.Session, Lines.LineState}
use Rattle.asgi_io.proofs.BytesLemmas.{Appends-then, Consumes-nothing, Consumes-then}
use Rattle.asgi_io.proofs.CountLemmas.{rose_after}
use Rattle.asgi_io.proofs.WriteLemmas.{moved_some, moved_none, paused, failed}
use Rattle.asgi_conversation.specs.declared.input.InputEnd.{InputEnd, TheVariants.Open}
use Rattle.asgi_conversation.specs.TaskEnds.{has_ended}
use Rattle.asgi_run.specs.Lines.{Transferred, EndsAs, GoesOn, how_wrote, input_after, piece_size}
use Rattle.asgi_io.specs.declared.answer.Answer.TheVariants as answer
use Rattle.asgi_io.specs.declared.write.Wrote.TheVariants as wrote

-- ---- the session

-- the session is as it was, if each part is
pub session_is : (old new : Session) → (new.calls ≡ old.calls) × ((new.coming ≡ old.coming) × (new.leftover ≡ old.leftover)) → new ≡ old
session_is old new same =
    let is : ◌≡◌ {A = Session} (record { calls = new.calls; coming = new.coming; leftover = new.leftover }) old = rw (same.0, same.1.0, same.1.1) in is

-- ---- one read

-- what a read gave, by its outcome
pub record Gave (left next : Option (List ℕ)) (buffer : List ℕ) (a : Answer) : Type 0 where
  pub fits : bytes_of a ≤ length buffer
  pub consumes : Consumes left next (take (bytes_of a) buffer)
  pub ends : EndsAs (input_after Open a) (a ∷ []) next

goes_on_once : (a : Answer) → GoesOn a → All GoesOn (a ∷ [])
goes_on_once a on = All-cons GoesOn a [] on (All-nil GoesOn)

pub gave : (left next : Option (List ℕ)) (buffer : List ℕ) (r : Result ℕ Error) (a : Answer) → ReadsAtMost r buffer → ReadConsumes left next r buffer
    → length buffer ≡ piece_size → a ≡ answer_of piece_size r → Gave left next buffer a
gave left next buffer (Ok zero) a bound bytes size is = rw (is ∙ moved_none piece_size (omega arith))
    (record { fits = omega arith; consumes = bytes.0; ends = ([], refl, All-nil GoesOn, bytes.1 refl (omega (arith, size))) })
gave left next buffer (Ok (suc n)) a bound bytes size is = rw (is ∙ moved_some piece_size (suc n) (omega arith))
    (record { fits = bound.0; consumes = bytes.0; ends = goes_on_once (answer.Moved (suc n)) (omega arith, omega (arith, bound.0, size)) })
gave left next buffer (Err e) a bound bytes size is = by (passes (error_kind e)) refl
  where
    by : (pauses : Bool) → passes (error_kind e) ≡ pauses → Gave left next buffer a
    by true passing = rw (is ∙ paused piece_size e passing)
        (record { fits = omega arith; consumes = Consumes-nothing left next bytes; ends = goes_on_once answer.Paused tt })
    by false fails = rw (is ∙ failed piece_size e fails)
        (record { fits = omega arith; consumes = Consumes-nothing left next bytes; ends = ([], refl, All-nil GoesOn) })

pub told_as : (now after : List Answer) (buffer : List ℕ) (r : Result ℕ Error) (a : Answer) → after ≡ now ++ answer_of (length buffer) r ∷ [] → length buffer ≡ piece_size
    → a ≡ answer_of piece_size r → after ≡ now ++ a ∷ []
told_as now after buffer r a told size is = told ∙ (ap (λ (k : ℕ). now ++ answer_of k r ∷ []) size ∙ ap (λ (x : Answer). now ++ x ∷ []) (sym is))

-- ---- the line after it

ends_more : (answers : List Answer) (a : Answer) (left next : Option (List ℕ)) → EndsAs Open answers left → EndsAs (input_after Open a) (a ∷ []) next
    → EndsAs (input_after Open a) (answers ++ a ∷ []) next
ends_more answers (answer.Moved n) left next before x = All-append GoesOn answers (answer.Moved n ∷ []) before x
ends_more answers answer.Paused left next before x = All-append GoesOn answers (answer.Paused ∷ []) before x
ends_more answers answer.Nothing left next before x = (answers, refl, before, x.3)
ends_more answers answer.Failed left next before x = (answers, refl, before)

-- one more read, while a test shows that the input is open
pub moved_by_open_read : (start : LineState) (old new : LineState) (end : InputEnd) (read written : List ℕ) (failures : ℕ) (buffer : List ℕ) (a : Answer) → has_ended end ≡ false
    → Transferred start old end read written failures → Gave old.left new.left buffer a → new.reads ≡ old.reads ++ a ∷ []
    → new.written ≡ old.written → new.writes ≡ old.writes → new.failed ≡ old.failed → new.session ≡ old.session
    → Transferred start new (input_after end a) (read ++ take (bytes_of a) buffer) written failures
moved_by_open_read start old new Open read written failures buffer a still x y told same_written same_writes same_failed same_session = record {
  consumes = Consumes-then start.left old.left new.left read (take (bytes_of a) buffer) x.consumes y.consumes;
  appends = rw same_written x.appends;
  answers = x.answers ++ a ∷ [];
  told = told ∙ (ap (λ (l : List Answer). l ++ a ∷ []) x.told ∙ append_assoc start.reads x.answers (a ∷ []));
  sum = omega (arith, sum_by-append bytes_of x.answers (a ∷ []), length-append read (take (bytes_of a) buffer), length-take (bytes_of a) buffer, x.sum, y.fits);
  ends = ends_more x.answers a old.left new.left x.ends y.ends;
  tries = rw same_writes x.tries;
  failed = rw same_failed x.failed;
  quiet = same_session ∙ x.quiet;
}
moved_by_open_read start old new _ read written failures buffer a still x y told same_written same_writes same_failed same_session = cc

-- ---- a write

parts_append : (parts more : List Part) → part_answers (parts ++ more) ≡ part_answers parts ++ part_answers more
parts_append [] more = refl
parts_append (p ∷ parts) more =
    ap (λ (l : List Answer). replicate p.pauses answer.Paused ++ answer.Moved p.bytes ∷ l) (parts_append parts more)
    ∙ sym (append_assoc (replicate p.pauses answer.Paused) (answer.Moved p.bytes ∷ part_answers parts) (part_answers more))

-- the answers at the end are those of any other count of bytes
same_end : (failures out more : ℕ) (end : List Answer) → IsEnd (how_wrote failures out) end → IsEnd (how_wrote failures more) end
same_end zero out more end x = x
same_end (suc failures) out more end x = x

-- one text after another that went out whole
tries_then : (before mid after : List Answer) (out more failures : ℕ) → TriesWrites before mid out wrote.Done → TriesWrites mid after more (how_wrote failures more)
    → TriesWrites before after (out + more) (how_wrote failures (out + more))
tries_then before mid after out more failures x y =
    let whole : mid ≡ before ++ part_answers x.parts = x.told ∙ (ap (λ (l : List Answer). before ++ part_answers x.parts ++ l) x.ends ∙ append-nil (before ++ part_answers x.parts)) in
    record {
      parts = x.parts ++ y.parts;
      end = y.end;
      each = All-append IsPart x.parts y.parts x.each y.each;
      sum = omega (arith, sum_by-append (λ (p : Part). p.bytes) x.parts y.parts, x.sum, y.sum);
      ends = same_end failures more (out + more) y.end y.ends;
      told = y.told ∙ ap (λ (l : List Answer). l ++ part_answers y.parts ++ y.end) whole
          ∙ ap (λ (l : List Answer). l ++ y.end) (append_assoc before (part_answers x.parts) (part_answers y.parts) ∙ ap (λ (l : List Answer). before ++ l) (sym (parts_append x.parts y.parts)));
    }

-- the first n bytes of a text, counted
pub tries_front : (before after : List Answer) (n : ℕ) (text : List ℕ) → n < length text → TriesWrites before after n (wrote.Failed n)
    → TriesWrites before after (length (take n text)) (how_wrote 1 (length (take n text)))
tries_front before after n text less x = let counted : n ≡ length (take n text) = omega (arith, length-take n text, less) in subst (λ (k : ℕ). TriesWrites before after k (wrote.Failed k)) counted x

pub moved_by_write : (start : LineState) (old new : LineState) (end : InputEnd) (read written text : List ℕ) (failures : ℕ)
    → Transferred start old end read written 0 → new.left ≡ old.left → new.reads ≡ old.reads → new.session ≡ old.session → Appends old.written new.written text → RoseBy failures old.failed new.failed
    → TriesWrites old.writes new.writes (length text) (how_wrote failures (length text)) → Transferred start new end read (written ++ text) failures
moved_by_write start old new end read written text failures x same_left same_reads same_session appends rose tries = record {
  consumes = rw same_left x.consumes;
  appends = Appends-then start.written old.written new.written written text x.appends appends;
  answers = x.answers;
  told = same_reads ∙ x.told;
  sum = x.sum;
  ends = rw same_left x.ends;
  tries = subst (λ (k : ℕ). TriesWrites start.writes new.writes k (how_wrote failures k)) (sym (length-append written text)) (tries_then _ old.writes _ _ _ failures x.tries tries);
  failed = rose_after failures start.failed old.failed new.failed x.failed rose;
  quiet = same_session ∙ x.quiet;
}
