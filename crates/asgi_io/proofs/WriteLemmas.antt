-- The answers to the writes of a text, part by part.
use Rattle.std.proofs.Common.{◌≡◌, ℕ, zero, suc, ◌+◌, ◌<◌, ◌≤◌, true, false, List, [], ◌∷◌, ◌++◌, refl, sym, ap, ◌∙◌, subst, append_assoc, arith, Result, Ok, Err}
use Rattle.std.specs.Prelude.{All, replicate}
use Rattle.std.specs.List.{sum_by}
use Rattle.std.specs.IoError.{error_kind}
use Rattle.std.specs.declared.io.Error.{Error}
use Rattle.std.proofs.lemmas.Bool.Decides.{nat_tests}
use Rattle.std.proofs.lemmas.List.{append-nil, replicate-append-replicate}
use Rattle.std.proofs.lemmas.List.Elements.{All-append}
use Rattle.std.proofs.lemmas.List.Sums.{sum_by-append}
use Rattle.asgi_io.specs.declared.answer.Answer.{Answer}
use Rattle.asgi_io.specs.declared.answer.Answer.TheVariants.{Moved, Nothing, Paused, Failed}
use Rattle.asgi_io.specs.declared.write.Wrote.TheVariants as wrote
use Rattle.asgi_io.specs.Answers.{answer_of, passes}
use Rattle.asgi_io.specs.Writing.{retries, Part, IsPart, part_answers, IsFatal, TriesWrites, TriesPart}

pub moved_some : (room n : ℕ) → 0 < n → answer_of room (Ok n) ≡ Moved n
moved_some room n some = grind (arith, nat_tests, some)

pub moved_none : (room : ℕ) → 0 < room → answer_of room (Ok 0) ≡ Nothing
moved_none room some = grind (arith, nat_tests, some)

pub paused : (room : ℕ) (e : Error) → passes (error_kind e) ≡ true → answer_of room (Err e) ≡ Paused
paused room e is = rw is refl

pub failed : (room : ℕ) (e : Error) → passes (error_kind e) ≡ false → answer_of room (Err e) ≡ Failed
failed room e is = rw is refl

-- one more answer after pauses in a row
one_more : (before now new : List Answer) (k room : ℕ) (r : Result ℕ Error) (a : Answer) → now ≡ before ++ replicate k Paused
    → new ≡ now ++ answer_of room r ∷ [] → answer_of room r ≡ a → new ≡ before ++ replicate k Paused ++ a ∷ []
one_more before now new k room r a was told is = told ∙ ap (λ (l : List Answer). l ++ answer_of room r ∷ []) was ∙ ap (λ (x : Answer). before ++ replicate k Paused ++ x ∷ []) is

-- a pause that is tried again
pub pause_more : (before now new : List Answer) (k room : ℕ) (r : Result ℕ Error) (e : Error) → now ≡ before ++ replicate k Paused
    → new ≡ now ++ answer_of room r ∷ [] → r ≡ Err e → true ≡ passes (error_kind e) → new ≡ before ++ replicate (k + 1) Paused
pause_more before now new k room r e was told is pauses =
    one_more before now new k room r Paused was told (ap (answer_of room) is ∙ paused room e (sym pauses))
    ∙ append_assoc before (replicate k Paused) (Paused ∷ [])
    ∙ ap (λ (l : List Answer). before ++ l) (replicate-append-replicate k 1 Paused)

-- a write that took some bytes, or none
pub part_moved : (before now new : List Answer) (k room n : ℕ) (r : Result ℕ Error) → k ≤ retries → 0 < room → now ≡ before ++ replicate k Paused
    → new ≡ now ++ answer_of room r ∷ [] → r ≡ Ok n → TriesPart before new n
part_moved before now new k room n r few some was told is = record {
  pauses = k;
  last = answer_of room (Ok n);
  few = few;
  went = moved_some room n;
  stopped = λ none. subst (IsFatal k) (sym (ap (λ (m : ℕ). answer_of room (Ok m)) none ∙ moved_none room some)) tt;
  told = one_more before now new k room r (answer_of room (Ok n)) was told (ap (answer_of room) is);
}

-- a write that failed
pub part_failed : (before now new : List Answer) (k room : ℕ) (r : Result ℕ Error) (e : Error) → k ≤ retries → now ≡ before ++ replicate k Paused
    → new ≡ now ++ answer_of room r ∷ [] → r ≡ Err e → false ≡ passes (error_kind e) → TriesPart before new 0
part_failed before now new k room r e few was told is fails = record {
  pauses = k;
  last = Failed;
  few = few;
  went = λ some. absurd (omega (arith, some));
  stopped = λ none. tt;
  told = one_more before now new k room r Failed was told (ap (answer_of room) is ∙ failed room e (sym fails));
}

-- a write that fails after all the pauses, or pauses once more
pub part_ended : (before now new : List Answer) (k room : ℕ) (r : Result ℕ Error) (e : Error) → k ≡ retries → now ≡ before ++ replicate k Paused
    → new ≡ now ++ answer_of room r ∷ [] → r ≡ Err e → TriesPart before new 0
part_ended before now new k room r e all was told is = record {
  pauses = k;
  last = answer_of room (Err e);
  few = omega (arith, all);
  went = λ some. absurd (omega (arith, some));
  stopped = λ none. at (passes (error_kind e)) refl;
  told = one_more before now new k room r (answer_of room (Err e)) was told (ap (answer_of room) is);
}
  where
    at : (b : _) → passes (error_kind e) ≡ b → IsFatal k (answer_of room (Err e))
    at true pauses = subst (IsFatal k) (sym (paused room e pauses)) all
    at false fails = subst (IsFatal k) (sym (failed room e fails)) tt

-- ---- the parts of a text

-- this many bytes went out in these parts
pub record PartsGone (before now : List Answer) (out : ℕ) : Type 0 where
  pub parts : List Part
  pub each : All IsPart parts
  pub sum : sum_by (λ part. part.bytes) parts ≡ out
  pub told : now ≡ before ++ part_answers parts

pub no_parts : (before : List Answer) → PartsGone before before 0
no_parts before = record { parts = []; each = λ k d less. absurd (omega (arith, less)); sum = refl; told = sym (append-nil before) }

answers-append : (parts : List Part) (p : Part) → part_answers (parts ++ p ∷ []) ≡ part_answers parts ++ replicate p.pauses Paused ++ Moved p.bytes ∷ []
answers-append [] p = refl
answers-append (q ∷ parts) p =
    ap (λ (l : List Answer). replicate q.pauses Paused ++ Moved q.bytes ∷ l) (answers-append parts p)
    ∙ ap (λ (l : List Answer). replicate q.pauses Paused ++ l) (append_assoc (Moved q.bytes ∷ part_answers parts) (replicate p.pauses Paused) (Moved p.bytes ∷ []))
    ∙ sym (append_assoc (replicate q.pauses Paused) (Moved q.bytes ∷ part_answers parts) (replicate p.pauses Paused ++ Moved p.bytes ∷ []))
    ∙ sym (append_assoc (replicate q.pauses Paused ++ Moved q.bytes ∷ part_answers parts) (replicate p.pauses Paused) (Moved p.bytes ∷ []))

one_part : (p : Part) → IsPart p → All IsPart (p ∷ [])
one_part p is zero d less = is
one_part p is (suc k) d less = absurd (omega (arith, less))

pub part_more : (before now new : List Answer) (out n : ℕ) → PartsGone before now out → TriesPart now new n → 0 < n → PartsGone before new (out + n)
part_more before now new out n gone x some =
    let p : Part = record { pauses = x.pauses; bytes = n } in
    record {
      parts = gone.parts ++ p ∷ [];
      each = All-append IsPart gone.parts (p ∷ []) gone.each (one_part p (x.few, some));
      sum = sum_by-append (λ (q : Part). q.bytes) gone.parts (p ∷ []) ∙ omega (arith, gone.sum);
      told = x.told ∙ ap (λ (a : Answer). now ++ replicate x.pauses Paused ++ a ∷ []) (x.went some)
          ∙ ap (λ (l : List Answer). l ++ replicate x.pauses Paused ++ Moved n ∷ []) gone.told
          ∙ ap (λ (l : List Answer). l ++ Moved n ∷ []) (append_assoc before (part_answers gone.parts) (replicate x.pauses Paused))
          ∙ append_assoc before (part_answers gone.parts ++ replicate x.pauses Paused) (Moved n ∷ [])
          ∙ ap (λ (l : List Answer). before ++ l) (sym (answers-append gone.parts p));
    }

-- all of the text went out
pub tries_all : (before now : List Answer) (out : ℕ) → PartsGone before now out → TriesWrites before now out wrote.Done
tries_all before now out gone = record {
  parts = gone.parts;
  end = [];
  each = gone.each;
  sum = gone.sum;
  ends = refl;
  told = gone.told ∙ sym (append-nil (before ++ part_answers gone.parts));
}

-- writing stopped
pub tries_some : (before now new : List Answer) (out n : ℕ) → PartsGone before now out → TriesPart now new n → n ≡ 0 → TriesWrites before new out (wrote.Failed out)
tries_some before now new out n gone x none = record {
  parts = gone.parts;
  end = replicate x.pauses Paused ++ x.last ∷ [];
  each = gone.each;
  sum = gone.sum;
  ends = (x.pauses, x.last, x.few, x.stopped none, refl);
  told = x.told ∙ ap (λ (l : List Answer). l ++ replicate x.pauses Paused ++ x.last ∷ []) gone.told
      ∙ append_assoc (before ++ part_answers gone.parts) (replicate x.pauses Paused) (x.last ∷ []);
}
