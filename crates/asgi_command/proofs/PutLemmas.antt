-- Texts that are written one after another are one text.
use Rattle.std.proofs.Common.{◌≡◌, ◌∙◌, ℕ, suc, ◌+◌, Bool, true, false, List, [], ◌∷◌, ◌++◌, length, take, Option, refl, sym, ap, ap₂, subst, arith, codes, replicate, length-append, append_assoc, append-nil, zero-add}
use Rattle.std.proofs.KnownBytes.{Appends-nil, Appends-trans}
use Rattle.std.proofs.lemmas.List.Elements.{All-append, All-head, All-tail}
use Rattle.std.proofs.lemmas.List.Sums.{sum_by-append}
use Rattle.std.proofs.lemmas.List.{take-append-le}
use Rattle.std.specs.Io.KnownBytes.{Appends}
use Rattle.asgi_io.specs.declared.answer.Answer.{Answer}
use Rattle.asgi_io.specs.declared.answer.Answer.TheVariants.{Paused, Moved}
use Rattle.asgi_io.specs.declared.write.Wrote.{Wrote}
use Rattle.asgi_io.specs.declared.write.Wrote.TheVariants.{Done, Failed}
use Rattle.asgi_io.specs.Writing.{WritesOut, TriesWrites, Part, IsPart, IsEnd, part_answers, out_of}
use Rattle.asgi_io.proofs.CountLemmas.{never_fell, rose_after}
use Rattle.asgi_conversation.specs.declared.report.Report.{Report}
use Rattle.asgi_desk.specs.Told.{Told}
use Rattle.asgi_command.specs.Telling.{Writer, Tells, Puts, PutsNext, is_whole, report_line, report_lines}

-- how much went out of a text, counted from the beginning of a longer one
abbrev after : ℕ → Wrote → Wrote
after n Done = Done
after n (Failed k) = Failed (n + k)

longer : (x : ℕ) (s : List ℕ) (k : ℕ) → length (x ∷ s) + k ≡ suc (length s + k)
longer x s k = omega arith

take_after : (s t : List ℕ) (k : ℕ) → take (length s + k) (s ++ t) ≡ s ++ take k t
take_after [] t k = ap (λ n. take n t) (zero-add k)
take_after (x ∷ s) t k = ap (λ n. take n (x ∷ (s ++ t))) (longer x s k) ∙ ap (λ (l : List ℕ). x ∷ l) (take_after s t k)

writes_next : (a b c : Option (List ℕ)) (e f g : ℕ) (s t : List ℕ) (w : Wrote) → WritesOut a b e f s Done → WritesOut b c f g t w → WritesOut a c e g (s ++ t) (after (length s) w)
writes_next a b c e f g s t Done (x, y) (z, u) = (Appends-trans a b c s t x z, rose_after 0 e f g y u)
writes_next a b c e f g s t (Failed k) (x, y) (z, less, u) =
    (subst (λ l. Appends a c l) (sym (take_after s t k)) (Appends-trans a b c s (take k t) x z), omega (arith, less, length-append s t), rose_after 1 e f g y u)

out_after : (s t : List ℕ) (w : Wrote) → out_of (s ++ t) (after (length s) w) ≡ length s + out_of t w
out_after s t Done = length-append s t
out_after s t (Failed k) = refl

ends_after : (n : ℕ) (w : Wrote) (end : List Answer) → IsEnd w end → IsEnd (after n w) end
ends_after n Done end is = is
ends_after n (Failed k) end is = is

answers-append : (one other : List Part) → part_answers (one ++ other) ≡ part_answers one ++ part_answers other
answers-append [] other = refl
answers-append (p ∷ parts) other =
    ap (λ (l : List Answer). replicate p.pauses Paused ++ Moved p.bytes ∷ l) (answers-append parts other)
    ∙ sym (append_assoc (replicate p.pauses Paused) (Moved p.bytes ∷ part_answers parts) (part_answers other))

-- nothing comes after the parts of a text that went out whole
whole_told : (a b : List Answer) (parts : List Part) (end : List Answer) → end ≡ [] → b ≡ a ++ part_answers parts ++ end → b ≡ a ++ part_answers parts
whole_told a b parts end none told = told ∙ ap (λ (l : List Answer). a ++ part_answers parts ++ l) none ∙ append-nil (a ++ part_answers parts)

tries_next : (a b c : List Answer) (s t : List ℕ) (w : Wrote) → TriesWrites a b (length s) Done → TriesWrites b c (out_of t w) w
    → TriesWrites a c (out_of (s ++ t) (after (length s) w)) (after (length s) w)
tries_next a b c s t w x y = record {
  parts = x.parts ++ y.parts;
  end = y.end;
  each = All-append IsPart x.parts y.parts x.each y.each;
  sum = sum_by-append (λ (part : Part). part.bytes) x.parts y.parts ∙ ap₂ (λ n k. n + k) x.sum y.sum ∙ sym (out_after s t w);
  ends = ends_after (length s) w y.end y.ends;
  told = y.told ∙ ap (λ (l : List Answer). l ++ part_answers y.parts ++ y.end) (whole_told a b x.parts x.end x.ends x.told)
      ∙ ap (λ (l : List Answer). l ++ y.end) (append_assoc a (part_answers x.parts) (part_answers y.parts) ∙ ap (λ (l : List Answer). a ++ l) (sym (answers-append x.parts y.parts)));
}

whole_after : (n : ℕ) (w : Wrote) → is_whole (after n w) ≡ is_whole w
whole_after n Done = refl
whole_after n (Failed k) = refl

pub puts_nothing : (a : Writer) → Puts [] a a true
puts_nothing a = record {
  wrote = Done;
  writes = (Appends-nil a.written, never_fell a.failed);
  tries = record { parts = []; end = []; each = λ k d less. absurd (omega (arith, less)); sum = refl; ends = refl; told = sym (append-nil (a.writes ++ []) ∙ append-nil a.writes) };
  whole_is = refl;
}

done_next : (s t : List ℕ) (a b c : Writer) (whole : Bool) (one : Wrote) → true ≡ is_whole one
    → WritesOut a.written b.written a.failed b.failed s one → TriesWrites a.writes b.writes (out_of s one) one → Puts t b c whole → Puts (s ++ t) a c whole
done_next s t a b c whole (Failed k) is writes tries y = cc
done_next s t a b c whole Done is writes tries y = record {
  wrote = after (length s) y.wrote;
  writes = writes_next a.written b.written c.written a.failed b.failed c.failed s t y.wrote writes y.writes;
  tries = tries_next a.writes b.writes c.writes s t y.wrote tries y.tries;
  whole_is = y.whole_is ∙ sym (whole_after (length s) y.wrote);
}

-- a text after one of which all was written
pub puts_next : (s t : List ℕ) (a b c : Writer) (whole : Bool) → Puts s a b true → Puts t b c whole → Puts (s ++ t) a c whole
puts_next s t a b c whole x y = done_next s t a b c whole x.wrote x.whole_is x.writes x.tries y

stopped_by : (s t : List ℕ) (a b : Writer) (one : Wrote) → false ≡ is_whole one
    → WritesOut a.written b.written a.failed b.failed s one → TriesWrites a.writes b.writes (out_of s one) one → Puts (s ++ t) a b false
stopped_by s t a b Done is writes tries = cc
stopped_by s t a b (Failed k) is (x, less, y) tries = record {
  wrote = Failed k;
  writes = (subst (λ l. Appends a.written b.written l) (sym (take-append-le k s t (omega (arith, less)))) x, omega (arith, less, length-append s t), y);
  tries = tries;
  whole_is = refl;
}

-- if a prefix was not written whole, nothing is written after it
pub puts_stopped : (s t : List ℕ) (a b : Writer) → Puts s a b false → Puts (s ++ t) a b false
puts_stopped s t a b x = stopped_by s t a b x.wrote x.whole_is x.writes x.tries

pub puts_told : (s : List ℕ) (a b : Writer) (whole : Bool) → Puts s a b whole → Tells s a b
puts_told s a b whole x = record { wrote = x.wrote; writes = x.writes; tries = x.tries }

-- a line of a failure, of which the first part went out, and the second did not, or did
pub failure_stops : (what why : List ℕ) (a b c : Writer) (one other : Bool) → one ≡ true → other ≡ false → Puts what a b one → Puts why b c other
    → Tells (what ++ why ++ codes "\n") a c
failure_stops what why a b c one other is fails x y =
    let X : Puts what a b true = subst (λ w. Puts what a b w) is x in
    let Y : Puts why b c false = subst (λ w. Puts why b c w) fails y in
    puts_told (what ++ why ++ codes "\n") a c false (puts_stopped (what ++ why) (codes "\n") a c (puts_next what why a b c false X Y))

pub failure_goes_out : (what why : List ℕ) (a b c d : Writer) (one other last : Bool) → one ≡ true → other ≡ true → Puts what a b one → Puts why b c other
    → Puts (codes "\n") c d last → Tells (what ++ why ++ codes "\n") a d
failure_goes_out what why a b c d one other last is goes x y z =
    let X : Puts what a b true = subst (λ w. Puts what a b w) is x in
    let Y : Puts why b c true = subst (λ w. Puts why b c w) goes y in
    puts_told (what ++ why ++ codes "\n") a d last (puts_next (what ++ why) (codes "\n") a c d last (puts_next what why a b c true X Y) z)

next_by : (text line : List ℕ) (told whole : Bool) (a b c : Writer) → Puts text a b told → PutsNext told line b c whole → Puts (text ++ line) a c whole
next_by text line true whole a b c x y = puts_next text line a b c whole x y
next_by text line false whole a b c x (same, fails) =
    subst (λ w. Puts (text ++ line) a c w) (sym fails) (subst (λ w. Puts (text ++ line) a w false) (sym same) (puts_stopped text line a b x))

-- A printer that wrote the lines of the reports, one after another, wrote them as one text.
module _ {T : Type 0} (tells : T → T → ℕ → Report → Type 0) (whole_of : T → Bool) (at : T → Writer)
    (prints : (was is : T) (n : ℕ) (r : Report) → tells was is n r → PutsNext (whole_of was) (report_line (n, r)) (at was) (at is) (whole_of is)) where
  printed_after : (text : List ℕ) (a : Writer) (was is : T) (reports : List (ℕ × Report)) → Told tells was is reports → Puts text a (at was) (whole_of was)
      → Puts (text ++ report_lines reports) a (at is) (whole_of is)
  printed_after text a was is [] told x =
      subst (λ (l : List ℕ). Puts l a (at is) (whole_of is)) (sym (append-nil text)) (subst (λ (t : T). Puts text a (at t) (whole_of t)) (sym told) x)
  printed_after text a was is (r ∷ rs) told x =
      let next = next_by text (report_line r) (whole_of was) (whole_of told.0) a (at was) (at told.0) x (prints was told.0 r.0 r.1 told.1) in
      subst (λ (l : List ℕ). Puts l a (at is) (whole_of is)) (append_assoc text (report_line r) (report_lines rs))
      (printed_after (text ++ report_line r) a told.0 is rs told.2 next)

  pub printed : (was is : T) (reports : List (ℕ × Report)) → Told tells was is reports → whole_of was ≡ true → Puts (report_lines reports) (at was) (at is) (whole_of is)
  printed was is reports told begins =
      printed_after [] (at was) was is reports told (subst (λ b. Puts [] (at was) (at was) b) (sym begins) (puts_nothing (at was)))

-- what each report leaves as it is stays so
pub stays : {T X N : Type 0} (tells : T → T → ℕ → N → Type 0) (part : T → X) → ((was is : T) (n : ℕ) (r : N) → tells was is n r → part is ≡ part was)
    → (was is : T) (reports : List (ℕ × N)) → Told tells was is reports → part is ≡ part was
stays tells part same was is [] told = ap part told
stays tells part same was is (r ∷ rs) told = stays tells part same told.0 is rs told.2 ∙ same was told.0 r.0 r.1 told.1
