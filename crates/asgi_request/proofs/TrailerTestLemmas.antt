-- The test for a trailer section agrees with the grammar.
use Rattle.std.proofs.Common.{◌≡◌, ℕ, zero, suc, ◌<◌, ◌≤◌, Bool, true, false, List, [], ◌∷◌, ◌++◌, length, refl, sym, ap, ◌∙◌, arith, append_assoc, append-nil, Option, Some, None, All, flat_map, inl, inr, ◌⊎◌}
use Rattle.std.specs.Prelude.{◌↔◌, nat_lt, ◌==◌, ◌||◌, if◌then◌else◌, bytes_eq}
use Rattle.std.proofs.lemmas.Bool.Decides.{nat_tests}
use Rattle.std.proofs.lemmas.Slice.Eq.{bytes_eq-Decides}
use Rattle.std.proofs.lemmas.List.Elements.{All-cons, All-nil, All-head, All-tail}
use Rattle.httparse.specs.Ascii.{crlf_bytes}
use Rattle.httparse.specs.Grammar.{AllPass, is_token_byte, is_value_byte, LineEnd, crlf, lf, print_end, Field, IsField, print_field, print_section}
use Rattle.httparse.specs.Pieces.{Stops}
use Rattle.httparse.proofs.GrammarLemmas.{cons-append}
use Rattle.asgi_request.specs.ChunkedBody.{IsTrailerSection}
use Rattle.asgi_request.specs.Parts.{ParsesTrailers}
use Rattle.asgi_request.specs.BodyTexts.{run_of, after_run, is_empty_line, after_feed, after_end, after_value, after_field, holds_of, is_section}
use Rattle.asgi_request.proofs.RunLemmas.{run_splits, run_passes, run_done}

is_code : (b c : ℕ) → (b == c) ≡ true → b ≡ c
is_code b c h = grind (arith, nat_tests)

-- ---- a line end

feed_sound : (s rest : List ℕ) → after_feed s ≡ Some rest → s ≡ 10 ∷ rest
feed_sound [] rest h = cc
feed_sound (b ∷ s) rest h = at (b == 10) refl h
  where
    at : (t : Bool) → (b == 10) ≡ t → (if t then Some s else None) ≡ Some rest → b ∷ s ≡ 10 ∷ rest
    at true q g = let c = is_code b 10 q in let r : s ≡ rest = cc g in cc (c, r)
    at false q g = cc

end_sound : (s rest : List ℕ) → after_end s ≡ Some rest → (end : LineEnd) × (s ≡ print_end end ++ rest)
end_sound [] rest h = cc
end_sound (b ∷ s) rest h = at (b == 13) refl h
  where
    at : (t : Bool) → (b == 13) ≡ t → (if t then after_feed s else after_feed (b ∷ s)) ≡ Some rest → (end : LineEnd) × (b ∷ s ≡ print_end end ++ rest)
    at true q g = let c = is_code b 13 q in let r = feed_sound s rest g in (crlf, cc (c, r))
    at false q g = (lf, feed_sound (b ∷ s) rest g)

end_complete : (end : LineEnd) (rest : List ℕ) → after_end (print_end end ++ rest) ≡ Some rest
end_complete crlf rest = refl
end_complete lf rest = refl

-- ---- a field line

-- the bytes are a colon, a value, a line end and the rest
record ValueFirst (s rest : List ℕ) : Type 0 where
  raw : List ℕ
  end : LineEnd
  passes : AllPass is_value_byte raw
  splits : s ≡ 58 ∷ (raw ++ (print_end end ++ rest))

value_sound : (s rest : List ℕ) → after_value s ≡ Some rest → ValueFirst s rest
value_sound [] rest h = cc
value_sound (b ∷ s) rest h = at (b == 58) refl h
  where
    at : (t : Bool) → (b == 58) ≡ t → (if t then after_end (after_run is_value_byte s) else None) ≡ Some rest → ValueFirst (b ∷ s) rest
    at true q g =
        let c = is_code b 58 q in
        let e = end_sound (after_run is_value_byte s) rest g in
        let split : s ≡ run_of is_value_byte s ++ (print_end e.0 ++ rest) = sym (run_splits is_value_byte s) ∙ ap (λ (l : List ℕ). run_of is_value_byte s ++ l) e.1 in
        record { raw = run_of is_value_byte s; end = e.0; passes = run_passes is_value_byte s; splits = ap (λ (d : ℕ). d ∷ s) c ∙ ap (λ (l : List ℕ). 58 ∷ l) split }
    at false q g = cc

-- the bytes are a field line and the rest
record FieldFirst (s rest : List ℕ) : Type 0 where
  field : Field
  is : IsField field
  splits : s ≡ print_field field ++ rest

some_there : (n : ℕ) → nat_lt 0 n ≡ true → 0 < n
some_there n h = grind (arith, nat_tests)

is_there : (n : ℕ) → 0 < n → nat_lt 0 n ≡ true
is_there n h = grind (arith, nat_tests)

field_splits : (f : Field) (rest : List ℕ) → print_field f ++ rest ≡ f.name ++ (58 ∷ (f.raw ++ (print_end f.end ++ rest)))
field_splits f rest = at f.name f.raw (print_end f.end) rest
  where
    at : (a b c r : List ℕ) → (a ++ 58 ∷ b ++ c) ++ r ≡ a ++ (58 ∷ (b ++ (c ++ r)))
    at a b c r = simp (append_assoc, cons-append)

field_sound : (s rest : List ℕ) → after_field s ≡ Some rest → FieldFirst s rest
field_sound s rest h = at (nat_lt 0 (length (run_of is_token_byte s))) refl h
  where
    at : (t : Bool) → nat_lt 0 (length (run_of is_token_byte s)) ≡ t → (if t then after_value (after_run is_token_byte s) else None) ≡ Some rest → FieldFirst s rest
    at true q g =
        let v = value_sound (after_run is_token_byte s) rest g in
        let f : Field = record { name = run_of is_token_byte s; raw = v.raw; end = v.end } in
        record {
          field = f;
          is = record { name = (some_there (length (run_of is_token_byte s)) q, run_passes is_token_byte s); raw = v.passes };
          splits = sym (run_splits is_token_byte s) ∙ ap (λ (l : List ℕ). run_of is_token_byte s ++ l) v.splits ∙ sym (field_splits f rest);
        }
    at false q g = cc

colon_stops : (s : List ℕ) → Stops is_token_byte (58 ∷ s)
unfolding is_token_byte
colon_stops s = refl

end_stops : (end : LineEnd) (s : List ℕ) → Stops is_value_byte (print_end end ++ s)
end_stops crlf s = refl
end_stops lf s = refl

value_complete : (raw : List ℕ) (end : LineEnd) (rest : List ℕ) → AllPass is_value_byte raw → after_value (58 ∷ (raw ++ (print_end end ++ rest))) ≡ Some rest
value_complete raw end rest all =
    ap after_end (run_done is_value_byte raw (print_end end ++ rest) all (end_stops end rest)).1 ∙ end_complete end rest

field_complete : (f : Field) (rest : List ℕ) → IsField f → after_field (print_field f ++ rest) ≡ Some rest
field_complete f rest is =
    let after = 58 ∷ (f.raw ++ (print_end f.end ++ rest)) in
    let run = run_done is_token_byte f.name after is.name.1 (colon_stops (f.raw ++ (print_end f.end ++ rest))) in
    ap after_field (field_splits f rest) ∙ rw (run.0, run.1, is_there (length f.name) is.name.0) (value_complete f.raw f.end rest is.raw)

-- ---- a section

either : (a b : Bool) → (a || b) ≡ true → (a ≡ true) ⊎ (b ≡ true)
either true b h = inl refl
either false b h = inr h

right_holds : (a b : Bool) → b ≡ true → (a || b) ≡ true
right_holds true b h = refl
right_holds false b h = h

left_holds : (a b : Bool) → a ≡ true → (a || b) ≡ true
left_holds true b h = refl
left_holds false b h = cc

-- the fields of a text that passed
abbrev Section : ℕ → List ℕ → Type 0
Section n text = (fields : List Field) × (last : LineEnd) × IsTrailerSection n text fields last

empty_sound : (n : ℕ) (text : List ℕ) → is_empty_line text ≡ true → Section n text
empty_sound n text h = by (either (bytes_eq text crlf_bytes) (bytes_eq text (10 ∷ [])) h)
  where
    by : (bytes_eq text crlf_bytes ≡ true) ⊎ (bytes_eq text (10 ∷ []) ≡ true) → Section n text
    by (inl g) = ([], crlf, record { reads = (All-nil IsField, (bytes_eq-Decides text crlf_bytes).0 g); few = omega arith })
    by (inr g) = ([], lf, record { reads = (All-nil IsField, (bytes_eq-Decides text (10 ∷ [])).0 g); few = omega arith })

more_sound : (n : ℕ) (text rest : List ℕ) → FieldFirst text rest → Section n rest → Section (suc n) text
more_sound n text rest f s = (
  f.field ∷ s.0,
  s.1,
  record {
    reads = (
      All-cons IsField f.field s.0 f.is s.2.reads.0,
      f.splits ∙ ap (λ (l : List ℕ). print_field f.field ++ l) s.2.reads.1
          ∙ sym (append_assoc (print_field f.field) (print_section s.0 s.1) [])
          ∙ ap (λ (l : List ℕ). l ++ []) (sym (append_assoc (print_field f.field) (flat_map print_field s.0) (print_end s.1))),
    );
    few = omega (arith, s.2.few);
  },
)

section_sound : (n : ℕ) (text : List ℕ) → is_section n text ≡ true → Section n text
section_sound zero text h = empty_sound zero text h
section_sound (suc n) text h = by (either (is_empty_line text) (holds_of (is_section n) (after_field text)) h) (section_sound n)
  where
    on : (o : Option (List ℕ)) → after_field text ≡ o → holds_of (is_section n) o ≡ true → ((rest : List ℕ) → is_section n rest ≡ true → Section n rest) → Section (suc n) text
    on None e g go = cc
    on (Some rest) e g go = more_sound n text rest (field_sound text rest e) (go rest g)

    by : (is_empty_line text ≡ true) ⊎ (holds_of (is_section n) (after_field text) ≡ true) → ((rest : List ℕ) → is_section n rest ≡ true → Section n rest) → Section (suc n) text
    by (inl g) go = empty_sound (suc n) text g
    by (inr g) go = on (after_field text) refl g go

empty_complete : (last : LineEnd) → is_empty_line (print_end last) ≡ true
empty_complete crlf = refl
empty_complete lf = refl

section_complete : (n : ℕ) (fields : List Field) (last : LineEnd) → All IsField fields → length fields ≤ n → is_section n (print_section fields last) ≡ true
section_complete zero [] last all few = empty_complete last
section_complete (suc n) [] last all few = left_holds (is_empty_line (print_end last)) (holds_of (is_section n) (after_field (print_end last))) (empty_complete last)
section_complete zero (f ∷ fields) last all few = absurd (omega (arith, few))
section_complete (suc n) (f ∷ fields) last all few =
    let text = print_section (f ∷ fields) last in
    let split : text ≡ print_field f ++ print_section fields last = append_assoc (print_field f) (flat_map print_field fields) (print_end last) in
    right_holds (is_empty_line text) (holds_of (is_section n) (after_field text))
    (ap (λ (o : Option (List ℕ)). holds_of (is_section n) o) (ap after_field split ∙ field_complete f (print_section fields last) (All-head IsField f fields all))
    ∙ section_complete n fields last (All-tail IsField f fields all) (omega (arith, few)))

pub section_decided : (max_headers : ℕ) (text : List ℕ)
    → (is_section max_headers text ≡ true) ↔ ((fields : List Field) × (last : LineEnd) × IsTrailerSection max_headers text fields last)
section_decided max_headers text = (
  λ h. section_sound max_headers text h,
  λ x. ap (is_section max_headers) (x.2.reads.1 ∙ append-nil (print_section x.0 x.1)) ∙ section_complete max_headers x.0 x.1 x.2.reads.0 x.2.few,
)

pub trailers_parse : (max_headers : ℕ) (text : List ℕ) → ParsesTrailers max_headers text (is_section max_headers text)
trailers_parse max_headers text = by (is_section max_headers text) refl
  where
    by : (b : Bool) → is_section max_headers text ≡ b → ParsesTrailers max_headers text b
    by true e = section_sound max_headers text e
    by false e = λ fields last x.
        let there = (section_decided max_headers text).1 (fields, last, x) in
        let both : false ≡ true = sym e ∙ there in cc
