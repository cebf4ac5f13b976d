-- The test for a size line agrees with the grammar.
use Rattle.std.proofs.Common.{◌≡◌, ℕ, ◌<◌, ◌≤◌, Bool, true, false, List, [], ◌∷◌, ◌++◌, length, refl, sym, ap, ◌∙◌, subst, arith, append_assoc, append-nil, Option, Some, None}
use Rattle.std.specs.Prelude.{◌↔◌, nat_lt, nat_le, ◌==◌, ◌&&◌, if◌then◌else◌, bytes_eq}
use Rattle.std.proofs.lemmas.Bool.Decides.{nat_tests}
use Rattle.std.proofs.lemmas.Slice.Eq.{bytes_eq-Decides}
use Rattle.std.specs.Str.Parse.{digits_value}
use Rattle.std.specs.Char.{is_ascii_hexdigit}
use Rattle.httparse.specs.Ascii.{crlf_bytes}
use Rattle.httparse.specs.Grammar.{is_ows, is_extension_byte, crlf, print_end, print_extension, IsExtension, ChunkLine, print_chunk_line, ReadsChunkLine, chunk_size}
use Rattle.httparse.specs.Pieces.{Extension}
use Rattle.httparse.proofs.ChunkLemmas.{chunk_pieces}
use Rattle.asgi_request.specs.Parts.{ParsesSize}
use Rattle.asgi_request.specs.BodyTexts.{run_of, after_run, is_line_rest, size_of, size_in}
use Rattle.asgi_request.proofs.RunLemmas.{run_splits, run_passes, run_done}

is_semicolon : (b : ℕ) → (b == 59) ≡ true → b ≡ 59
is_semicolon b h = grind (arith, nat_tests)

pub eq_self : (a : List ℕ) → bytes_eq a a ≡ true
eq_self a = (bytes_eq-Decides a a).1 refl

-- ---- the rest of a line

rest_sound : (s : List ℕ) → is_line_rest s ≡ true → (x : Option (List ℕ)) × IsExtension x × (s ≡ print_extension x ++ print_end crlf)
rest_sound [] h = cc
rest_sound (b ∷ s) h = at (b == 59) refl h
  where
    at : (t : Bool) → (b == 59) ≡ t → bytes_eq (if t then after_run is_extension_byte s else b ∷ s) crlf_bytes ≡ true
        → (x : Option (List ℕ)) × IsExtension x × (b ∷ s ≡ print_extension x ++ print_end crlf)
    at true q g =
        let end : after_run is_extension_byte s ≡ crlf_bytes = (bytes_eq-Decides (after_run is_extension_byte s) crlf_bytes).0 g in
        let split : s ≡ run_of is_extension_byte s ++ crlf_bytes = sym (run_splits is_extension_byte s) ∙ ap (λ (l : List ℕ). run_of is_extension_byte s ++ l) end in
        (Some (run_of is_extension_byte s), run_passes is_extension_byte s, ap (λ (c : ℕ). c ∷ s) (is_semicolon b q) ∙ ap (λ (l : List ℕ). 59 ∷ l) split)
    at false q g = (None, tt, (bytes_eq-Decides (b ∷ s) crlf_bytes).0 g)

rest_complete : (x : Option (List ℕ)) (s : List ℕ) → Extension x s [] → is_line_rest s ≡ true
rest_complete x s e = subst (λ (l : List ℕ). is_line_rest l ≡ true) (sym (e.1 ∙ ap (λ (l : List ℕ). print_extension x ++ l) (append-nil (print_end crlf)))) (at x e.0)
  where
    at : (x : Option (List ℕ)) → IsExtension x → is_line_rest (print_extension x ++ print_end crlf) ≡ true
    at None h = refl
    at (Some text) h = rw (run_done is_extension_byte text crlf_bytes h refl).1 (eq_self crlf_bytes)

-- ---- the line

-- what a size shows of its digits
sized : (digits : List ℕ) (a b c : Bool) (n : ℕ) → (if a && (b && c) then Some (digits_value 16 digits) else None) ≡ Some n
    → (a ≡ true) × (b ≡ true) × (c ≡ true) × (n ≡ digits_value 16 digits)
sized digits true true true n h = (refl, refl, refl, cc)
sized digits true true false n h = cc
sized digits true false c n h = cc
sized digits false b c n h = cc

some_there : (n : ℕ) → nat_lt 0 n ≡ true → 0 < n
some_there n h = grind (arith, nat_tests)

few_there : (n : ℕ) → nat_le n 16 ≡ true → n ≤ 16
few_there n h = grind (arith, nat_tests)

is_some : (n : ℕ) → 0 < n → nat_lt 0 n ≡ true
is_some n h = grind (arith, nat_tests)

is_few : (n : ℕ) → n ≤ 16 → nat_le n 16 ≡ true
is_few n h = grind (arith, nat_tests)

line_joined : (l : ChunkLine) → print_chunk_line l ++ [] ≡ l.digits ++ (l.pad ++ (print_extension l.extension ++ print_end crlf))
unfolding print_chunk_line
line_joined l = simp (append_assoc, append-nil)

size_sound : (text : List ℕ) (n : ℕ) → size_in text ≡ Some n → (l : ChunkLine) × ReadsChunkLine text l [] × (n ≡ chunk_size l)
size_sound text n h =
    let digits = run_of is_ascii_hexdigit text in
    let d = after_run is_ascii_hexdigit text in
    let s = sized digits (nat_lt 0 (length digits)) (nat_le (length digits) 16) (is_line_rest (after_run is_ows d)) n h in
    let x = rest_sound (after_run is_ows d) s.2 in
    let l : ChunkLine = record { digits = digits; pad = run_of is_ows d; extension = x.0 } in
    let split : text ≡ digits ++ (run_of is_ows d ++ (print_extension x.0 ++ print_end crlf)) =
    sym (run_splits is_ascii_hexdigit text)
    ∙ ap (λ (m : List ℕ). digits ++ m) (sym (run_splits is_ows d) ∙ ap (λ (m : List ℕ). run_of is_ows d ++ m) x.2) in (
      l,
      (
        record { digits = (some_there (length digits) s.0, few_there (length digits) s.1, run_passes is_ascii_hexdigit text); pad = run_passes is_ows d; extension = x.1 },
        split ∙ sym (line_joined l),
      ),
      s.3,
    )

size_complete : (text : List ℕ) (l : ChunkLine) → ReadsChunkLine text l [] → size_in text ≡ Some (chunk_size l)
size_complete text l x =
    let p = chunk_pieces text l [] x in
    let first = run_done is_ascii_hexdigit l.digits p.0 p.1.0.0 p.1.0.2 in
    let second = run_done is_ows l.pad p.2.0 p.2.1.0 p.2.1.2 in
    let digits_are : run_of is_ascii_hexdigit text ≡ l.digits = ap (run_of is_ascii_hexdigit) p.1.0.1 ∙ first.0 in
    let rest_is : after_run is_ows (after_run is_ascii_hexdigit text) ≡ p.2.0 =
    ap (λ (m : List ℕ). after_run is_ows (after_run is_ascii_hexdigit m)) p.1.0.1 ∙ ap (after_run is_ows) (first.1 ∙ p.2.1.1) ∙ second.1 in
    ap (λ (m : List ℕ). size_of (run_of is_ascii_hexdigit text) (is_line_rest m)) rest_is
    ∙ ap (λ (m : List ℕ). size_of m (is_line_rest p.2.0)) digits_are
    ∙ rw (rest_complete l.extension p.2.0 p.2.2, is_some (length l.digits) p.1.1, is_few (length l.digits) p.1.2) refl

pub size_parses : (text : List ℕ) → ParsesSize text (size_in text)
size_parses text = by (size_in text) refl
  where
    by : (o : Option ℕ) → size_in text ≡ o → ParsesSize text o
    by (Some n) e = size_sound text n e
    by None e = λ l x. let both : None ≡ Some (chunk_size l) = sym e ∙ size_complete text l x in cc

-- the same, for each size
pub size_decided : (text : List ℕ) (n : ℕ) → (size_in text ≡ Some n) ↔ ((l : ChunkLine) × ReadsChunkLine text l [] × (n ≡ chunk_size l))
size_decided text n = (λ h. size_sound text n h, λ x. size_complete text x.0 x.1 ∙ ap Some (sym x.2))
