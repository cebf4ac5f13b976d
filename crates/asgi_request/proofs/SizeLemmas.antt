-- A size line of the grammar has its one line feed at its end.
use Rattle.std.proofs.Common.{◌≡◌, ℕ, ◌+◌, ◌≤◌, Bool, true, false, List, [], ◌∷◌, ◌++◌, length, take, refl, sym, ap, ◌∙◌, append_assoc, arith, Option, Some, None}
use Rattle.std.specs.Prelude.{nat_le, ◌==◌, if◌then◌else◌}
use Rattle.std.specs.Char.{is_ascii_hexdigit}
use Rattle.std.proofs.lemmas.Bool.Decides.{nat_tests}
use Rattle.std.proofs.lemmas.List.{take-append-le, length-append}
use Rattle.std.proofs.lemmas.List.Elements.{All-head, All-tail}
use Rattle.std.proofs.Math.Seq.{take-length}
use Rattle.httparse.specs.Grammar.{AllPass, is_ows, is_extension_byte, ChunkLine, IsChunkLine, IsExtension, print_extension, print_chunk_line}
use Rattle.asgi_types.specs.declared.limits.Limits.{Limits}
use Rattle.asgi_request.specs.declared.place.Place.TheVariants.{SizeLine}
use Rattle.asgi_request.specs.Fronts.{found, too_long, more, line_len, front_at}
use Rattle.asgi_request.specs.Places.{front}

-- each byte is no line feed
abbrev pub NoFeed : List ℕ → Type 0
NoFeed [] = Unit {0}
NoFeed (b ∷ s) = ((b == 10) ≡ false) × NoFeed s

line_end : (s rest : List ℕ) → NoFeed s → line_len (s ++ 10 ∷ rest) ≡ Some (length s + 1)
line_end [] rest n = ap Some (omega arith)
line_end (b ∷ s) rest n = rw n.0 (ap (more 1) (line_end s rest n.1) ∙ ap Some (omega arith))

pub join : (s t : List ℕ) → NoFeed s → NoFeed t → NoFeed (s ++ t)
join [] t x y = y
join (b ∷ s) t x y = (x.0, join s t x.1 y)

pub passes : (test : ℕ → Bool) → ((b : ℕ) → test b ≡ true → (b == 10) ≡ false) → (s : List ℕ) → AllPass test s → NoFeed s
passes test on [] all = tt
passes test on (b ∷ s) all = (on b (All-head (λ v. test v ≡ true) b s all), passes test on s (All-tail (λ v. test v ≡ true) b s all))

digit_on : (b : ℕ) → is_ascii_hexdigit b ≡ true → (b == 10) ≡ false
digit_on b h = grind (arith, nat_tests)

ows_on : (b : ℕ) → is_ows b ≡ true → (b == 10) ≡ false
ows_on b h = grind (arith, nat_tests)

text_on : (b : ℕ) → is_extension_byte b ≡ true → (b == 10) ≡ false
text_on b h = grind (arith, nat_tests)

extension : (e : Option (List ℕ)) → IsExtension e → NoFeed (print_extension e)
extension None x = tt
extension (Some text) x = (refl, passes is_extension_byte text_on text x)

-- all of the line but its line feed
front_part : ChunkLine → List ℕ
front_part l = l.digits ++ (l.pad ++ (print_extension l.extension ++ 13 ∷ []))

splits : (l : ChunkLine) → print_chunk_line l ≡ front_part l ++ 10 ∷ []
unfolding print_chunk_line front_part
splits l = simp append_assoc

no_feed : (l : ChunkLine) → IsChunkLine l → NoFeed (front_part l)
unfolding front_part
no_feed l v =
    join l.digits _ (passes is_ascii_hexdigit digit_on l.digits v.digits.2)
    (join l.pad _ (passes is_ows ows_on l.pad v.pad) (join (print_extension l.extension) (13 ∷ []) (extension l.extension v.extension) (refl, tt)))

found_at : (text rest : List ℕ) (s : List ℕ) → text ≡ s ++ 10 ∷ [] → NoFeed s → length text ≤ 256 → front_at 256 (text ++ rest) (line_len (text ++ rest)) ≡ found text
found_at text rest s e none short =
    let joined : text ++ rest ≡ s ++ 10 ∷ rest = ap (λ (l : List ℕ). l ++ rest) e ∙ append_assoc s (10 ∷ []) rest in
    let size : length s + 1 ≡ length text = sym (ap length e ∙ length-append s (10 ∷ [])) in
    let at : line_len (text ++ rest) ≡ Some (length text) = ap line_len joined ∙ line_end s rest none ∙ ap Some size in
    ap (front_at 256 (text ++ rest)) at ∙ fits (nat_le (length text) 256) (within (length text) short)
    ∙ ap found (take-append-le (length text) text rest (omega arith) ∙ take_whole text)
  where
    within : (n : ℕ) → n ≤ 256 → nat_le n 256 ≡ true
    within n h = grind (arith, nat_tests)

    fits : (b : Bool) → b ≡ true → (if b then found (take (length text) (text ++ rest)) else too_long) ≡ found (take (length text) (text ++ rest))
    fits true h = refl
    fits false h = cc

    take_whole : (l : List ℕ) → take (length l) l ≡ l
    take_whole l = take-length l

pub size_front : (limits : Limits) (sum : ℕ) (l : ChunkLine) (rest : List ℕ) → IsChunkLine l → length (print_chunk_line l) ≤ 256
    → front limits (SizeLine sum) (print_chunk_line l ++ rest) ≡ found (print_chunk_line l)
size_front limits sum l rest v short = found_at (print_chunk_line l) rest (front_part l) (splits l) (no_feed l v) short
