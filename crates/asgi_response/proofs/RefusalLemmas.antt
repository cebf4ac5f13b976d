-- What follows from the promise of a call, and the texts of refusals.
use Rattle.std.proofs.Common.{◌≡◌, ℕ, Bool, false, List, [], ◌∷◌, ◌++◌, sym, ap, ◌∙◌, append_assoc, IsTrue, arith, Result, Ok, Err, OnOk, OnErr}
use Rattle.std.proofs.lemmas.List.{append-nil}
use Rattle.std.proofs.lemmas.Bool.Decides.{nat_tests}
use Rattle.std.specs.Prelude.{if◌then◌else◌, ◌==◌, codes, is_ok}
use Rattle.std.specs.Fmt.{decimal}
use Rattle.httparse.specs.Ascii.{space, crlf_bytes}
use Rattle.asgi_response.specs.StatusLine.{reason_phrase, status_line}
use Rattle.asgi_response.specs.Exchange.{closing_fields, upgrade_fields, refusal_text}
use Rattle.asgi_response.specs.Refusals.{is_refusal}

-- what follows from the promise of a call
pub then_ok : {T E P Q : Type 0} (r : Result T E) → OnOk r P → (P → Q) → OnOk r Q
then_ok (Ok u) h f = f h
then_ok (Err x) h f = tt

pub then_err : {T E P Q : Type 0} (r : Result T E) → OnErr r P → (P → Q) → OnErr r Q
then_err (Ok u) h f = tt
then_err (Err x) h f = f h

-- the same text in other words
pub ok_text : {E : Type 0} (r : Result (Unit {0}) E) (new a b : List ℕ) → OnOk r (new ≡ a) → a ≡ b → OnOk r (new ≡ b)
ok_text (Ok u) new a b h e = h ∙ e
ok_text (Err x) new a b h e = tt

pub extended : {E : Type 0} (r : Result (Unit {0}) E) (old new text : List ℕ) → new ≡ (if is_ok r then old ++ text else old) → OnOk r (new ≡ old ++ text)
extended (Ok u) old new text h = h
extended (Err x) old new text h = tt

seven_parts : (a b c d e f g : List ℕ) → a ++ (b ++ (c ++ (d ++ (e ++ (f ++ (g ++ [])))))) ≡ (a ++ b ++ (c ++ d) ++ e) ++ f ++ g
seven_parts a b c d e f g = simp (append_assoc, append-nil)

not_426 : (status : ℕ) → (status ≡ 426 → ⊥) → (status == 426) ≡ false
not_426 status h = grind (arith, nat_tests)

pub refused : (status : ℕ) (code reason : List ℕ) → (status ≡ 426 → ⊥) → code ≡ decimal status → reason ≡ reason_phrase status
    → codes "HTTP/1.1 " ++ (code ++ ((space ∷ []) ++ (reason ++ (crlf_bytes ++ (closing_fields ++ (crlf_bytes ++ [])))))) ≡ refusal_text status
refused status code reason h cc' rr =
    seven_parts (codes "HTTP/1.1 ") code (space ∷ []) reason crlf_bytes closing_fields crlf_bytes
    ∙ ap (λ (x : List ℕ). (codes "HTTP/1.1 " ++ x ++ (space ∷ reason) ++ crlf_bytes) ++ closing_fields ++ crlf_bytes) cc'
    ∙ ap (λ (x : List ℕ). (codes "HTTP/1.1 " ++ decimal status ++ (space ∷ x) ++ crlf_bytes) ++ closing_fields ++ crlf_bytes) rr
    ∙ sym (ap (λ (b : Bool). status_line status ++ (if b then upgrade_fields else closing_fields) ++ crlf_bytes) (not_426 status h))

pub only_500 : (s : ℕ) → IsTrue (is_refusal s) → (s ≡ 400 → ⊥) → (s ≡ 403 → ⊥) → (s ≡ 413 → ⊥) → (s ≡ 426 → ⊥) → (s ≡ 431 → ⊥) → (s ≡ 501 → ⊥) → s ≡ 500
only_500 s h a b c d e f = grind (arith, nat_tests)
