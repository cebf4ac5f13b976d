-- A head with neither a length nor a coding has no body.
use Rattle.std.proofs.Common.{◌≡◌, ◌||◌, ℕ, Bool, true, false, List, [], ◌∷◌, Ok, refl, arith, ◌∙◌, cond}
use Rattle.std.proofs.lemmas.List.Sums.{sum_by-cons}
use Rattle.std.specs.Prelude.{codes, bytes_eq}
use Rattle.std.specs.List.{list_any}
use Rattle.asgi_types.specs.Fields.{HeaderField}
use Rattle.asgi_types.specs.declared.outgoing.HttpVersion.{HttpVersion}
use Rattle.asgi_types.specs.declared.facts.Framing.TheVariants.{Length}
use Rattle.asgi_request.specs.FieldValues.{count_named, value_named}
use Rattle.asgi_request.specs.BodyLength.{body_length}
use Rattle.asgi_request.specs.private.Steps.{is_delimiter}

all_false : (p q r : Bool) → ((p || q) || r) ≡ false → (p ≡ false) × ((q ≡ false) × (r ≡ false))
all_false true q r e = cc
all_false false true r e = cc
all_false false false r e = (refl, (refl, e))

not_counted : (f : HeaderField) (fields : List HeaderField) (name : List ℕ) → bytes_eq f.name name ≡ false → count_named fields name ≡ 0
    → count_named (f ∷ fields) name ≡ 0
not_counted f fields name other none =
    sum_by-cons (λ (x : HeaderField). cond (bytes_eq x.name name) 1 0) f fields ∙ rw (other) omega (arith, none)

no_value : (f : HeaderField) (fields : List HeaderField) (name : List ℕ) → bytes_eq f.name name ≡ false → value_named fields name ≡ []
    → value_named (f ∷ fields) name ≡ []
no_value f fields name other none = rw (other) none

no_coding : (fields : List HeaderField) → list_any (λ (f : HeaderField). is_delimiter f.name) fields ≡ false → count_named fields (codes "transfer-encoding") ≡ 0
no_coding [] none = refl
no_coding (f ∷ fields) none =
    let s = all_false (bytes_eq f.name (codes "content-length")) (bytes_eq f.name (codes "transfer-encoding")) (list_any (λ (f : HeaderField). is_delimiter f.name) fields) none in
    not_counted f fields (codes "transfer-encoding") s.1.0 (no_coding fields s.1.1)

no_length : (fields : List HeaderField) → list_any (λ (f : HeaderField). is_delimiter f.name) fields ≡ false
    → (count_named fields (codes "content-length") ≡ 0) × (value_named fields (codes "content-length") ≡ [])
no_length [] none = (refl, refl)
no_length (f ∷ fields) none =
    let s = all_false (bytes_eq f.name (codes "content-length")) (bytes_eq f.name (codes "transfer-encoding")) (list_any (λ (f : HeaderField). is_delimiter f.name) fields) none in
    let later = no_length fields s.1.1 in
    (not_counted f fields (codes "content-length") s.0 later.0, no_value f fields (codes "content-length") s.0 later.1)

-- without a length and a coding there is no body
pub no_body : (version : HttpVersion) (fields : List HeaderField) (most : ℕ) → list_any (λ (f : HeaderField). is_delimiter f.name) fields ≡ false
    → body_length version fields most ≡ Ok (Length 0)
no_body version fields most none =
    let length = no_length fields none in
    rw (length.0, no_coding fields none, length.1) refl
