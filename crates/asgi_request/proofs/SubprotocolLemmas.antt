-- The tokens of a value are those of its first part, and then those of the rest; a token is a text.
use Rattle.std.proofs.Common.{◌≡◌, ℕ, ◌+◌, ◌<◌, ◌≤◌, Bool, true, false, ◌&&◌, List, [], ◌∷◌, ◌++◌, length, length-take, take, drop, take-append-drop, get_or, flat_map, refl, ap, ◌∙◌, sym, subst, All, Some, None, arith, append-nil, append_assoc, Result, Ok, Err, OnErr}
use Rattle.std.specs.Prelude.{◌==◌, bytes_eq, codes, if◌then◌else◌}
use Rattle.std.specs.Str.{IsUtf8}
use Rattle.std.specs.List.{list_all}
use Rattle.std.proofs.lemmas.Bool.Decides.{nat_tests}
use Rattle.std.proofs.lemmas.Str.{IsUtf8-from_ascii}
use Rattle.std.proofs.lemmas.Str.Ascii.{IsAscii-from_all}
use Rattle.std.proofs.lemmas.List.Sums.{AllPass-from_list_all}
use Rattle.std.proofs.lemmas.List.{drop_more, get_or-take, take_all}
use Rattle.std.proofs.lemmas.List.Elements.{All-from_get_or}
use Rattle.std.proofs.lemmas.List.Splits.{slice_split_at, slice_split_none}
use Rattle.memchr.specs.Find.{IsFirstByte, Nowhere, Passes, is_byte}
use Rattle.httparse.specs.Ascii.{comma}
use Rattle.httparse.specs.Grammar.{is_token, is_token_byte, IsToken, trim_ows}
use Rattle.asgi_types.specs.Fields.{HeaderField}
use Rattle.asgi_request.specs.Upgrade.{parts_of, subprotocols_of, token_of, tokens_of}
use Rattle.asgi_request.proofs.MethodLemmas.{token_text}

-- ---- a token is a text

both_hold : (a b : Bool) → (a && b) ≡ true → (a ≡ true) × (b ≡ true)
both_hold true b h = (refl, h)
both_hold false b h = cc h

is_token_of_test : (part : List ℕ) → is_token part ≡ true → IsToken part
is_token_of_test part test =
    let both = both_hold _ (list_all is_token_byte part) test in
    (grind (arith, nat_tests, both.0), AllPass-from_list_all is_token_byte part both.1)

pub token_is_text : (part : List ℕ) → is_token part ≡ true → IsUtf8 part
token_is_text part test = IsUtf8-from_ascii part (IsAscii-from_all part (token_text part (is_token_of_test part test)))

-- ---- parts

abbrev is_comma : ℕ → Bool
is_comma b = b == comma

is_false : (b : Bool) → ¬ (b ≡ true) → b ≡ false
is_false true h = absurd (h refl)
is_false false h = refl

no_comma : (value : List ℕ) (n : ℕ) → n ≤ length value → Nowhere (Passes (is_byte comma) value) 0 n → All (λ b. is_comma b ≡ false) (take n value)
no_comma value n inside none =
    All-from_get_or (λ b. is_comma b ≡ false) (take n value) 0 (λ i low.
    let below : i < n = omega (arith, low, length-take n value) in
    rw (get_or-take n value i 0 below) (is_false _ (none i (omega arith) below)))

-- the first part ends at the first comma
pub parts_at : (value : List ℕ) (i : ℕ) → IsFirstByte (is_byte comma) value (Some i) → parts_of value ≡ take i value ∷ parts_of (drop (i + 1) value)
parts_at value i found =
    let split : value ≡ take i value ++ get_or value i 0 ∷ drop (i + 1) value =
    sym (take-append-drop i value) ∙ ap (λ (rest : List ℕ). take i value ++ rest) (drop_more value i 0 found.0.high) in
    ap parts_of split ∙ slice_split_at is_comma (take i value) (get_or value i 0) (drop (i + 1) value) (no_comma value i (omega (arith, found.0.high)) found.0.before) found.1

pub parts_whole : (value : List ℕ) → IsFirstByte (is_byte comma) value None → parts_of value ≡ value ∷ []
parts_whole value none =
    slice_split_none is_comma value (subst (All (λ b. is_comma b ≡ false)) (take_all (length value) value (omega arith)) (no_comma value (length value) (omega arith) none))

-- the tokens of a part
abbrev of_part : List ℕ → List (List ℕ)
of_part part = token_of (trim_ows part)

pub tokens_of_cut : (value part after : List ℕ) → parts_of value ≡ part ∷ parts_of after → tokens_of value ≡ of_part part ++ tokens_of after
tokens_of_cut value part after cut = ap (λ (parts : List (List ℕ)). flat_map of_part parts) cut

pub tokens_of_last : (value : List ℕ) → parts_of value ≡ value ∷ [] → tokens_of value ≡ of_part value
tokens_of_last value last = ap (λ (parts : List (List ℕ)). flat_map of_part parts) last ∙ append-nil (of_part value)

pub token_is_there : (part : List ℕ) → is_token part ≡ true → token_of part ≡ part ∷ []
token_is_there part test = rw test refl

-- more tokens are there than none
pub some_token : (done first rest all : List (List ℕ)) (part : List ℕ) → first ≡ part ∷ [] → all ≡ done ++ (first ++ rest) → ¬ (all ≡ [])
some_token [] first rest all part f e none = cc (f, e, none)
some_token (x ∷ done) first rest all part f e none = cc (e, none)

-- ---- fields

abbrev protocol_name : List ℕ
protocol_name = codes "sec-websocket-protocol"

-- a field of the name gives its tokens, before those of the fields after it
pub named_field : (f : HeaderField) (fields after : List HeaderField) (before all : List (List ℕ)) → fields ≡ f ∷ after → bytes_eq f.name protocol_name ≡ true
    → all ≡ before ++ subprotocols_of fields → all ≡ (before ++ tokens_of f.value) ++ subprotocols_of after
named_field f fields after before all cons named split =
    split
    ∙ ap (λ (l : List HeaderField). before ++ subprotocols_of l) cons
    ∙ ap (λ (b : Bool). before ++ ((if b then tokens_of f.value else []) ++ subprotocols_of after)) named
    ∙ sym (append_assoc before (tokens_of f.value) (subprotocols_of after))

middle_is_nil : (a b c : List (List ℕ)) → (a ++ b) ++ c ≡ [] → b ≡ []
middle_is_nil [] [] c none = refl
middle_is_nil [] (x ∷ b) c none = cc none
middle_is_nil (x ∷ a) b c none = cc none

pub some_are_offered : (before tokens after all : List (List ℕ)) → all ≡ (before ++ tokens) ++ after → ¬ (tokens ≡ []) → ¬ (all ≡ [])
some_are_offered before tokens after all split some_there none = some_there (middle_is_nil before tokens after (sym split ∙ none))

pub on_err : {A E : Type 0} {P : Type 0} (r : Result A E) → P → OnErr r P
on_err (Ok a) p = tt
on_err (Err e) p = p
