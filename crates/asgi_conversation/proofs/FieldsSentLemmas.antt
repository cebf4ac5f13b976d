-- What the fields that were sent mean for the content: that it is chunked, that the connection closes, and its length.
use Rattle.std.proofs.Common.{◌≡◌, ℕ, Bool, true, false, List, [], ◌∷◌, ◌++◌, refl, sym, ap, ◌∙◌, append-nil, append_assoc}
use Rattle.std.proofs.lemmas.Slice.Eq.{bytes_eq-Decides}
use Rattle.std.proofs.lemmas.List.Folds.{list_any-append}
use Rattle.std.specs.Prelude.{◌&&◌, ◌||◌, not, codes, bytes_eq, ◌==◌, if◌then◌else◌}
use Rattle.std.specs.List.{filter}
use Rattle.httparse.specs.Grammar.{trim_ows}
use Rattle.asgi_types.specs.Fields.{HeaderField}
use Rattle.asgi_types.specs.Tokens.{has_token, is_listed, lists_token}
use Rattle.asgi_protocol.specs.ContentLengths.{values_of, length_of_values, content_length}
use Rattle.asgi_response.specs.Content.{has_content}
use Rattle.asgi_response.specs.Fields.{is_shown}
use Rattle.asgi_response.specs.ReadBack.{fields_sent}
use Rattle.asgi_conversation.specs.ReadResponses.{says_chunked, says_close}

-- the application's fields that are shown, and the server's
abbrev shown : ℕ → List HeaderField → List HeaderField
shown status headers = filter (λ f. is_shown status f.name) headers

abbrev coding : Bool → List HeaderField
coding chunked = if chunked then (record { name = codes "transfer-encoding"; value = codes "chunked" }) ∷ [] else []

abbrev closing_field : Bool → List HeaderField
closing_field closing = if closing then (record { name = codes "connection"; value = codes "close" }) ∷ [] else []

joined : (chunked closing : Bool) (status : ℕ) (headers : List HeaderField) → fields_sent chunked closing status headers ≡ shown status headers ++ (coding chunked ++ closing_field closing)
joined chunked closing status headers = append_assoc (shown status headers) (coding chunked) (closing_field closing)

-- ---- tokens

has_either : (a b : List HeaderField) (name token : List ℕ) → has_token (a ++ b) name token ≡ (has_token a name token || has_token b name token)
has_either a b name token = list_any-append (λ (f : HeaderField). is_listed f name token) a b

-- a name that is shown is none of the server's
own_names : (a b c : Bool) → (not a && not b && not c) ≡ true → (a ≡ false) × (b ≡ false)
own_names true b c h = cc
own_names false true c h = cc
own_names false false c h = (refl, refl)

none_listed : (status : ℕ) (name token : List ℕ) → ((own : List ℕ) → is_shown status own ≡ true → bytes_eq own name ≡ false) → (headers : List HeaderField)
    → has_token (shown status headers) name token ≡ false
none_listed status name token other [] = refl
none_listed status name token other (f ∷ headers) = by (is_shown status f.name) refl (none_listed status name token other headers)
  where
    by : (b : Bool) → is_shown status f.name ≡ b → has_token (shown status headers) name token ≡ false
        → has_token (if b then f ∷ shown status headers else shown status headers) name token ≡ false
    by true e rest = ap (λ (c : Bool). (c && lists_token f.value token) || has_token (shown status headers) name token) (other f.name e) ∙ rest
    by false e rest = rest

own_coding : (a b : Bool) → has_token (coding a ++ closing_field b) (codes "transfer-encoding") (codes "chunked") ≡ a
unfolding trim_ows
own_coding true true = refl
own_coding true false = refl
own_coding false true = refl
own_coding false false = refl

own_close : (a b : Bool) → has_token (coding a ++ closing_field b) (codes "connection") (codes "close") ≡ b
unfolding trim_ows
own_close true true = refl
own_close true false = refl
own_close false true = refl
own_close false false = refl

pub chunked_said : (chunked closing : Bool) (status : ℕ) (headers : List HeaderField) → says_chunked (fields_sent chunked closing status headers) ≡ chunked
chunked_said chunked closing status headers =
    ap says_chunked (joined chunked closing status headers)
    ∙ has_either (shown status headers) (coding chunked ++ closing_field closing) (codes "transfer-encoding") (codes "chunked")
    ∙ ap (λ (b : Bool). b || has_token (coding chunked ++ closing_field closing) (codes "transfer-encoding") (codes "chunked"))
    (none_listed status (codes "transfer-encoding") (codes "chunked")
    (λ own h. (own_names (bytes_eq own (codes "transfer-encoding")) (bytes_eq own (codes "connection")) (status == 204 && bytes_eq own (codes "content-length")) h).0) headers)
    ∙ own_coding chunked closing

pub close_said : (chunked closing : Bool) (status : ℕ) (headers : List HeaderField) → says_close (fields_sent chunked closing status headers) ≡ closing
close_said chunked closing status headers =
    ap says_close (joined chunked closing status headers)
    ∙ has_either (shown status headers) (coding chunked ++ closing_field closing) (codes "connection") (codes "close")
    ∙ ap (λ (b : Bool). b || has_token (coding chunked ++ closing_field closing) (codes "connection") (codes "close"))
    (none_listed status (codes "connection") (codes "close")
    (λ own h. (own_names (bytes_eq own (codes "transfer-encoding")) (bytes_eq own (codes "connection")) (status == 204 && bytes_eq own (codes "content-length")) h).1) headers)
    ∙ own_close chunked closing

-- ---- the length

values_join : (a b : List HeaderField) (name : List ℕ) → values_of (a ++ b) name ≡ values_of a name ++ values_of b name
values_join [] b name = refl
values_join (f ∷ a) b name = by (bytes_eq f.name name) (values_join a b name)
  where
    by : (c : Bool) → values_of (a ++ b) name ≡ values_of a name ++ values_of b name
        → (if c then f.value ∷ values_of (a ++ b) name else values_of (a ++ b) name) ≡ (if c then f.value ∷ values_of a name else values_of a name) ++ values_of b name
    by true e = ap (λ (l : List (List ℕ)). f.value ∷ l) e
    by false e = e

-- a name that is left out gives no length, but in a 204
left_out : (own : List ℕ) (a b c d : Bool) → bytes_eq own (codes "transfer-encoding") ≡ a → bytes_eq own (codes "connection") ≡ b → (d && c) ≡ false → (not a && not b && not (d && c)) ≡ false
    → bytes_eq own (codes "content-length") ≡ false
left_out own true b c d x y n h =
    let same = (bytes_eq-Decides own (codes "transfer-encoding")).0 x in ap (λ (l : List ℕ). bytes_eq l (codes "content-length")) same
left_out own false true c d x y n h =
    let same = (bytes_eq-Decides own (codes "connection")).0 y in ap (λ (l : List ℕ). bytes_eq l (codes "content-length")) same
left_out own false false c d x y n h = let t : not (d && c) ≡ true = ap not n in let both : true ≡ false = sym t ∙ h in absurd (cc both)

never : (a b : Bool) → a ≡ false → (a && b) ≡ false
never true b h = cc
never false b h = refl

shown_values : (status : ℕ) → (status == 204) ≡ false → (headers : List HeaderField) → values_of (shown status headers) (codes "content-length") ≡ values_of headers (codes "content-length")
shown_values status some [] = refl
shown_values status some (f ∷ headers) = by (is_shown status f.name) refl (shown_values status some headers)
  where
    by : (b : Bool) → is_shown status f.name ≡ b → values_of (shown status headers) (codes "content-length") ≡ values_of headers (codes "content-length")
        → values_of (if b then f ∷ shown status headers else shown status headers) (codes "content-length")
        ≡ (if bytes_eq f.name (codes "content-length") then f.value ∷ values_of headers (codes "content-length") else values_of headers (codes "content-length"))
    by true e rest = ap (λ (l : List (List ℕ)). if bytes_eq f.name (codes "content-length") then f.value ∷ l else l) rest
    by false e rest =
        let other = left_out f.name (bytes_eq f.name (codes "transfer-encoding")) (bytes_eq f.name (codes "connection")) (bytes_eq f.name (codes "content-length")) (status == 204) refl refl
        (never (status == 204) (bytes_eq f.name (codes "content-length")) some) e in
        rest ∙ sym (ap (λ (b : Bool). if b then f.value ∷ values_of headers (codes "content-length") else values_of headers (codes "content-length")) other)

not_204 : (head_only a b : Bool) → (not head_only && not (a || b)) ≡ true → a ≡ false
not_204 true a b h = cc
not_204 false true b h = cc
not_204 false false b h = refl

pub length_said : (chunked closing head_only : Bool) (status : ℕ) (headers : List HeaderField) → has_content head_only status ≡ true
    → content_length (fields_sent chunked closing status headers) ≡ content_length headers
length_said chunked closing head_only status headers has =
    ap content_length (joined chunked closing status headers)
    ∙ ap length_of_values
    (values_join (shown status headers) (coding chunked ++ closing_field closing) (codes "content-length")
    ∙ ap (λ (l : List (List ℕ)). values_of (shown status headers) (codes "content-length") ++ l) (by chunked closing)
    ∙ append-nil (values_of (shown status headers) (codes "content-length"))
    ∙ shown_values status (not_204 head_only (status == 204) (status == 304) has) headers)
  where
    by : (a b : Bool) → values_of (coding a ++ closing_field b) (codes "content-length") ≡ []
    by true true = refl
    by true false = refl
    by false true = refl
    by false false = refl
