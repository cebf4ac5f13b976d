-- The answers are lawful, whatever is known of the request.
use Rattle.std.proofs.Common.{◌≡◌, Bool, true, false, ℕ, List, [], ◌∷◌, refl, subst}
use Rattle.std.specs.Prelude.{codes}
use Rattle.std.proofs.lemmas.List.Sums.{AllPass-from_list_all}
use Rattle.http_header.specs.FieldName.{IsFieldName}
use Rattle.http_header.specs.FieldValue.{IsFieldValue}
use Rattle.http_header.specs.Token.{is_value_byte}
use Rattle.http_header.proofs.TokenLemmas.{IsFieldName-from_test}
use Rattle.asgi_types.specs.declared.scope.Kind.{Kind}
use Rattle.asgi_types.specs.declared.scope.Kind.TheVariants.{Http, WebSocket}
use Rattle.asgi_types.specs.declared.facts.Facts.{Facts}
use Rattle.asgi_types.specs.declared.outgoing.Outgoing.{Outgoing}
use Rattle.asgi_types.specs.declared.outgoing.Outgoing.TheVariants.{ResponseBody}
use Rattle.asgi_protocol.specs.declared.verdict.Verdict.TheVariants.{Pass}
use Rattle.asgi_protocol.specs.Lawful.{IsLawful}
use Rattle.asgi_protocol.specs.Laws.{EachPasses}
use Rattle.asgi_protocol.specs.Verdicts.{verdict_on}
use Rattle.asgi_protocol.proofs.LawLemmas.{lawful_where_each_passes}
use Rattle.asgi_apps.specs.Answers.{close_events, not_found_events, start_of, text_events}

pub content_type_is_a_name : IsFieldName (codes "content-type")
content_type_is_a_name = IsFieldName-from_test (codes "content-type") refl

pub content_length_is_a_name : IsFieldName (codes "content-length")
content_length_is_a_name = IsFieldName-from_test (codes "content-length") refl

pub text_plain_is_a_value : IsFieldValue (codes "text/plain")
text_plain_is_a_value = AllPass-from_list_all is_value_byte (codes "text/plain") refl

pub zero_is_a_value : IsFieldValue (codes "0")
zero_is_a_value = AllPass-from_list_all is_value_byte (codes "0") refl

abbrev passes_after : Kind → Facts → List Outgoing → Outgoing → Type 0
passes_after kind facts before event = verdict_on kind facts before false event ≡ Pass

pub one_passes : (kind : Kind) (facts : Facts) (x : Outgoing) → passes_after kind facts [] x → EachPasses kind facts (x ∷ [])
one_passes kind facts x p [] after event split = let same : x ≡ event = cc in subst (λ (e : Outgoing). passes_after kind facts [] e) same p
one_passes kind facts x p (b ∷ []) after event split = absurd cc
one_passes kind facts x p (b ∷ c ∷ rest) after event split = absurd cc

pub two_pass : (kind : Kind) (facts : Facts) (x y : Outgoing) → passes_after kind facts [] x → passes_after kind facts (x ∷ []) y → EachPasses kind facts (x ∷ y ∷ [])
two_pass kind facts x y p q [] after event split = let same : x ≡ event = cc in subst (λ (e : Outgoing). passes_after kind facts [] e) same p
two_pass kind facts x y p q (b ∷ []) after event split =
    let first : x ≡ b = cc in let same : y ≡ event = cc in
    subst (λ (s : Outgoing). passes_after kind facts (s ∷ []) event) first (subst (λ (e : Outgoing). passes_after kind facts (x ∷ []) e) same q)
two_pass kind facts x y p q (b ∷ c ∷ []) after event split = absurd cc
two_pass kind facts x y p q (b ∷ c ∷ d ∷ rest) after event split = absurd cc

text_passes : (facts : Facts) (head_only : Bool) (text : List ℕ) → facts.head_only ≡ head_only
    → passes_after Http facts (start_of 200 (codes "content-type") (codes "text/plain") ∷ []) (ResponseBody text false)
text_passes facts true text is = rw is refl
text_passes facts false text is = rw is refl

pub text_is_lawful : (text : List ℕ) (facts : Facts) → IsLawful Http facts (text_events text)
text_is_lawful text facts =
    (lawful_where_each_passes Http facts (text_events text)).1 (two_pass Http facts _ _ refl (text_passes facts facts.head_only text refl))

nothing_passes : (facts : Facts) (head_only : Bool) → facts.head_only ≡ head_only
    → passes_after Http facts (start_of 404 (codes "content-length") (codes "0") ∷ []) (ResponseBody [] false)
nothing_passes facts true is = rw is refl
nothing_passes facts false is = rw is refl

pub not_found_is_lawful : (facts : Facts) → IsLawful Http facts not_found_events
not_found_is_lawful facts =
    (lawful_where_each_passes Http facts not_found_events).1 (two_pass Http facts _ _ refl (nothing_passes facts facts.head_only refl))

pub close_is_lawful : (facts : Facts) → IsLawful WebSocket facts close_events
close_is_lawful facts = (lawful_where_each_passes WebSocket facts close_events).1 (one_passes WebSocket facts _ refl)
