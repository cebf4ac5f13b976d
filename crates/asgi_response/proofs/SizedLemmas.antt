-- The bodies of a complete response that has content are as long as its content-length.
use Rattle.std.proofs.Common.{◌≡◌, ℕ, ◌+◌, Bool, true, false, List, [], ◌∷◌, ◌++◌, length, map, sym, ◌∙◌, subst, length-append, arith}
use Rattle.std.proofs.lemmas.Bool.Decides.{nat_tests}
use Rattle.std.specs.List.{concat}
use Rattle.std.specs.Prelude.{not, ◌&&◌, nat_lt, if◌then◌else◌, Option, Some, None, is_some}
use Rattle.asgi_types.specs.declared.facts.Facts.{Facts}
use Rattle.asgi_types.specs.declared.outgoing.Outgoing.{Outgoing}
use Rattle.asgi_types.specs.declared.outgoing.Outgoing.TheVariants.{ResponseStart, ResponseBody}
use Rattle.asgi_protocol.specs.BytesLeft.{is_above, is_below}
use Rattle.asgi_protocol.specs.ContentLengths.{content_length}
use Rattle.asgi_protocol.specs.Lawful.{IsResponse, trailer_events}
use Rattle.asgi_protocol.specs.Rules.{given_length, has_no_content, promised_length, body_bytes}
use Rattle.asgi_response.specs.Accepted.{accepted}
use Rattle.asgi_response.specs.Content.{has_content}
use Rattle.asgi_response.specs.Standing.{part}
use Rattle.asgi_response.proofs.LawfulLemmas.{accepted_is_lawful}

promised_is : (head_only bare : Bool) (given : Option ℕ) (n : ℕ) → (not head_only && not bare) ≡ true → given ≡ Some n
    → (if head_only then None else (if bare then None else given)) ≡ Some n
promised_is true bare given n h e = cc
promised_is false true given n h e = cc
promised_is false false given n h e = e

bytes_sent : (parts : List (List ℕ)) (last : List ℕ) → body_bytes (map part parts) + length last ≡ length (concat (parts ++ last ∷ []))
bytes_sent [] last = omega (arith, length-append last [])
bytes_sent (p ∷ parts) last = omega (arith, bytes_sent parts last, length-append p (concat (parts ++ last ∷ [])))

neither : (total n : ℕ) → nat_lt n total ≡ false → (true && nat_lt total n) ≡ false → total ≡ n
neither total n much little = grind (arith, nat_tests, much, little)

as_promised : (total n : ℕ) (promised : Option ℕ) → promised ≡ Some n → is_above total promised ≡ false → (true && is_below total promised) ≡ false → total ≡ n
as_promised total n promised e much little =
    neither total n (subst (λ (o : Option ℕ). is_above total o ≡ false) e much) (subst (λ (o : Option ℕ). (true && is_below total o) ≡ false) e little)

pub content_is_sized : (facts : Facts) (events : List Outgoing) (r : IsResponse (accepted facts events)) → has_content facts.head_only r.status ≡ true
    → (n : ℕ) → given_length (content_length r.headers) ≡ Some n → length (concat (r.parts ++ r.last ∷ [])) ≡ n
content_is_sized facts events r has n given =
    let before : List Outgoing = ResponseStart r.status r.headers (is_some r.trailers) ∷ map part r.parts in
    let meets = (accepted_is_lawful facts events).each before (trailer_events r.trailers) (ResponseBody r.last false) r.in_order in
    let promised : promised_length facts before ≡ Some n = promised_is facts.head_only (has_no_content r.status) (given_length (content_length r.headers)) n has given in
    sym (bytes_sent r.parts r.last)
    ∙ as_promised (body_bytes before + length r.last) n (promised_length facts before) promised meets.not_too_much meets.not_too_little
