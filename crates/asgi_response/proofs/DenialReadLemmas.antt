-- A whole denial is read back, as the response that it is.
use Rattle.std.proofs.Common.{◌≡◌, ℕ, true, false, None, List, [], ◌∷◌, ◌++◌, map, refl, ap, sym, ◌∙◌, subst}
use Rattle.std.proofs.lemmas.List.Elements.{All-nil}
use Rattle.std.specs.List.{concat, filter}
use Rattle.std.specs.Prelude.{All, codes, if◌then◌else◌}
use Rattle.asgi_types.specs.Fields.{HeaderField}
use Rattle.asgi_types.specs.declared.facts.Facts.{Facts}
use Rattle.asgi_types.specs.declared.outgoing.Outgoing.{Outgoing}
use Rattle.asgi_types.specs.declared.outgoing.Outgoing.TheVariants.{ResponseStart, DenialStart, DenialBody}
use Rattle.asgi_types.specs.declared.scope.Kind.TheVariants.{WebSocket}
use Rattle.asgi_protocol.specs.Lawful.{IsResponse, IsDenial, IsLawful}
use Rattle.asgi_response.specs.Accepted.{accepted}
use Rattle.asgi_response.specs.Content.{has_content}
use Rattle.asgi_response.specs.Denial.{closing_facts, as_response, denial_text}
use Rattle.asgi_response.specs.Fields.{is_shown, is_chunked}
use Rattle.asgi_response.specs.ReadBack.{IsSendable}
use Rattle.asgi_response.specs.ReadBackBody.{IsSized, IsRead, DenialIsReadBack}
use Rattle.asgi_response.specs.Response.{message_text}
use Rattle.asgi_response.proofs.DenialLemmas.{is_lawful_response, same_parts}
use Rattle.asgi_response.proofs.LawfulLemmas.{lawful_is_accepted}
use Rattle.asgi_response.proofs.ReadBackBodyLemmas.{response_is_read_back}

abbrev denial : ℕ → List HeaderField → List (List ℕ) → List ℕ → List Outgoing
denial status headers parts last = DenialStart status headers ∷ map (λ part. DenialBody part true) parts ++ DenialBody last false ∷ []

is_read : (facts : Facts) (status : ℕ) (headers : List HeaderField) (parts : List (List ℕ)) (last : List ℕ)
    → IsLawful WebSocket facts (denial status headers parts last) → All IsSendable headers → All IsSized (parts ++ last ∷ [])
    → has_content facts.head_only status ≡ true
    → IsRead (closing_facts facts) (denial_text facts (denial status headers parts last)) status headers (concat (parts ++ last ∷ [])) []
is_read facts status headers parts last lawful clean sized has =
    let closing : Facts = closing_facts facts in
    let said : List Outgoing = map as_response (denial status headers parts last) in
    let whole : accepted closing said ≡ said =
    lawful_is_accepted closing said (is_lawful_response facts status headers (map (λ part. DenialBody part true) parts ++ DenialBody last false ∷ []) lawful) in
    let r : IsResponse (accepted closing said) = record {
      status = status;
      headers = headers;
      parts = parts;
      last = last;
      trailers = None;
      in_order = whole ∙ ap (λ (w : List Outgoing). ResponseStart status headers false ∷ w) (same_parts parts last);
    } in
    subst (λ (l : List Outgoing). IsRead closing (message_text closing l) status headers (concat (parts ++ last ∷ [])) []) whole
    (response_is_read_back closing said r clean (All-nil IsSendable) sized has)

read : (facts : Facts) (events : List Outgoing) (d : IsDenial events) → IsLawful WebSocket facts events
    → All IsSendable d.headers → All IsSized (d.parts ++ d.last ∷ []) → has_content facts.head_only d.status ≡ true
    → IsRead (closing_facts facts) (denial_text facts events) d.status d.headers (concat (d.parts ++ d.last ∷ [])) []
read facts events d lawful clean sized has =
    subst (λ (l : List Outgoing). IsRead (closing_facts facts) (denial_text facts l) d.status d.headers (concat (d.parts ++ d.last ∷ [])) []) (sym d.in_order)
    (is_read facts d.status d.headers d.parts d.last (subst (IsLawful WebSocket facts) d.in_order lawful) clean sized has)

pub denial_is_read_back : DenialIsReadBack
denial_is_read_back = record {
  read = read;
  closing = λ facts status headers.
      let own : List HeaderField = filter (λ f. is_shown status f.name) headers in
      let framed : List HeaderField = if is_chunked facts.version status headers then (record { name = codes "transfer-encoding"; value = codes "chunked" }) ∷ [] else [] in
      (own ++ framed, refl);
}
