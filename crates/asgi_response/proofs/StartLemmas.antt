-- A complete response begins with a lawful start.
use Rattle.std.proofs.Common.{◌≡◌, ℕ, ◌≤◌, true, List, ◌∷◌, ◌++◌, [], map, false, arith}
use Rattle.std.proofs.lemmas.Bool.Decides.{nat_tests}
use Rattle.std.specs.Prelude.{is_some}
use Rattle.asgi_types.specs.declared.facts.Facts.{Facts}
use Rattle.asgi_types.specs.declared.outgoing.Outgoing.{Outgoing}
use Rattle.asgi_types.specs.declared.outgoing.Outgoing.TheVariants.{ResponseStart, ResponseBody}
use Rattle.asgi_protocol.specs.Lawful.{IsResponse, trailer_events}
use Rattle.asgi_protocol.specs.Rules.{is_status}
use Rattle.asgi_protocol.proofs.PassLemmas.{not_false}
use Rattle.asgi_response.specs.Accepted.{accepted}
use Rattle.asgi_response.specs.Standing.{part}
use Rattle.asgi_response.proofs.LawfulLemmas.{accepted_is_lawful}

in_range : (status : ℕ) → is_status status ≡ true → (200 ≤ status) × (status ≤ 599)
in_range status h = (grind (arith, nat_tests, h), grind (arith, nat_tests, h))

-- its status is that of a final response
pub final_status : (facts : Facts) (events : List Outgoing) (r : IsResponse (accepted facts events)) → (200 ≤ r.status) × (r.status ≤ 599)
final_status facts events r =
    let rest : List Outgoing = map part r.parts ++ ResponseBody r.last false ∷ trailer_events r.trailers in
    let meets = (accepted_is_lawful facts events).each [] rest (ResponseStart r.status r.headers (is_some r.trailers)) r.in_order in
    in_range r.status (not_false (is_status r.status) meets.status)
