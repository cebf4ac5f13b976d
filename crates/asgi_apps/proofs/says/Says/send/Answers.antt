use Rattle.std.proofs.Common.{refl}
use Rattle.asgi_apps.proofs.SayLemmas.{ignored_is_no_pass, refused_is_no_pass}
use Rattle.asgi_apps.proofs.says.Says.send.Goals as goal

pub returns-in-Ignored-clause-failed : goal.returns-in-Ignored-clause-failed
returns-in-Ignored-clause-failed g c =
    let said = c.in-Ignored.ensures.verdict in
    (refl, said.1, record { event = c.in-Some.event; rest = _; is_next = c.in-Some.ensures.some; not_passed = ignored_is_no_pass _ said.0 })

pub returns-clause-failed : goal.returns-clause-failed
returns-clause-failed g c =
    let said = c.in-Refused.ensures.verdict in
    (refl, said.2, record { event = c.in-Some.event; rest = _; is_next = c.in-Some.ensures.some; not_passed = refused_is_no_pass _ _ said.0 })
