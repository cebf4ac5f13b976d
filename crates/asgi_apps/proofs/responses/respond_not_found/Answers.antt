use Rattle.asgi_apps.proofs.AnswerLemmas.{content_length_is_a_name, not_found_is_lawful, zero_is_a_value}
use Rattle.asgi_apps.proofs.SayLemmas.{granted_gives}
use Rattle.asgi_apps.proofs.responses.respond_not_found.Goals as goal

pub response_of-requires : goal.response_of-requires
response_of-requires c = record { name = content_length_is_a_name; value = zero_is_a_value }

pub returns-clause-gives : goal.returns-clause-gives
returns-clause-gives c =
    let made = c.new.ensures.items in
    granted_gives c.response_of.result c.granted.result _ _ c.granted.ensures.ok (rw made at c.response_of.ensures) not_found_is_lawful
