use Rattle.asgi_apps.proofs.AnswerLemmas.{content_type_is_a_name, text_plain_is_a_value}
use Rattle.asgi_apps.proofs.responses.line_response.Goals as goal

pub response_of-requires : goal.response_of-requires
response_of-requires c = record { name = content_type_is_a_name; value = text_plain_is_a_value }
