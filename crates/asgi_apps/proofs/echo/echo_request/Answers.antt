use Rattle.asgi_apps.proofs.AnswerLemmas.{content_type_is_a_name}
use Rattle.asgi_apps.proofs.EchoSteps.{octet_stream_is_a_value}
use Rattle.asgi_apps.proofs.echo.echo_request.Goals as goal

pub start-requires : goal.start-requires
start-requires c = record { name = content_type_is_a_name; value = octet_stream_is_a_value }
