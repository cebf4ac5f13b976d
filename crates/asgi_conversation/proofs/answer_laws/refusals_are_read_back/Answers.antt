use Rattle.asgi_conversation.proofs.ReadRefusalLemmas.{refusal_is_read}
use Rattle.asgi_conversation.proofs.answer_laws.refusals_are_read_back.Goals as goal

pub returns : goal.returns
returns c status more h = refusal_is_read status h more
