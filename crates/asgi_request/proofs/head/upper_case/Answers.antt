use Rattle.asgi_request.proofs.MethodLemmas.{upper_text}
use Rattle.asgi_request.proofs.head.upper_case.Goals as goal

pub text_of-requires : goal.text_of-requires
text_of-requires c = upper_text c.args.text.now c.in_ok-bytes.bytes.items c.requires c.in_ok-bytes.ensures
