use Rattle.std.proofs.Common.{sym, ◌∙◌}
use Rattle.asgi_handlers.proofs.MakingLemmas.{content_type_is_a_name}
use Rattle.asgi_handlers.proofs.reply.Reply.new.Goals as goal

pub returns-in-Err-clause-failed : goal.returns-in-Err-clause-failed
returns-in-Err-clause-failed c =
    let has_content = sym c.has_no_content.ensures ∙ c.if-has_no_content.false in (
      λ failed. (has_content, λ value. c.push.ensures.failed.0 (cc (c.in-Err.is, failed)) (content_type_is_a_name, rw c.as_bytes.ensures.value value)),
      λ refused. let was = c.push.ensures.failed.1 (λ both. refused.1 (rw c.as_bytes.ensures.value at both.1)) in cc (c.in-Err.is, was),
    )
