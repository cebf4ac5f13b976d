use Rattle.std.proofs.Common.{List, ℕ, ap, sym, ◌++◌, ◌∙◌}
use Rattle.std.specs.Fmt.{digits}
use Rattle.asgi_response.specs.Exchange as spec
use Rattle.std.specs.Vec.{vec_len, vec_capacity}
use Rattle.asgi_response.proofs.RefusalLemmas.{ok_text, extended, refused}
use Rattle.asgi_response.proofs.RoomLemmas.{err_text}
use Rattle.asgi_response.proofs.refusal.append_refusal.Goals as goal

pub returns-then-status-eq426-clause-ok : goal.returns-then-status-eq426-clause-ok
unfolding digits
returns-then-status-eq426-clause-ok c =
    ok_text c.extend_from_slice.result c.extend_from_slice.new.self.items (c.args.out.now.items ++ spec.refusal_text 426) (c.args.out.now.items ++ spec.refusal_text c.args.status)
    (extended c.extend_from_slice.result c.args.out.now.items c.extend_from_slice.new.self.items (spec.refusal_text 426) c.extend_from_slice.ensures.items)
    (ap (λ s. c.args.out.now.items ++ spec.refusal_text s) (sym c.if-status-eq426.true))

pub returns-clause-ok : goal.returns-clause-ok
returns-clause-ok c =
    ok_text c.append_all.result c.append_all.new.out.items _ (c.args.out.now.items ++ spec.refusal_text c.args.status) c.append_all.ensures.ok
    (ap (λ (x : List ℕ). c.args.out.now.items ++ x)
    (refused c.args.status c.as_bytes-code.result.now c.as_bytes-reason.result.now c.if-status-eq426.false
    (c.as_bytes-code.ensures.value ∙ c.format.ensures.text) (c.as_bytes-reason.ensures.value ∙ c.reason_phrase.ensures)))

pub returns-then-status-eq426-clause-full : goal.returns-then-status-eq426-clause-full
unfolding digits
returns-then-status-eq426-clause-full c =
    err_text c.extend_from_slice.result (vec_capacity c.args.out.now) (vec_len c.args.out.now) (spec.refusal_text 426) (spec.refusal_text c.args.status)
    c.extend_from_slice.ensures.full (ap spec.refusal_text (sym c.if-status-eq426.true))

pub returns-clause-full : goal.returns-clause-full
returns-clause-full c =
    err_text c.append_all.result (vec_capacity c.args.out.now) (vec_len c.args.out.now) _ (spec.refusal_text c.args.status) c.append_all.ensures.full
    (refused c.args.status c.as_bytes-code.result.now c.as_bytes-reason.result.now c.if-status-eq426.false
    (c.as_bytes-code.ensures.value ∙ c.format.ensures.text) (c.as_bytes-reason.ensures.value ∙ c.reason_phrase.ensures))
