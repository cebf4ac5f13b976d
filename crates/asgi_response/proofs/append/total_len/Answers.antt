use Rattle.std.proofs.Common.{◌^◌}
use Rattle.asgi_response.proofs.RoomLemmas.{too_long, on_err}
use Rattle.asgi_response.proofs.append.total_len.Goals as goal

pub returns-in_err-total-clause-err : goal.returns-in_err-total-clause-err
returns-in_err-total-clause-err c =
    on_err c.from_residual.result
    (too_long c.args.texts.now c.loop-text.text-index _ (2 ^ 64) c.loop-text.total c.checked_add.result c.ok_or.result _
    c.loop-text-test.true c.loop-text.invariant c.checked_add.ensures c.ok_or.ensures.variant c.in_err-total.was)
