use Rattle.std.proofs.Common.{arith, length, sym, ◌∙◌}
use Rattle.asgi_io.proofs.WriteLemmas.{part_moved, part_failed, part_ended}
use Rattle.asgi_io.proofs.write.write_retrying.Goals as goal

pub returns-in-Ok-clause-tries : goal.returns-in-Ok-clause-tries
returns-in-Ok-clause-tries g c =
    part_moved _ _ _ c.loop-tried._tried (length c.args.bytes.now) c.in-Ok.n c.write_some.result (omega (arith, c.loop-tried-test.true)) c.requires
    c.loop-tried.invariant.told c.write_some.ensures.told c.in-Ok.is

pub returns-then-not-is_passing-clause-tries : goal.returns-then-not-is_passing-clause-tries
returns-then-not-is_passing-clause-tries g c =
    part_failed _ _ _ c.loop-tried._tried (length c.args.bytes.now) c.write_some.result c.in-Err.e (omega (arith, c.loop-tried-test.true))
    c.loop-tried.invariant.told c.write_some.ensures.told c.in-Err.is (sym c.if-not-is_passing.true ∙ c.is_passing.ensures)

pub returns-in-Ok-write_some-clause-tries : goal.returns-in-Ok-write_some-clause-tries
returns-in-Ok-write_some-clause-tries g c =
    part_moved _ _ _ c.loop-tried._tried (length c.args.bytes.now) c.in-Ok-write_some.n c.write_some-2.result (omega (arith, c.loop-tried.auto._tried-end)) c.requires
    c.loop-tried.invariant.told c.write_some-2.ensures.told c.in-Ok-write_some.is

pub returns-in-Err-write_some-clause-tries : goal.returns-in-Err-write_some-clause-tries
returns-in-Err-write_some-clause-tries g c =
    part_ended _ _ _ c.loop-tried._tried (length c.args.bytes.now) c.write_some-2.result c.in-Err-write_some.field-0
    (omega (arith, c.loop-tried.auto._tried-end, c.loop-tried-test.false))
    c.loop-tried.invariant.told c.write_some-2.ensures.told c.in-Err-write_some.is
