use Rattle.std.proofs.Common.{arith, sym, ◌∙◌}
use Rattle.asgi_ws.specs.Streams as call
use Rattle.asgi_ws.proofs.TapLemmas.{keeps_more, pause_more, tried}
use Rattle.asgi_ws.proofs.tap.write_retrying.Goals as goal

pub loop-tried-preserved : goal.loop-tried-preserved
loop-tried-preserved g c = record {
  kept = keeps_more _ (g.S.Stream.contents c.loop-tried.stream) (g.S.Stream.contents c.write_part.new.self) c.loop-tried.invariant.kept c.in-Err.ensures.bytes;
  paused =
      pause_more (call.Write c.args.bytes.now) _ _ (g.S.Stream.calls c.write_part.new.self) c.loop-tried._tried c.write_part.result c.in-Err.e c.loop-tried.invariant.paused
      c.write_part.ensures.told c.in-Err.is (sym c.if-not-is_passing.false ∙ c.is_passing.ensures);
}

pub returns-in-Ok-clause-tries : goal.returns-in-Ok-clause-tries
returns-in-Ok-clause-tries g c =
    tried (call.Write c.args.bytes.now) _ _ (g.S.Stream.calls c.write_part.new.self) c.loop-tried._tried c.write_part.result _ c.loop-tried.invariant.paused (omega (arith, c.loop-tried-test.true))
    c.write_part.ensures.told c.in-Ok.is

pub returns-then-not-is_passing-clause-tries : goal.returns-then-not-is_passing-clause-tries
returns-then-not-is_passing-clause-tries g c =
    tried (call.Write c.args.bytes.now) _ _ (g.S.Stream.calls c.write_part.new.self) c.loop-tried._tried c.write_part.result _ c.loop-tried.invariant.paused (omega (arith, c.loop-tried-test.true))
    c.write_part.ensures.told c.in-Err.is
