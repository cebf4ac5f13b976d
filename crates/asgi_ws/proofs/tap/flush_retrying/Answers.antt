use Rattle.std.proofs.Common.{arith, sym, ◌∙◌}
use Rattle.asgi_ws.specs.Streams as call
use Rattle.asgi_ws.proofs.TapLemmas.{keeps_more, pause_more, tried}
use Rattle.asgi_ws.proofs.tap.flush_retrying.Goals as goal

pub loop-tried-preserved : goal.loop-tried-preserved
loop-tried-preserved g c = record {
  kept = keeps_more _ (g.S.Stream.contents c.loop-tried.stream) (g.S.Stream.contents c.flush_parts.new.self) c.loop-tried.invariant.kept c.in-Err.ensures.bytes;
  paused =
      pause_more call.Flush _ _ (g.S.Stream.calls c.flush_parts.new.self) c.loop-tried._tried c.flush_parts.result c.in-Err.e c.loop-tried.invariant.paused
      c.flush_parts.ensures.told c.in-Err.is (sym c.if-not-is_passing.false ∙ c.is_passing.ensures);
}

pub returns-in-Ok-clause-tries : goal.returns-in-Ok-clause-tries
returns-in-Ok-clause-tries g c =
    tried call.Flush _ _ (g.S.Stream.calls c.flush_parts.new.self) c.loop-tried._tried c.flush_parts.result _ c.loop-tried.invariant.paused (omega (arith, c.loop-tried-test.true))
    c.flush_parts.ensures.told c.in-Ok.is

pub returns-then-not-is_passing-clause-tries : goal.returns-then-not-is_passing-clause-tries
returns-then-not-is_passing-clause-tries g c =
    tried call.Flush _ _ (g.S.Stream.calls c.flush_parts.new.self) c.loop-tried._tried c.flush_parts.result _ c.loop-tried.invariant.paused (omega (arith, c.loop-tried-test.true))
    c.flush_parts.ensures.told c.in-Err.is
