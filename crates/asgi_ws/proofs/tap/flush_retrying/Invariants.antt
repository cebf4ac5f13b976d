use Rattle.std.specs.Io.KnownBytes.{Keeps}
use Rattle.asgi_ws.specs.Streams as call
use Rattle.asgi_ws.specs.private.Taps.{Pauses}
use Rattle.asgi_ws.proofs.tap.flush_retrying.Given as goal

abbrev pub invariant-loop-tried : goal.invariant-loop-tried
invariant-loop-tried g l = record {
  kept : Keeps (g.S.Stream.contents l.fn.stream) (g.S.Stream.contents l.stream);
  paused : Pauses call.Flush (g.S.Stream.calls l.fn.stream) (g.S.Stream.calls l.stream) l._tried;
}
