use Rattle.std.proofs.Common.{◌≡◌, ◌++◌, ◌-◌, ◌⊎◌, ℕ, List}
use Rattle.std.specs.Prelude.{◌<◌}
use Rattle.asgi_io.specs.{declared.turns.Turn.Turn, Turns.CountsTurns}
use Rattle.asgi_exchange.specs.Calls.{IsViewOf}
use Rattle.asgi_run.specs.{AnyHalf.PreservesOn, Limits.IsSettled}
use Rattle.asgi_run.proofs.turning.run_on.Given as goal

abbrev pub invariant-loop-runner : goal.invariant-loop-runner
invariant-loop-runner g l = record {
  leads : PreservesOn g.H.Half.stands (g.L.Line.state l.fn.line) l.fn.half (IsViewOf g.R.Pipes.Conn.ConnEnd l.fn.end)
      (g.L.Line.state l.line) l.half (IsViewOf g.R.Pipes.Conn.ConnEnd (g.R.Runner.conn l.exchange));
  began : g.R.Runner.began l.exchange l.fn.side;
  limited : g.R.Runner.limited l.exchange l.fn.turns.turn_limit l.fn.turns.idle_limit (g.R.Runner.pauses l.fn.runner) (g.R.Runner.driven l.fn.runner);
  met : g.R.Runner.not_met l.runner ≡ g.R.Runner.not_met l.fn.runner;
  turn_limit : l.turns.turn_limit ≡ l.fn.turns.turn_limit;
  idle_limit : l.turns.idle_limit ≡ l.fn.turns.idle_limit;
  turned : ((g.H.Half.following l.half ≡ g.H.Half.following l.fn.half) × (l.turns.turns ≡ l.fn.turns.turns)) ⊎ (l.fn.turns.turns < l.turns.turns);
  settled : IsSettled (g.H.Half.following l.fn.half) → (l.half ≡ l.fn.half) × (l.turns.turns ≡ l.fn.turns.turns);
  counts : (turned : List Turn) (pauses : ℕ) → CountsTurns l.fn.turns.turn_limit l.fn.turns.idle_limit turned pauses (g.P.Pause.count l.fn.pause) l.fn.turns.turns l.fn.turns.idle
      → (more : List Turn) × CountsTurns l.fn.turns.turn_limit l.fn.turns.idle_limit (turned ++ more) pauses (g.P.Pause.count l.pause) l.turns.turns l.turns.idle;
}

abbrev pub decreases-loop-runner : goal.decreases-loop-runner
decreases-loop-runner g l = l.turns.turn_limit - l.turns.turns
