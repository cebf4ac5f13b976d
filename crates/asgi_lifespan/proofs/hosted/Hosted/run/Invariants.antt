use Rattle.std.proofs.Common.{◌≡◌, ◌-◌, ◌⊎◌, List, None}
use Rattle.futures.specs.Task.{IsArmed, Keeps}
use Rattle.asgi_io.specs.declared.turns.Turn.{Turn}
use Rattle.asgi_io.specs.Turns.{CountsTurns}
use Rattle.asgi_lifespan.specs.Hosting.{Follows, got_of}
use Rattle.asgi_lifespan.specs.Turning.{HasTurned}
use Rattle.asgi_lifespan.proofs.hosted.Hosted.run.Given as goal

abbrev pub invariant-loop-word : goal.invariant-loop-word
invariant-loop-word g l = record {
  follows : Follows g.T.AppTask.stands g.T.AppTask.answers l.fn.self l.self;
  got : got_of l.self ≡ got_of l.fn.self;
  turn_limit : l.taken.turn_limit ≡ l.turns;
  idle_limit : l.taken.idle_limit ≡ l.idle_turns;
  turned : List Turn;
  took : HasTurned turned l.fn.self l.self;
  counts : CountsTurns l.turns l.idle_turns turned (g.P.Pause.count l.fn.pause) (g.P.Pause.count l.pause) l.taken.turns l.taken.idle;
  armed : l.self.ended ≡ None → (l.taken.turns ≡ 0) ⊎ IsArmed l.cx;
  kept : Keeps l.fn.cx l.cx;
}

abbrev pub decreases-loop-word : goal.decreases-loop-word
decreases-loop-word g l = l.taken.turn_limit - l.taken.turns
