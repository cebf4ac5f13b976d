use Rattle.asgi_halves.specs.private.HalfSteps.{HasAsked}
use Rattle.asgi_halves.proofs.HalfEndLemmas.{Dropped}
use Rattle.asgi_halves.proofs.half.HttpHalf.drop_rest.Given as goal

abbrev pub invariant-loop-event : goal.invariant-loop-event
invariant-loop-event l = record {
  dropped : Dropped l.fn.self l.self;
  asked : HasAsked l.self;
}
