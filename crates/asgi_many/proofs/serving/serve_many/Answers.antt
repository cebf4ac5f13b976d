use Rattle.std.proofs.Common.{◌∙◌, refl, arith}
use Rattle.asgi_many.specs.declared.serving.Served.TheVariants.{All, TooLong}
use Rattle.asgi_many.proofs.MoveLemmas as move
use Rattle.asgi_many.proofs.ServingLemmas as lemma
use Rattle.asgi_many.proofs.serving.serve_many.Goals as goal

pub loop-step-init : goal.loop-step-init
loop-step-init g c = record {
  going = lemma.begins _ _ _ _ _ _ _ _ _ _ _ _ c.in_ok-table.table c.in_ok-table.ensures.empty.2 (c.in_ok-table.ensures.holds c.args.app.now c.args.state.now);
  seats = move.begins _ _ _ c.in_ok-table.ensures.empty.0;
  asked = omega (arith);
  no_more = λ closed. lemma.asks_on closed;
  places = c.in_ok-table.ensures.empty.1;
  same_app = c.of-calls.ensures.app;
  kept = refl;
}

pub returns-then-is_empty-clause-serves : goal.returns-then-is_empty-clause-serves
returns-then-is_empty-clause-serves g c =
    lemma.serves _ _ _ _ _ _ _ _ _ _ _ _ _ _ _ All (λ all. c.if-is_empty.ensures.0 refl) (λ all. c.loop-step.invariant.no_more (c.if-is_closed.ensures.yes refl)) c.loop-step.invariant.going

pub step-intake-requires-clause-going : goal.step-intake-requires-clause-going
step-intake-requires-clause-going g c =
    (c.args.limits.now, g.N.Reactor.answers c.args.reactor.now, c.args.teller.now, rw c.loop-step.invariant.same_app c.loop-step.invariant.going)

pub step-intake-requires-clause-few : goal.step-intake-requires-clause-few
step-intake-requires-clause-few g c =
    lemma.few_came _ _ _ _ _ _ _ _ _ _ _ _ _ _ _ _ c.loop-step.invariant.asked c.loop-step-test.true c.loop-step.invariant.going

pub loop-step-preserved : goal.loop-step-preserved
loop-step-preserved g c = record {
  going = (rw c.loop-step.invariant.same_app at (c.step-intake.ensures.goes_on c.args.limits.now (g.N.Reactor.answers c.args.reactor.now) c.args.teller.now)) c.loop-step.invariant.going;
  seats = move.steps _ _ _ _ _ _ _ _ _ (rw c.loop-step.invariant.places at c.step-intake.ensures.seats) c.loop-step.invariant.seats;
  asked = omega (arith, c.loop-step.invariant.asked, c.step-intake.ensures.asked);
  no_more = λ closed. lemma.stays_closed _ _ _ _ c.loop-step.invariant.no_more
      (c.loop-step.invariant.going.sits.answers, c.loop-step.invariant.going.sits.asked) (c.step-intake.ensures.no_more closed);
  places = c.step-intake.ensures.places ∙ c.loop-step.invariant.places;
  same_app = c.step-intake.ensures.same ∙ c.loop-step.invariant.same_app;
  kept = c.step-intake.ensures.kept ∙ c.loop-step.invariant.kept;
}

pub returns-clause-serves : goal.returns-clause-serves
returns-clause-serves g c =
    lemma.serves _ _ _ _ _ _ _ _ _ _ _ _ _ _ _ TooLong (λ all. lemma.not_all all) (λ all. lemma.not_all all) c.loop-step.invariant.going

pub returns-then-is_empty-clause-seats : goal.returns-then-is_empty-clause-seats
returns-then-is_empty-clause-seats g c =
    move.keeps _ _ _ _ _ _ All c.loop-step.invariant.seats (λ all. (c.if-is_empty.ensures.0 refl, c.if-is_closed.ensures.yes refl)) (λ long. lemma.not_long long)

pub returns-clause-seats : goal.returns-clause-seats
returns-clause-seats g c = move.keeps _ _ _ _ _ _ TooLong c.loop-step.invariant.seats (λ all. lemma.not_all all) (λ long. omega (arith, c.loop-step-test.false, c.loop-step.auto._step-end))
