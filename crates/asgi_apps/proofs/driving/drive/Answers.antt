use Rattle.std.proofs.Common.{[], ◌∷◌, ◌++◌, Option, Some, inl, inr, refl, ◌∙◌, subst}
use Rattle.asgi_io.specs.declared.turns.Turn.TheVariants.{Last}
use Rattle.asgi_types.specs.declared.end_kind.EndKind.TheVariants.{Idle}
use Rattle.asgi_apps.specs.Ends.{own_end}
use Rattle.asgi_apps.specs.declared.running.Lent.{Lent}
use Rattle.asgi_apps.proofs.EndLemmas.{Polled, not_polled, polled_again, ended_further, answered_further, so_far}
use Rattle.asgi_apps.proofs.PauseLemmas.{counts_more, paused_for_each}
use Rattle.asgi_apps.proofs.TurnLemmas.{counts_row, goes_on, polled_on, starts, took}
use Rattle.asgi_apps.proofs.driving.drive.Goals as goal

pub loop-driven-init : goal.loop-driven-init
loop-driven-init g c = record {
  polled = subst (λ (l : Option (Lent _ _)). Polled g.E.AppEnd g.T.AppTask.stands g.T.AppTask.answers c.args.running.lent l) c.new-driven.ensures.lent
      (not_polled g.E.AppEnd g.T.AppTask.stands g.T.AppTask.answers c.args.running.lent c.requires);
  took = starts g.E.AppEnd c.args.running.lent c.new-driven.result c.new-driven.ensures.lent c.new-driven.ensures.none;
  turn_limit = c.new-taken.ensures.turn_limit;
  idle_limit = c.new-taken.ensures.idle_limit;
  counts = rw c.new-driven.ensures.none.0 (c.new-taken.ensures.none (g.P.Pause.count c.args.pause.now));
  kept = λ fact h. h;
}

pub returns-in-Ends-clause-end : goal.returns-in-Ends-clause-end
returns-in-Ends-clause-end g c =
    rw (c.give_back.ensures.kind.0, c.give_back.ensures.same.1)
    (ended_further g.E.AppEnd g.T.AppTask.stands g.T.AppTask.answers c.args.running.lent (Some c.loop-driven.driven.lent) (Some c.in-Ends.kind) c.turn.new.self.lent.app_end
    c.loop-driven.invariant.polled c.in-Ends.ensures.ends)

pub returns-in-Ends-clause-answers : goal.returns-in-Ends-clause-answers
returns-in-Ends-clause-answers g c =
    rw (c.give_back.ensures.kind.0, c.give_back.ensures.same.1)
    (answered_further g.E.AppEnd g.T.AppTask.stands g.T.AppTask.answers c.args.running.lent (Some c.loop-driven.driven.lent) _ _ (own_end c.in-Ends.kind)
    c.loop-driven.invariant.polled c.in-Ends.ensures.answers)

pub returns-in-Ends-clause-turns : goal.returns-in-Ends-clause-turns
returns-in-Ends-clause-turns g c =
    let inv = c.loop-driven.invariant in
    rw (c.give_back.ensures.kind.0, c.give_back.ensures.kind.1) (record {
      turned = c.loop-driven.driven.did.items ++ Last ∷ [];
      idle = c.take-in-Ends.new.self.idle;
      counts = counts_more c.args.turns c.args.idle_turns _ _ _ _ _ _ _ _ _ c.loop-driven.driven.did.items Last inv.turn_limit inv.idle_limit inv.counts c.take-in-Ends.ensures.counts;
      stopped = λ idle. absurd (c.in-Ends.ensures.not_idle idle);
    })

pub returns-in-Ends-clause-did : goal.returns-in-Ends-clause-did
returns-in-Ends-clause-did g c =
    let inv = c.loop-driven.invariant in
    rw (c.give_back.ensures.kind.1, c.give_back.ensures.same.2, c.in-Ends.ensures.turn.did)
    (counts_row _ _ _ _ _ _ _
    (counts_more c.args.turns c.args.idle_turns _ _ _ _ _ _ _ _ _ c.loop-driven.driven.did.items Last inv.turn_limit inv.idle_limit inv.counts c.take-in-Ends.ensures.counts))

pub returns-in-Ends-clause-took : goal.returns-in-Ends-clause-took
returns-in-Ends-clause-took g c =
    rw (c.give_back.ensures.same.1, c.give_back.ensures.same.2, c.give_back.ensures.same.3)
    (took g.E.AppEnd c.args.running.lent c.turn.new.self c.turn.new.self.lent.app_end (refl, refl, refl)
    (goes_on g.E.AppEnd c.args.running.lent Last c.loop-driven.driven c.turn.new.self c.in-Ends.ensures.turn c.loop-driven.invariant.took))

pub loop-driven-preserved : goal.loop-driven-preserved
loop-driven-preserved g c =
    let inv = c.loop-driven.invariant in
    let was = c.loop-driven.driven in
    let is = c.turn.new.self in
    record {
      polled = polled_again g.E.AppEnd g.T.AppTask.stands g.T.AppTask.answers c.args.running.lent (Some was.lent) (Some is.lent) inv.polled
          (polled_on g.E.AppEnd g.T.AppTask.stands g.T.AppTask.answers was.lent is.lent c.in-Runs.ensures.runs);
      took = goes_on g.E.AppEnd c.args.running.lent c.in-Runs.turn was is c.in-Runs.ensures.turn inv.took;
      turn_limit = c.take.ensures.turn_limit ∙ inv.turn_limit;
      idle_limit = c.take.ensures.idle_limit ∙ inv.idle_limit;
      counts = rw c.in-Runs.ensures.turn.did (counts_more c.args.turns c.args.idle_turns _ _ _ _ _ _ _ _ _ was.did.items c.in-Runs.turn inv.turn_limit inv.idle_limit inv.counts c.take.ensures.counts);
      kept = λ fact h. c.turn.ensures.kept fact (inv.kept fact h);
    }

pub returns-clause-end : goal.returns-clause-end
returns-clause-end g c =
    rw c.stop.ensures.kind.0
    (ended_further g.E.AppEnd g.T.AppTask.stands g.T.AppTask.answers c.args.running.lent (Some c.loop-driven.driven.lent) (Some Idle) c.stop.result.app_end
    c.loop-driven.invariant.polled c.stop.ensures.end)

pub returns-clause-answers : goal.returns-clause-answers
returns-clause-answers g c =
    rw c.stop.ensures.kind.0
    (answered_further g.E.AppEnd g.T.AppTask.stands g.T.AppTask.answers c.args.running.lent (Some c.loop-driven.driven.lent) _ _ (own_end Idle) c.loop-driven.invariant.polled
    (so_far g.E.AppEnd g.T.AppTask.stands g.T.AppTask.answers g.met.T.AppTask.keeps (Some c.loop-driven.driven.lent) c.stop.result.app_end c.loop-driven.invariant.polled.may
    (c.stop.ensures.still.0, c.stop.ensures.still.2)))

pub returns-clause-did : goal.returns-clause-did
returns-clause-did g c =
    rw (c.stop.ensures.kind.1, c.stop.ensures.same.1) (counts_row _ _ _ _ _ _ _ c.loop-driven.invariant.counts)

pub returns-clause-took : goal.returns-clause-took
returns-clause-took g c =
    rw (c.stop.ensures.same.1, c.stop.ensures.same.2)
    (took g.E.AppEnd c.args.running.lent c.loop-driven.driven c.stop.result.app_end c.stop.ensures.still c.loop-driven.invariant.took)

pub returns-clause-idle : goal.returns-clause-idle
returns-clause-idle g c idle =
    let inv = c.loop-driven.invariant in
    elim (c.is_over.ensures.0 c.loop-driven-test.false) [
      | inl turns ↦ inr (c.stop.ensures.kind.1 ∙ turns ∙ inv.turn_limit)
      | inr row ↦ inl (paused_for_each _ _ _ _ _ _ c.loop-driven.driven.did.items inv.counts (row ∙ inv.idle_limit))
    ]
