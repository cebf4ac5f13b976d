use Rattle.std.proofs.Common.{refl, sym, ap, ◌∙◌, ◌+◌}
use Rattle.asgi_io.specs.declared.turns.Turns.{Turns}
use Rattle.asgi_conn.specs.declared.tally.Tally.{Tally}
use Rattle.asgi_conn.proofs.TurnLemmas as lemma
use Rattle.asgi_conn.proofs.connection.Connection.turn.Goals as goal

pub returns-then-has_ended-clause-over : goal.returns-then-has_ended-clause-over
returns-then-has_ended-clause-over g c limits start before s =
    lemma.told s c.report.ensures

pub move_on-requires-clause-stands : goal.move_on-requires-clause-stands
move_on-requires-clause-stands g c = let r = c.requires in (c.args.calls.now.app.now, r.0, r.1, (c.go_on.ensures.stands r.0 r.1 r.2 (g.P.Pause.count c.args.pause.now) r.3).serving)

pub returns-in-None-clause-stands : goal.returns-in-None-clause-stands
returns-in-None-clause-stands g c limits start before s =
    let m = c.go_on.ensures.stands limits start before (g.P.Pause.count c.args.pause.now) s in
    lemma.stands_none c.go_on.new.self (c.move_on.ensures.serves c.args.calls.now.app.now limits start m.serving) m.counted c.move_on.ensures.tally (c.in-None.ensures.none refl)

pub returns-in-None-clause-over : goal.returns-in-None-clause-over
returns-in-None-clause-over g c limits start before s =
    let m = c.go_on.ensures.stands limits start before (g.P.Pause.count c.args.pause.now) s in
    lemma.told (lemma.stands_none c.go_on.new.self (c.move_on.ensures.serves c.args.calls.now.app.now limits start m.serving) m.counted
    c.move_on.ensures.tally (c.in-None.ensures.none refl)) c.report-in-None.ensures

pub returns-in-Some-clause-stands : goal.returns-in-Some-clause-stands
returns-in-Some-clause-stands g c limits start before s =
    let m = c.go_on.ensures.stands limits start before (g.P.Pause.count c.args.pause.now) s in
    record {
      serving = lemma.turned refl refl (c.move_on.ensures.serves c.args.calls.now.app.now limits start m.serving);
      counted = lemma.counted_more c.counts_as-counted.result (rw (← c.move_on.ensures.tally) at m.counted) c.in-Some.ensures.some.0 c.in-Some.ensures.some.1
          refl c.take.ensures.one c.take.ensures.turn_limit c.take.ensures.idle_limit c.take.ensures.counts;
    }

pub returns-in-Some-clause-row : goal.returns-in-Some-clause-row
returns-in-Some-clause-row g c is =
    let r = c.requires in
    let m = c.go_on.ensures.stands r.0 r.1 r.2 (g.P.Pause.count c.args.pause.now) r.3 in
    lemma.row_more c.counts_as-counted.result (rw (← c.move_on.ensures.tally) at m.counted) c.take.ensures.counts (sym c.step_of.ensures.step ∙ is)
    ∙ ap (λ n. n + 1) (ap (λ (t : Tally). t.turns.idle) c.move_on.ensures.tally ∙ ap (λ (t : Turns). t.idle) c.go_on.ensures.turns)
