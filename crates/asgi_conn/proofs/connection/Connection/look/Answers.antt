use Rattle.std.proofs.Common.{refl}
use Rattle.asgi_conn.specs.Places.{place_of}
use Rattle.asgi_conn.proofs.TurnLemmas as lemma
use Rattle.asgi_conn.proofs.connection.Connection.look.Goals as goal

pub returns-then-has_ended-clause-over : goal.returns-then-has_ended-clause-over
returns-then-has_ended-clause-over g c limits start before s =
    lemma.told s c.report.ensures

pub move_on-requires-clause-stands : goal.move_on-requires-clause-stands
move_on-requires-clause-stands g c = let r = c.requires in (c.args.calls.now.app.now, r.0, r.1, (c.go_on.ensures.stands r.0 r.1 r.2 (g.P.Pause.count c.args.pause.now) r.3).serving)

pub returns-in-None-clause-stands : goal.returns-in-None-clause-stands
returns-in-None-clause-stands g c limits start before s =
    let m = c.go_on.ensures.stands limits start before (g.P.Pause.count c.args.pause.now) s in
    lemma.stands_none c.go_on.new.self (c.move_on.ensures.serves c.args.calls.now.app.now limits start m.serving) m.counted c.move_on.ensures.tally (c.in-None.ensures.none refl)

pub returns-in-None-clause-over : goal.returns-in-None-clause-over
returns-in-None-clause-over g c limits start before s =
    let m = c.go_on.ensures.stands limits start before (g.P.Pause.count c.args.pause.now) s in
    lemma.told (lemma.stands_none c.go_on.new.self (c.move_on.ensures.serves c.args.calls.now.app.now limits start m.serving) m.counted
    c.move_on.ensures.tally (c.in-None.ensures.none refl)) c.report-in-None.ensures

pub returns-in-Nothing-clause-stands : goal.returns-in-Nothing-clause-stands
returns-in-Nothing-clause-stands g c limits start before s =
    let m = c.go_on.ensures.stands limits start before (g.P.Pause.count c.args.pause.now) s in
    record {
      serving = c.move_on.ensures.serves c.args.calls.now.app.now limits start m.serving;
      counted = lemma.counted_rest (place_of c.move_on.new.self) c.go_on.new.self.tally c.move_on.new.self.tally m.counted c.in-Some.ensures.some.0 c.in-Some.ensures.some.1
          c.move_on.ensures.tally (c.in-Nothing.ensures.nothing refl).1;
    }

pub returns-in-Something-clause-stands : goal.returns-in-Something-clause-stands
returns-in-Something-clause-stands g c limits start before s =
    let m = c.go_on.ensures.stands limits start before (g.P.Pause.count c.args.pause.now) s in
    record {
      serving = lemma.turned refl refl (c.move_on.ensures.serves c.args.calls.now.app.now limits start m.serving);
      counted = lemma.counted_more c.counts_as-counted.result (rw (← c.move_on.ensures.tally) at m.counted) c.in-Some.ensures.some.0 c.in-Some.ensures.some.1
          refl c.take.ensures.one c.take.ensures.turn_limit c.take.ensures.idle_limit c.take.ensures.counts;
    }
