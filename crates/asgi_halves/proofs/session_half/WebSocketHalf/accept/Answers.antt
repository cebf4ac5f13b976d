use Rattle.asgi_halves.proofs.SessionSayLemmas.{accept_part, accept_short, accepted, passed_so}
use Rattle.asgi_halves.proofs.SessionWords.{Global, Vec, ap, has_upgraded, tries_front, ℕ, ◌∙◌}
use Rattle.asgi_halves.proofs.session_half.WebSocketHalf.accept.Goals as goal

pub returns-in_default-clause-speaks : goal.returns-in_default-clause-speaks
returns-in_default-clause-speaks g c scene read view before x pass judged = accept_short (passed_so c.args.event.now x c.requires.running pass judged) c.requires.accepts

pub returns-in-Some-clause-speaks : goal.returns-in-Some-clause-speaks
returns-in-Some-clause-speaks g c scene read view before x pass judged =
    let w = c.in-Some.ensures.some in
    accept_part (passed_so c.args.event.now x c.requires.running pass judged) c.requires.accepts c.deref.result.now (c.deref.ensures.value ∙ c.in-Ok.ensures.text) (g.L.Line.state c.write.new.line)
    c.in-Some.n w.0 (record { beside = c.write.ensures.reads; session = c.write.ensures.session; appends = w.1; rose = w.2; tries = tries_front _ _ c.in-Some.n _ w.0 c.in-Some.ensures.tries })

pub returns-clause-speaks : goal.returns-clause-speaks
returns-clause-speaks g c scene read view before x pass judged =
    let w = c.in_default-write.ensures.none in
    let call = c.upgrade.ensures in
    let u = has_upgraded g.L.Line g.L.Reads g.L.Counts g.L.Messages g.met.L.Line.state_is c.write.new.line c.upgrade.new.self c.replace.result.items call.keeps call.counts call.session call.text in
    accepted (passed_so c.args.event.now x c.requires.running pass judged) c.requires.accepts c.deref.result.now (c.deref.ensures.value ∙ c.in-Ok.ensures.text) (g.L.Line.state c.write.new.line)
    (record { beside = c.write.ensures.reads; session = c.write.ensures.session; appends = w.0; rose = w.1; tries = c.in_default-write.ensures.tries }) (g.L.Line.state c.upgrade.new.self)
    c.replace.new.dest c.replace.result.items (ap (λ (v : Vec ℕ Global). v.items) c.replace.ensures.value) u c.answer_with.new.self c.answer_with.ensures
