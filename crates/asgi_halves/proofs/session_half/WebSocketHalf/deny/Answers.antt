use Rattle.asgi_halves.proofs.SessionSayLemmas.{denied_part, denied_short, denied_whole, from_ok, passed_so, text_before}
use Rattle.asgi_halves.proofs.SessionWords.{refl, said_in, sym, tries_front, ◌∙◌}
use Rattle.asgi_halves.proofs.session_half.WebSocketHalf.deny.Goals as goal

pub returns-then-is_err-clause-speaks : goal.returns-then-is_err-clause-speaks
returns-then-is_err-clause-speaks g c scene read view before x pass judged =
    denied_short (passed_so c.args.event.now x c.requires.running pass judged) c.requires.denies c.take.new.self (record c.args.self.now.wire { out = c.take.new.out }) refl

pub returns-in-Some-clause-speaks : goal.returns-in-Some-clause-speaks
returns-in-Some-clause-speaks g c scene read view before x pass judged =
    let p = passed_so c.args.event.now x c.requires.running pass judged in
    let ok = sym c.if-is_err.false ∙ c.is_err.ensures.value in
    let old = text_before p c.requires.denies in
    let w = c.in-Some.ensures.some in
    denied_part p c.requires.denies c.take.new.self c.put.new.self c.put.ensures.same (g.L.Line.state c.put.new.line) c.take.new.out.items
    (from_ok c.take.result ok c.take.ensures.denial scene.facts (said_in scene view) old judged.lawful)
    (from_ok c.take.result ok c.take.ensures.denial_text scene.facts (said_in scene view) old judged.lawful)
    c.in-Some.n w.0 (record { beside = c.put.ensures.reads; session = c.put.ensures.session; appends = w.1; rose = w.2; tries = tries_front _ _ c.in-Some.n _ w.0 c.in-Some.ensures.tries })

pub returns-in_default-clause-speaks : goal.returns-in_default-clause-speaks
returns-in_default-clause-speaks g c scene read view before x pass judged =
    let p = passed_so c.args.event.now x c.requires.running pass judged in
    let ok = sym c.if-is_err.false ∙ c.is_err.ensures.value in
    let old = text_before p c.requires.denies in
    let w = c.in_default.ensures.none in
    denied_whole p c.requires.denies c.take.new.self c.put.new.self c.put.ensures.same (g.L.Line.state c.put.new.line) c.take.new.out.items
    (from_ok c.take.result ok c.take.ensures.denial scene.facts (said_in scene view) old judged.lawful)
    (from_ok c.take.result ok c.take.ensures.denial_text scene.facts (said_in scene view) old judged.lawful)
    c.put.ensures.empty (record { beside = c.put.ensures.reads; session = c.put.ensures.session; appends = w.0; rose = w.1; tries = c.in_default.ensures.tries })
