use Rattle.std.proofs.Common.{◌≡◌, [], ◌∷◌, ◌++◌, vec_len, refl, ap, sym, ◌∙◌, rules, subst}
use Rattle.std.proofs.lemmas.List.{nil_from_length}
use Rattle.crossbeam_channel.specs.Claims.{view}
use Rattle.asgi_desk.specs.declared.channel.Hand as desk
use Rattle.asgi_desk.specs.Seat.{knows}
use Rattle.asgi_crew.specs.declared.channel.Hand.{Hand}
use Rattle.asgi_crew.specs.declared.give.End.{End}
use Rattle.asgi_crew.specs.Ran.{last_of, Ran}
use Rattle.asgi_crew.specs.Shared.{InTurn}
use Rattle.asgi_crew.proofs.Turns.{all_ended, begun_at, none_started, one_more_at}
use Rattle.asgi_crew.proofs.run.+run.Goals as goal

pub returns-in_default-clause-ended : goal.returns-in_default-clause-ended
returns-in_default-clause-ended g t c =
    let none : vec_len c.args.crew ≡ 0 = search rules in
    let ended : Hand g.row.C.Denot → _ = λ h. h.ended in
    all_ended c.give_all-end.result _ _ c.give_all-end.ensures.begun
    (ap ended c.give_stops.ensures.gave ∙ ap ended c.give_all-end.ensures.part ∙ ap ended c.requires.may.0 ∙ sym none)

pub returns-in_default-clause-ran : goal.returns-in_default-clause-ran
returns-in_default-clause-ran g t c =
    let gave = c.give_stops.ensures.gave in let none : vec_len c.args.crew ≡ 0 = search rules in let none-2 : vec_len c.pop.new.self ≡ 0 = search rules in
    begun_at (g.E.Serves.serves c.args.common.now.how.now) _ _ _ _ _ _ (view c.give_all-end.new.pass) _
    (nil_from_length c.args.crew.items (sym c.args.crew.ok.0 ∙ none))
    (nil_from_length c.pop.new.self.items (sym c.pop.new.self.ok.0 ∙ none-2))
    (search rules)
    (ap (λ (h : Hand g.row.C.Denot). h.taken) c.give_all-end.ensures.part ∙ ap (λ (h : Hand g.row.C.Denot). h.taken) c.requires.may.0)
    c.give_all-end.ensures.answers c.give_all-end.ensures.numbers
    (ap (λ (h : Hand g.row.C.Denot). h.given) gave) (ap (λ (h : Hand g.row.C.Denot). h.taken) gave)

pub returns-in_default-clause-refused : goal.returns-in_default-clause-refused
returns-in_default-clause-refused g t c = λ e. absurd (c.give_all-end.ensures.begun e)

pub returns-in-Ok-clause-ran : goal.returns-in-Ok-clause-ran
returns-in-Ok-clause-ran g t c =
    let was : c.args.crew.items ≡ c.pop.new.self.items ++ c.in-Some.worker ∷ [] = search rules in
    let promised = c.in-Ok.ensures.promise in
    let worked = c.join-worked.result in
    let turn = subst (λ (e : g.row.E.Denot). InTurn (g.E.Serves.serves e) c.in-Some.worker worked.worker (view worked.pass).taken (knows worked.seat).put) promised.0
    (subst (λ (w : g.row.W.Denot). InTurn (g.E.Serves.serves c.in-Ok.child.promise.how.value) w worked.worker (view worked.pass).taken (knows worked.seat).put) promised.3 c.join-worked.ensures.3) in
    subst (λ (e : End). Ran (g.E.Serves.serves c.args.common.now.how.now) (g.E.Asks.answers c.args.giver.now) (g.E.Asks.answers c.run-so_far.new.giver) (last_of e) c.args.crew.items c.joined.result.crew.items (knows c.joined.result.seat).put (view c.joined.result.pass))
    (sym c.joined.ensures.same)
    (one_more_at (g.E.Serves.serves c.args.common.now.how.now) _ _ _ _ _ _ _ _ _ _ _ _ _ _ _ c.run-so_far.ensures.ran turn
    (ap (λ (h : Hand g.row.C.Denot). h.given) c.joined.ensures.pass) (ap (λ (h : Hand g.row.C.Denot). h.taken) c.joined.ensures.pass)
    (ap (λ (h : desk.Hand g.row.N.Denot g.row.T.Denot). h.put) c.joined.ensures.put) was c.joined.ensures.crew.0)

pub returns-in-Err-clause-ran : goal.returns-in-Err-clause-ran
returns-in-Err-clause-ran g t c =
    let was : c.args.crew.items ≡ c.pop.new.self.items ++ c.in-Some.worker ∷ [] = search rules in
    let stopped = c.in-Err.ensures.stopped in
    let given = ap (λ (h : Hand g.row.C.Denot). h.given) stopped ∙ ap (λ (h : Hand g.row.C.Denot). h.given) c.requires.may.0 in
    let taken = ap (λ (h : Hand g.row.C.Denot). h.taken) stopped ∙ ap (λ (h : Hand g.row.C.Denot). h.taken) c.requires.may.0 in
    let put = ap (λ (h : desk.Hand g.row.N.Denot g.row.T.Denot). h.put) c.start.ensures.left ∙ ap (λ (h : desk.Hand g.row.N.Denot g.row.T.Denot). h.put) c.requires.free.0 in
    let answers = g.E.Asks.answers c.args.giver.now in
    let none = none_started (g.E.Serves.serves c.args.common.now.how.now) answers answers c.pop.new.self.items (knows c.start.new.held.seat).put (view c.start.new.held.pass) refl put given taken in
    subst (λ (e : End). Ran (g.E.Serves.serves c.args.common.now.how.now) answers answers (last_of e) c.args.crew.items c.joined-in-Err.result.crew.items (knows c.joined-in-Err.result.seat).put (view c.joined-in-Err.result.pass))
    (sym c.joined-in-Err.ensures.same)
    (one_more_at (g.E.Serves.serves c.args.common.now.how.now) _ _ _ _ _ _ _ _ _ _ _ _ _ _ _ none c.in-Err.ensures.in_turn
    (ap (λ (h : Hand g.row.C.Denot). h.given) c.joined-in-Err.ensures.pass) (ap (λ (h : Hand g.row.C.Denot). h.taken) c.joined-in-Err.ensures.pass)
    (ap (λ (h : desk.Hand g.row.N.Denot g.row.T.Denot). h.put) c.joined-in-Err.ensures.put) was c.joined-in-Err.ensures.crew.0)
