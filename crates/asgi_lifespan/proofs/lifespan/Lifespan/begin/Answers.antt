use Rattle.std.proofs.Common.{◌≤◌, [], ◌∷◌, ◌++◌, length, ℕ, List, Option, Some, refl, sym, ap, ◌∙◌, subst, arith}
use Rattle.asgi_types.specs.declared.incoming.Incoming.{Incoming}
use Rattle.asgi_types.specs.declared.incoming.Incoming.TheVariants.{LifespanStartup}
use Rattle.asgi_types.specs.declared.outgoing.Outgoing.{Outgoing}
use Rattle.asgi_pipes.specs.declared.items.OutItem.{OutItem}
use Rattle.asgi_pipes.specs.declared.items.OutItem.TheVariants.{Event}
use Rattle.asgi_lifespan.specs.declared.hosted.Word.{Word}
use Rattle.asgi_lifespan.specs.declared.lifespan.Start.TheVariants.{Unsupported, Idle}
use Rattle.asgi_lifespan.specs.Hosting.{Tells, said_by, turns_in as turns_of}
use Rattle.asgi_lifespan.specs.Lifespan.{start_answer}
use Rattle.asgi_lifespan.specs.Starting.{IsAnswer}
use Rattle.asgi_lifespan.specs.Turning.{TakesTurns}
use Rattle.asgi_lifespan.proofs.WordLemmas.{said_none}
use Rattle.asgi_lifespan.proofs.StartLemmas.{begun}
use Rattle.asgi_lifespan.proofs.StopLemmas.{answers_startup, said_one}
use Rattle.asgi_lifespan.proofs.lifespan.Lifespan.begin.Goals as goal

pub offer-requires-clause-hosted : goal.offer-requires-clause-hosted
offer-requires-clause-hosted g c = c.requires.hosted

pub offer-requires-clause-first : goal.offer-requires-clause-first
offer-requires-clause-first g c = subst (λ (l : List Incoming). length l ≤ 1) (sym c.requires.silent.0) (omega arith)

pub run-requires-clause-hosted : goal.run-requires-clause-hosted
run-requires-clause-hosted g c = c.offer.ensures.hosted

pub run-requires-clause-awaits : goal.run-requires-clause-awaits
run-requires-clause-awaits g c = rw (c.offer.ensures.offered, c.offer.ensures.got, c.requires.silent.0, c.requires.silent.1) refl

pub answered-requires-clause-hosted : goal.answered-requires-clause-hosted
answered-requires-clause-hosted g c = c.run.ensures.follows.hosted

pub answered-requires-clause-offered : goal.answered-requires-clause-offered
answered-requires-clause-offered g c =
    c.run.ensures.follows.offered ∙ c.offer.ensures.offered ∙ ap (λ (l : List Incoming). l ++ LifespanStartup ∷ []) c.requires.silent.0

pub answered-requires-clause-got : goal.answered-requires-clause-got
answered-requires-clause-got g c =
    subst (λ (w : Word). Tells c.offer.new.self c.run.new.self (Some w)) c.in-Said.is c.run.ensures.tells
    ∙ ap (λ (l : List OutItem). l ++ Event c.in-Said.event ∷ []) (c.offer.ensures.got ∙ c.requires.silent.1)

pub answered-requires-clause-answers : goal.answered-requires-clause-answers
answered-requires-clause-answers g c =
    let got = subst (λ (w : Word). Tells c.offer.new.self c.run.new.self (Some w)) c.in-Said.is c.run.ensures.tells
    ∙ ap (λ (l : List OutItem). l ++ Event c.in-Said.event ∷ []) (c.offer.ensures.got ∙ c.requires.silent.1) in
    answers_startup g.T.AppTask.stands g.T.AppTask.answers c.run.new.self c.in-Said.event c.run.ensures.follows.hosted got

pub returns-in-Said-clause-starts : goal.returns-in-Said-clause-starts
returns-in-Said-clause-starts g c =
    let last = c.run.new.self in
    let got = subst (λ (w : Word). Tells c.offer.new.self last (Some w)) c.in-Said.is c.run.ensures.tells
    ∙ ap (λ (l : List OutItem). l ++ Event c.in-Said.event ∷ []) (c.offer.ensures.got ∙ c.requires.silent.1) in
    let said = said_one g.T.AppTask.stands last c.in-Said.event c.run.ensures.follows.hosted got in
    let told = ap turns_of c.in-Said.is ∙ sym c.answered.ensures.turns in
    begun g.met.T.AppTask.keeps c.args.limits.now (g.P.Pause.count c.args.pause.now) (g.P.Pause.count c.run.new.pause) c.args.hosted c.offer.new.self last c.answered.result c.offer.ensures.left c.offer.ensures.offered c.requires.silent.0
    c.run.ensures.follows
    (subst (λ (l : List Outgoing). IsAnswer c.answered.result (start_answer l last.ended)) (sym said.1) (c.answered.ensures.answer said.0 last.ended))
    (subst (λ (o : Option ℕ). TakesTurns c.args.limits.now.turns c.args.limits.now.idle_turns (g.P.Pause.count c.args.pause.now) (g.P.Pause.count c.run.new.pause) o) told c.run.ensures.turns.0)
    c.answered.ensures.started

pub returns-in-Ended-clause-starts : goal.returns-in-Ended-clause-starts
returns-in-Ended-clause-starts g c =
    let last = c.run.new.self in
    let tells = subst (λ (w : Word). Tells c.offer.new.self last (Some w)) c.in-Ended.is c.run.ensures.tells in
    let silent = said_none (said_by last) (tells.1 ∙ c.offer.ensures.got ∙ c.requires.silent.1) in
    begun g.met.T.AppTask.keeps c.args.limits.now (g.P.Pause.count c.args.pause.now) (g.P.Pause.count c.run.new.pause) c.args.hosted c.offer.new.self last Unsupported c.offer.ensures.left c.offer.ensures.offered c.requires.silent.0
    c.run.ensures.follows
    (rw (silent, tells.2) refl)
    (subst (λ (o : Option ℕ). TakesTurns c.args.limits.now.turns c.args.limits.now.idle_turns (g.P.Pause.count c.args.pause.now) (g.P.Pause.count c.run.new.pause) o) (ap turns_of c.in-Ended.is) c.run.ensures.turns.0)
    tt

pub returns-in-Idle-clause-starts : goal.returns-in-Idle-clause-starts
returns-in-Idle-clause-starts g c =
    let last = c.run.new.self in
    let tells = subst (λ (w : Word). Tells c.offer.new.self last (Some w)) c.in-Idle.is c.run.ensures.tells in
    let silent = said_none (said_by last) (tells.1 ∙ c.offer.ensures.got ∙ c.requires.silent.1) in
    begun g.met.T.AppTask.keeps c.args.limits.now (g.P.Pause.count c.args.pause.now) (g.P.Pause.count c.run.new.pause) c.args.hosted c.offer.new.self last (Idle c.in-Idle.turns) c.offer.ensures.left c.offer.ensures.offered c.requires.silent.0
    c.run.ensures.follows
    (rw (silent, tells.2) refl)
    (subst (λ (o : Option ℕ). TakesTurns c.args.limits.now.turns c.args.limits.now.idle_turns (g.P.Pause.count c.args.pause.now) (g.P.Pause.count c.run.new.pause) o) (ap turns_of c.in-Idle.is) c.run.ensures.turns.0)
    tt
