use Rattle.std.proofs.Common.{◌≤◌, [], ◌∷◌, ◌++◌, length, ℕ, List, Option, Some, refl, sym, ap, ◌∙◌, subst, arith, ◌≡◌}
use Rattle.asgi_types.specs.declared.end_kind.EndKind.{EndKind}
use Rattle.asgi_types.specs.declared.incoming.Incoming.{Incoming}
use Rattle.asgi_types.specs.declared.outgoing.Outgoing.{Outgoing}
use Rattle.asgi_types.specs.declared.outgoing.Outgoing.TheVariants.{StartupComplete}
use Rattle.asgi_pipes.specs.declared.items.OutItem.{OutItem}
use Rattle.asgi_pipes.specs.declared.items.OutItem.TheVariants.{Event}
use Rattle.asgi_lifespan.specs.declared.hosted.Word.{Word}
use Rattle.asgi_lifespan.specs.declared.stop.Stop.TheVariants.{Idle}
use Rattle.asgi_lifespan.specs.Hosting.{Tells, said_by, turns_in as turns_of}
use Rattle.asgi_lifespan.specs.Lifespan.{stop_answer}
use Rattle.asgi_lifespan.specs.Stopping.{answer_in}
use Rattle.asgi_lifespan.specs.Turning.{TakesTurns}
use Rattle.asgi_lifespan.proofs.StopLemmas.{answers_shutdown, said_just, said_two, stops}
use Rattle.asgi_lifespan.proofs.lifespan.Lifespan.stop.Goals as goal

pub offer-requires-clause-hosted : goal.offer-requires-clause-hosted
offer-requires-clause-hosted g c = c.into_hosted-hosted.ensures.started.hosts

pub offer-requires-clause-first : goal.offer-requires-clause-first
offer-requires-clause-first g c = subst (λ (l : List Incoming). length l ≤ 1) (sym c.into_hosted-hosted.ensures.started.offered) (omega arith)

pub run-requires-clause-hosted : goal.run-requires-clause-hosted
run-requires-clause-hosted g c = c.offer.ensures.hosted

pub run-requires-clause-awaits : goal.run-requires-clause-awaits
run-requires-clause-awaits g c =
    rw (c.offer.ensures.offered, c.offer.ensures.got, c.into_hosted-hosted.ensures.started.offered, c.into_hosted-hosted.ensures.started.got) refl

pub answer_of-requires : goal.answer_of-requires
answer_of-requires g c =
    let got = subst (λ (w : Word). Tells c.offer.new.self c.run.new.self (Some w)) c.in-Said.is c.run.ensures.tells
    ∙ ap (λ (l : List OutItem). l ++ Event c.in-Said.event ∷ []) (c.offer.ensures.got ∙ c.into_hosted-hosted.ensures.started.got) in
    answers_shutdown g.T.AppTask.stands g.T.AppTask.answers c.run.new.self c.into_hosted-hosted.ensures.started.state c.in-Said.event c.run.ensures.follows.hosted got

pub answer_of_end-requires : goal.answer_of_end-requires
answer_of_end-requires g c idle =
    let tells = subst (λ (w : Word). Tells c.offer.new.self c.run.new.self (Some w)) c.in-Ended.is c.run.ensures.tells in
    c.run.ensures.follows.hosted.0.own_end (tells.2 ∙ ap (λ (k : EndKind). Some k) idle)

pub returns-in-Said-clause-stops : goal.returns-in-Said-clause-stops
returns-in-Said-clause-stops g c =
    let last = c.run.new.self in
    let began = c.into_hosted-hosted.ensures in
    let got = subst (λ (w : Word). Tells c.offer.new.self last (Some w)) c.in-Said.is c.run.ensures.tells
    ∙ ap (λ (l : List OutItem). l ++ Event c.in-Said.event ∷ []) (c.offer.ensures.got ∙ began.started.got) in
    let said = said_two g.T.AppTask.stands last (StartupComplete began.started.state) c.in-Said.event c.run.ensures.follows.hosted got in
    let told = ap turns_of c.in-Said.is ∙ sym c.answer_of.ensures.turns in
    stops g.met.T.AppTask.keeps c.args.self c.into_hosted-hosted.result c.offer.new.self last (g.P.Pause.count c.args.pause.now) (g.P.Pause.count c.run.new.pause) c.answer_of.result
    began.started began.same c.offer.ensures.left c.offer.ensures.offered c.run.ensures.follows
    (subst (λ (l : List Outgoing). answer_in c.answer_of.result ≡ stop_answer l last.ended) (sym said.1) (c.answer_of.ensures.answer (StartupComplete began.started.state) said.0 last.ended))
    (subst (λ (o : Option ℕ). TakesTurns c.args.self.turns c.args.self.idle_turns (g.P.Pause.count c.args.pause.now) (g.P.Pause.count c.run.new.pause) o) told c.run.ensures.turns.0)

pub returns-in-Ended-clause-stops : goal.returns-in-Ended-clause-stops
returns-in-Ended-clause-stops g c =
    let last = c.run.new.self in
    let began = c.into_hosted-hosted.ensures in
    let tells = subst (λ (w : Word). Tells c.offer.new.self last (Some w)) c.in-Ended.is c.run.ensures.tells in
    let said = said_just (said_by last) (StartupComplete began.started.state) (tells.1 ∙ c.offer.ensures.got ∙ began.started.got) in
    let told = ap turns_of c.in-Ended.is ∙ sym c.answer_of_end.ensures.turns in
    stops g.met.T.AppTask.keeps c.args.self c.into_hosted-hosted.result c.offer.new.self last (g.P.Pause.count c.args.pause.now) (g.P.Pause.count c.run.new.pause) c.answer_of_end.result
    began.started began.same c.offer.ensures.left c.offer.ensures.offered c.run.ensures.follows
    (rw (said, tells.2) (c.answer_of_end.ensures.answer (StartupComplete began.started.state)))
    (subst (λ (o : Option ℕ). TakesTurns c.args.self.turns c.args.self.idle_turns (g.P.Pause.count c.args.pause.now) (g.P.Pause.count c.run.new.pause) o) told c.run.ensures.turns.0)

pub returns-clause-stops : goal.returns-clause-stops
returns-clause-stops g c =
    let last = c.run.new.self in
    let began = c.into_hosted-hosted.ensures in
    let tells = subst (λ (w : Word). Tells c.offer.new.self last (Some w)) c.in-Idle.is c.run.ensures.tells in
    let said = said_just (said_by last) (StartupComplete began.started.state) (tells.1 ∙ c.offer.ensures.got ∙ began.started.got) in
    stops g.met.T.AppTask.keeps c.args.self c.into_hosted-hosted.result c.offer.new.self last (g.P.Pause.count c.args.pause.now) (g.P.Pause.count c.run.new.pause) (Idle c.in-Idle.turns)
    began.started began.same c.offer.ensures.left c.offer.ensures.offered c.run.ensures.follows
    (rw (said, tells.2) refl)
    (subst (λ (o : Option ℕ). TakesTurns c.args.self.turns c.args.self.idle_turns (g.P.Pause.count c.args.pause.now) (g.P.Pause.count c.run.new.pause) o) (ap turns_of c.in-Idle.is) c.run.ensures.turns.0)
