use Rattle.std.proofs.Common.{Some, refl}
use Rattle.asgi_io.specs.declared.turns.Turn.TheVariants.{Last}
use Rattle.asgi_lifespan.proofs.TurnLemmas.{polled_turn}
use Rattle.asgi_lifespan.proofs.hosted.Hosted.poll.Goals as goal

pub returns-in_default-clause-turn : goal.returns-in_default-clause-turn
returns-in_default-clause-turn g c =
    let asked = c.moved.ensures in
    let polled = c.poll-answer.new.end in (
      polled,
      c.with.ensures,
      polled_turn c.moved.result c.args.self.now.ended c.args.self.now.app_end polled c.moved.new.app_end c.poll-answer.ensures.end (rw c.requires.runs asked.turn)
          (asked.lists.heard, asked.lists.pulled, asked.lists.said) (λ none. asked.asked),
    )

pub returns-clause-turn : goal.returns-clause-turn
returns-clause-turn g c =
    let polled = c.poll-answer.new.end in (
      polled,
      c.with.ensures,
      polled_turn Last (Some c.kind_of.result) c.args.self.now.app_end polled polled c.poll-answer.ensures.end refl (refl, refl, refl) (λ none. absurd (cc)),
    )
