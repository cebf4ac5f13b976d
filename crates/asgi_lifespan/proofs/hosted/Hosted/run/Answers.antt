use Rattle.std.proofs.Common.{[], ◌∷◌, ◌++◌, Option, Some, sym, inl, inr, refl, ◌∙◌, subst}
use Rattle.asgi_lifespan.specs.declared.hosted.Word.{Word}
use Rattle.asgi_lifespan.specs.Hosting.{Tells}
use Rattle.asgi_apps.proofs.PauseLemmas.{counts_more, paused_for_each}
use Rattle.asgi_lifespan.proofs.HostLemmas.{follows_nothing, follows_then, follows_left, tells_further, tells_idle, told_none}
use Rattle.asgi_lifespan.proofs.TurnLemmas.{turned_same, turned_then}
use Rattle.asgi_lifespan.proofs.hosted.Hosted.run.Goals as goal

pub loop-word-init : goal.loop-word-init
loop-word-init g c = record {
  follows = follows_nothing g.T.AppTask.stands g.T.AppTask.answers c.args.self.now c.requires.hosted;
  got = refl;
  turn_limit = c.new-taken.ensures.turn_limit;
  idle_limit = c.new-taken.ensures.idle_limit;
  turned = [];
  took = (refl, refl, refl);
  counts = c.new-taken.ensures.none (g.P.Pause.count c.args.pause.now);
  armed = λ runs. inl (c.new-taken.ensures.none 0).turns_is;
  kept = λ fact h. h;
}

pub next-requires : goal.next-requires
next-requires g c = c.loop-word.invariant.follows.hosted

pub returns-in-Some-clause-follows : goal.returns-in-Some-clause-follows
returns-in-Some-clause-follows g c =
    follows_then g.T.AppTask.stands g.T.AppTask.answers c.args.self.now c.loop-word.self c.next.new.self c.loop-word.invariant.follows
    (follows_left g.T.AppTask.stands g.T.AppTask.answers c.loop-word.self c.next.new.self c.next.ensures.left c.next.ensures.hosted c.next.ensures.offered)

pub returns-in-Some-clause-tells : goal.returns-in-Some-clause-tells
returns-in-Some-clause-tells g c =
    tells_further g.T.AppTask.stands g.T.AppTask.answers c.args.self.now c.loop-word.self c.next.new.self (Some c.in-Some.word) c.loop-word.invariant.got
    (subst (λ (w : Option Word). Tells c.loop-word.self c.next.new.self w) c.in-Some.is c.next.ensures.tells)

pub returns-in-Some-clause-turns : goal.returns-in-Some-clause-turns
returns-in-Some-clause-turns g c = (
  record {
    turned = c.loop-word.invariant.turned;
    turns = c.loop-word.taken.turns;
    idle = c.loop-word.taken.idle;
    counts = c.loop-word.invariant.counts;
    at_limit = λ told is. absurd (told_none _ told c.in-Some.ensures.turns is);
  },
  turned_same c.loop-word.invariant.turned c.args.self.now c.loop-word.self c.next.new.self c.loop-word.invariant.took c.next.ensures.turned,
)

pub returns-then-is_over-clause-follows : goal.returns-then-is_over-clause-follows
returns-then-is_over-clause-follows g c =
    follows_then g.T.AppTask.stands g.T.AppTask.answers c.args.self.now c.loop-word.self c.next.new.self c.loop-word.invariant.follows
    (follows_left g.T.AppTask.stands g.T.AppTask.answers c.loop-word.self c.next.new.self c.next.ensures.left c.next.ensures.hosted c.next.ensures.offered)

pub returns-then-is_over-clause-tells : goal.returns-then-is_over-clause-tells
returns-then-is_over-clause-tells g c =
    tells_idle g.T.AppTask.stands g.T.AppTask.answers c.args.self.now c.loop-word.self c.next.new.self c.loop-word.taken.turns c.loop-word.invariant.got
    (subst (λ (w : Option Word). Tells c.loop-word.self c.next.new.self w) c.in_default.is c.next.ensures.tells)

pub returns-then-is_over-clause-turns : goal.returns-then-is_over-clause-turns
returns-then-is_over-clause-turns g c = (
  record {
    turned = c.loop-word.invariant.turned;
    turns = c.loop-word.taken.turns;
    idle = c.loop-word.taken.idle;
    counts = c.loop-word.invariant.counts;
    at_limit = λ told is. (
      cc,
      elim (c.is_over.ensures.0 c.if-is_over.true) [
        | inl all ↦ inl (all ∙ c.loop-word.invariant.turn_limit)
        | inr row ↦ inr (row ∙ c.loop-word.invariant.idle_limit, paused_for_each _ _ _ _ _ _ c.loop-word.invariant.turned c.loop-word.invariant.counts (row ∙ c.loop-word.invariant.idle_limit))
      ],
    );
  },
  turned_same c.loop-word.invariant.turned c.args.self.now c.loop-word.self c.next.new.self c.loop-word.invariant.took c.next.ensures.turned,
)

pub returns-then-is_over-clause-armed : goal.returns-then-is_over-clause-armed
returns-then-is_over-clause-armed g c told is =
    let none = subst (λ (w : Option Word). Tells c.loop-word.self c.next.new.self w) c.in_default.is c.next.ensures.tells in
    elim (c.loop-word.invariant.armed (sym c.next.ensures.left.ended ∙ none.2)) [
      | inl zero ↦ inl (cc)
      | inr armed ↦ inr armed
    ]

pub loop-word-preserved : goal.loop-word-preserved
loop-word-preserved g c =
    let stands = g.T.AppTask.stands in
    let answers = g.T.AppTask.answers in
    let inv = c.loop-word.invariant in
    let none = subst (λ (w : Option Word). Tells c.loop-word.self c.next.new.self w) c.in_default.is c.next.ensures.tells in
    record {
      follows =
          follows_then stands answers c.args.self.now c.next.new.self c.turn-turn.new.self
          (follows_then stands answers c.args.self.now c.loop-word.self c.next.new.self inv.follows
          (follows_left stands answers c.loop-word.self c.next.new.self c.next.ensures.left c.next.ensures.hosted c.next.ensures.offered))
          c.turn-turn.ensures.follows;
      got = c.turn-turn.ensures.got ∙ none.0 ∙ inv.got;
      turn_limit = c.take.ensures.turn_limit ∙ inv.turn_limit;
      idle_limit = c.take.ensures.idle_limit ∙ inv.idle_limit;
      turned = inv.turned ++ c.turn-turn.result ∷ [];
      took =
          turned_then inv.turned c.turn-turn.result c.args.self.now c.next.new.self c.turn-turn.new.self
          (turned_same inv.turned c.args.self.now c.loop-word.self c.next.new.self inv.took c.next.ensures.turned) c.turn-turn.ensures.turn;
      armed = λ runs. inr (c.turn-turn.ensures.armed runs);
      counts = counts_more c.args.turns c.args.idle_turns _ _ _ _ _ _ _ _ _ inv.turned c.turn-turn.result inv.turn_limit inv.idle_limit inv.counts c.take.ensures.counts;
      kept = λ fact h. c.turn-turn.ensures.kept fact (inv.kept fact h);
    }
