use Rattle.std.proofs.Common.{Option, refl, sym, subst}
use Rattle.asgi_types.specs.declared.end_kind.EndKind.{EndKind}
use Rattle.asgi_pipes.specs.contracts.plain_app.PlainAppAppEnd.TheImpl as app_end
use Rattle.asgi_apps.specs.Ends.{IsTurn}
use Rattle.asgi_lifespan.proofs.TurnLemmas.{carried_turn}
use Rattle.asgi_lifespan.proofs.hosted.Hosted.turn.Goals as goal

pub returns-clause-turn : goal.returns-clause-turn
returns-clause-turn g c =
    let old = c.args.self.now.app_end in
    let mid = c.poll-turn.new.self in
    let new = c.carry.new.self.app_end in
    let turn = c.poll-turn.ensures.turn in
    record {
      polled = turn.0;
      did = rw (c.carry.ensures.lists.0, c.with.ensures, c.poll-turn.ensures.did) refl;
      left = rw c.carry.ensures.lists.1 turn.1;
      turn = subst (λ (e : Option EndKind). IsTurn app_end.ghosts c.poll-turn.result e old turn.0 new) (sym c.carry.ensures.left.ended)
          (carried_turn c.poll-turn.result mid.ended old turn.0 mid.app_end new turn.2 c.carry.ensures.still c.carry.ensures.asked);
    }
