use Rattle.std.proofs.Common.{ℕ, ◌≤◌, ◌^◌, [], refl, sym, subst, arith}
use Rattle.asgi_conn.proofs.ServeLemmas.{begins}
use Rattle.asgi_conn.proofs.connection.Connection.new.Goals as goal

pub returns-clause-stands : goal.returns-clause-stands
returns-clause-stands g c app start before = record {
  serving = rw c.new-2.ensures.wire (begins start c.new.result _ c.new.ensures.limits c.new.ensures.unread c.new.ensures.empty refl refl);
  counted = record {
    turn_limit = c.new-3.ensures.turn_limit;
    idle_limit = c.new-3.ensures.idle_limit;
    turned = [];
    counts = c.new-3.ensures.none before;
    at_limit = λ is. cc;
    within = subst (λ (n : ℕ). n ≤ 2 ^ 48) (sym c.new-3.ensures.turn_limit) c.args.limits.now.turns_in_range.1;
    room = omega arith;
  };
}
