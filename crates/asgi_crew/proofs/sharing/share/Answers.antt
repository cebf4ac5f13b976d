use Rattle.std.proofs.Common.{◌≡◌, [], length, vec_len, ap, subst, sym, ◌∙◌, rules, arith, List, ℕ}
use Rattle.std.proofs.lemmas.List.Sorted.{length_permutation}
use Rattle.crossbeam_channel.specs.Claims.{view}
use Rattle.asgi_desk.specs.declared.channel.Hand as desk
use Rattle.asgi_desk.specs.Seat.{knows}
use Rattle.asgi_crew.specs.declared.give.End.{End}
use Rattle.asgi_crew.specs.Ran.{last_of}
use Rattle.asgi_crew.specs.Shared.{IsShared}
use Rattle.asgi_crew.proofs.Turns.{all_numbered, not_begun, shared}
use Rattle.asgi_crew.proofs.sharing.share.Goals as goal

pub returns-in_default-clause-shared : goal.returns-in_default-clause-shared
returns-in_default-clause-shared g c =
    not_begun (g.E.Serves.serves c.args.how.now) _ _ _ _ _ c.not_begun.ensures.3 (search rules) c.not_begun.ensures.0

pub returns-in-Err-clause-shared : goal.returns-in-Err-clause-shared
returns-in-Err-clause-shared g c =
    not_begun (g.E.Serves.serves c.args.how.now) _ _ _ _ _ c.not_begun-in-Err.ensures.3 (search rules) c.not_begun-in-Err.ensures.0

pub close-teller-requires-clause-numbers : goal.close-teller-requires-clause-numbers
close-teller-requires-clause-numbers g c = all_numbered (g.E.Serves.serves c.args.how.now) _ _ _ _ _ _ _ c.run_scoped-pass.ensures.ran c.settle.ensures

pub returns-clause-shared : goal.returns-clause-shared
returns-clause-shared g c =
    let closed = c.close-teller.ensures in
    shared (g.E.Serves.serves c.args.how.now) _ _ _ _ _ _ _ _ c.run_scoped-pass.ensures.ran c.settle.ensures closed.each closed.in_order
