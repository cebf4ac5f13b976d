use Rattle.std.proofs.Common.{◌≡◌, Bool, sym, subst, arith, eq-eqb, ne_eqb}
use Rattle.std.proofs.lemmas.Result.{err_from_is_err_and}
use Rattle.asgi_handlers.specs.Params.{params_of}
use Rattle.asgi_routes.specs.Rooms.{FailsAt}
use Rattle.asgi_routes.proofs.room_chain.RoomChainRoomList.open.Goals as goal

pub returns-in_err-open-clause-failed : goal.returns-in_err-open-clause-failed
returns-in_err-open-clause-failed g c h =
    let p = err_from_is_err_and c.from_residual.result c.from_residual.ensures.1 in
    let same : c.args.self.now.pattern ≡ c.args.pattern = omega arith in
    subst (λ (is_own : Bool). FailsAt is_own (g.A.Room.fails c.args.self.now.room c.args.scope.now (params_of c.args.params.now))
    (g.R.RoomList.fails c.args.self.now.rest c.args.pattern c.args.scope.now (params_of c.args.params.now)))
    (sym (eq-eqb c.args.self.now.pattern c.args.pattern same)) (c.in_err-open.ensures.failed (cc (p.1, p.2, h)))

pub returns-in_err-open-2-clause-failed : goal.returns-in_err-open-2-clause-failed
returns-in_err-open-2-clause-failed g c h =
    let p = err_from_is_err_and c.from_residual-in_err-open-2.result c.from_residual-in_err-open-2.ensures.1 in
    subst (λ (is_own : Bool). FailsAt is_own (g.A.Room.fails c.args.self.now.room c.args.scope.now (params_of c.args.params.now))
    (g.R.RoomList.fails c.args.self.now.rest c.args.pattern c.args.scope.now (params_of c.args.params.now)))
    (sym (ne_eqb c.args.self.now.pattern c.args.pattern (λ same. omega (arith, same)))) (c.in_err-open-2.ensures.failed (cc (p.1, p.2, h)))
