use Rattle.std.proofs.Common.{◌≡◌, subst}
use Rattle.std.specs.Prelude.{IfSome}
use Rattle.nomtsage.proofs.SeatsLemmas.{ran_few}
use Rattle.nomtsage.proofs.seated.listened_in_seats.Goals as goal

pub returns : goal.returns
returns g c =
    let (seconds, in_seconds, serves) = c.serve_in_seats-ending.ensures.serves in
    ran_few _ _ _ _ _ c.args.reactor.told.items c.serve_in_seats-ending.new.reactor.told.items c.args.reactor.left c.serve_in_seats-ending.new.reactor.left _ _ _ _ _ _ c.requires in_seconds
    serves c.serve_in_seats-ending.ensures.kept (subst (λ w. IfSome w (λ e. c.error_of-why.result ≡ e)) c.why.ensures c.error_of-why.ensures) c.result_of.ensures
