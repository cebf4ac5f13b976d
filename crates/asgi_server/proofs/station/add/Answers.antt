use Rattle.std.proofs.Common.{◌≡◌, [], ◌∷◌, ◌++◌, true, is_some, ap, ◌∙◌}
use Rattle.asgi_server.proofs.StationLemmas.{all_more}
use Rattle.asgi_server.proofs.station.add.Goals as goal

pub returns-clause-ready : goal.returns-clause-ready
returns-clause-ready g c =
    let one = c.in_ok-make_station.field-0 in
    all_more (λ s. is_some s.runner.kept ≡ true) c.args.made.now.items c.put.new.made.items one c.requires.ready c.in_ok-make_station.ensures.ready
    (c.put.ensures ∙ ap (λ list. list ++ one ∷ []) c.reserve.ensures.items)

pub returns-clause-fresh : goal.returns-clause-fresh
returns-clause-fresh g c =
    let one = c.in_ok-make_station.field-0 in
    all_more (λ s. s.pause.count ≡ 0) c.args.made.now.items c.put.new.made.items one c.requires.fresh c.in_ok-make_station.ensures.fresh
    (c.put.ensures ∙ ap (λ list. list ++ one ∷ []) c.reserve.ensures.items)
