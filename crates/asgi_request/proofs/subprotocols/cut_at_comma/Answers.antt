use Rattle.std.proofs.Common.{◌+◌}
use Rattle.std.proofs.lemmas.List.{take_rest}
use Rattle.asgi_request.proofs.SubprotocolLemmas.{parts_at, parts_whole}
use Rattle.asgi_request.proofs.subprotocols.cut_at_comma.Goals as goal

pub returns-in_err-comma-clause-none : goal.returns-in_err-comma-clause-none
returns-in_err-comma-clause-none c = λ _. parts_whole c.args.value.now c.in_err-comma.ensures

pub returns-clause-cut : goal.returns-clause-cut
returns-clause-cut c =
    rw (take_rest c.args.value.now (c.in_ok-comma.comma + 1)) (parts_at c.args.value.now c.in_ok-comma.comma c.in_ok-comma.ensures)
