use Rattle.std.proofs.Common.{rules}
use Rattle.asgi_reactor.proofs.TicketLemmas.{given_back}
use Rattle.asgi_reactor.proofs.quota.Ticketer.give_back.Goals as goal

pub fetch_add-requires : goal.fetch_add-requires
fetch_add-requires c = (search rules, search rules, given_back _ _ _ _ c.requires)
