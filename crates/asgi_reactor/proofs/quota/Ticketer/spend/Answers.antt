use Rattle.std.proofs.Common.{rules}
use Rattle.asgi_reactor.proofs.TicketLemmas.{spent_one}
use Rattle.asgi_reactor.proofs.quota.Ticketer.spend.Goals as goal

pub fetch_sub-requires : goal.fetch_sub-requires
fetch_sub-requires c = (search rules, search rules, spent_one _ _ _ _ c.requires)
