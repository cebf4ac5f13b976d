use Rattle.std.proofs.Common.{rules}
use Rattle.asgi_reactor.proofs.TicketLemmas.{taken}
use Rattle.asgi_reactor.proofs.quota.Ticketer.take.Goals as goal

pub compare_exchange-found-requires : goal.compare_exchange-found-requires
compare_exchange-found-requires c = (search rules, search rules, taken _ _ _ _ _ (search rules))
