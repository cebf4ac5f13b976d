use Rattle.std.proofs.Common.{rules}
use Rattle.asgi_reactor.proofs.TicketLemmas.{few}
use Rattle.asgi_reactor.proofs.quota.Ticketer.settle.Goals as goal

pub compare_exchange-requires : goal.compare_exchange-requires
compare_exchange-requires c = (search rules, search rules, rw c.args.self.now.quota.now.counted.0 (few c.args.self.now.quota.now.table.shared.key _ _ _))
