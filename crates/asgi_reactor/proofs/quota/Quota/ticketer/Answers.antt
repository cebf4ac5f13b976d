use Rattle.std.proofs.Common.{rules}
use Rattle.asgi_reactor.proofs.TicketLemmas.{comes}
use Rattle.asgi_reactor.proofs.quota.Quota.ticketer.Goals as goal

pub load_new_seat-free-requires : goal.load_new_seat-free-requires
load_new_seat-free-requires c = (search rules, comes _ _)
