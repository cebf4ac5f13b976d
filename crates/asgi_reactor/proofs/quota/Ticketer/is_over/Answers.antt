use Rattle.std.proofs.Common.{rules}
use Rattle.asgi_reactor.proofs.TicketLemmas.{looked}
use Rattle.asgi_reactor.proofs.quota.Ticketer.is_over.Goals as goal

pub load-left-requires : goal.load-left-requires
load-left-requires c = (search rules, search rules, looked _ _ _ _)
