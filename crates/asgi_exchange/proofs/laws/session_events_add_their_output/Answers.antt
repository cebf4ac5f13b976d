use Rattle.asgi_exchange.proofs.laws.session_events_add_their_output.Goals as goal
use Rattle.asgi_exchange.proofs.SessionLemmas.{event_adds, other_adds_nothing}

pub returns-clause-lawful : goal.returns-clause-lawful
returns-clause-lawful c handshake facts events event passed = event_adds handshake facts events event passed

pub returns-clause-other : goal.returns-clause-other
returns-clause-other c handshake facts events event refused = other_adds_nothing handshake facts events event refused
