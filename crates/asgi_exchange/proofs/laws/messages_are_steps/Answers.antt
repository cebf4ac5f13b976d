use Rattle.asgi_exchange.proofs.laws.messages_are_steps.Goals as goal
use Rattle.asgi_exchange.proofs.MessageLemmas.{events_grow, close_is_heard, none_is_heard, message_arrives, message_is_offered, session_breaks}

pub returns-clause-arrives : goal.returns-clause-arrives
returns-clause-arrives c handshake facts ring conn message b = message_arrives handshake facts ring conn message b

pub returns-clause-is_due : goal.returns-clause-is_due
returns-clause-is_due c messages message h = events_grow messages message h

pub returns-clause-offers : goal.returns-clause-offers
returns-clause-offers c handshake facts ring conn message event arrived h e is all b = message_is_offered handshake facts ring conn message event arrived h e is all b

pub returns-clause-breaks : goal.returns-clause-breaks
returns-clause-breaks c handshake facts ring conn all b e = session_breaks handshake facts ring conn all b e

pub returns-clause-closed : goal.returns-clause-closed
returns-clause-closed c messages close h = close_is_heard messages close h

pub returns-clause-unclosed : goal.returns-clause-unclosed
returns-clause-unclosed c messages h = none_is_heard messages h
