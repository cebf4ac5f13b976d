use Rattle.asgi_halves.proofs.SessionOfferLemmas.{cut_stops, stops, took_end}
use Rattle.asgi_halves.proofs.session_half.WebSocketHalfExchangeKind.end_with.Goals as goal

pub returns-clause-ends : goal.returns-clause-ends
returns-clause-ends c is scene now read view kind x = took_end x c.args.outcome is kind

pub returns-clause-cut : goal.returns-clause-cut
returns-clause-cut c is scene now read view later x off = cut_stops x c.args.outcome is later off

pub returns-clause-stops : goal.returns-clause-stops
returns-clause-stops c goes_on idle scene now read view later x off = stops x c.args.outcome idle later goes_on off
