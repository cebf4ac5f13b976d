use Rattle.asgi_halves.proofs.HalfEndLemmas.{took_end, cut_stops, stops_here}
use Rattle.asgi_halves.proofs.half.HttpHalfExchangeKind.end_with.Goals as goal

pub returns-clause-ends : goal.returns-clause-ends
returns-clause-ends c is scene now read view kind s = record { limits = s.limits; stands = took_end s.stands is kind }

pub returns-clause-cut : goal.returns-clause-cut
returns-clause-cut c is scene now read view later s off = record { limits = s.limits; stands = cut_stops s.stands is later off }

pub returns-clause-stops : goal.returns-clause-stops
returns-clause-stops c goes_on idle scene now read view later s off = record { limits = s.limits; stands = rw idle (stops_here s.stands later goes_on off) }
