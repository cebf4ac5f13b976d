use Rattle.asgi_halves.proofs.HalfEndLemmas.{cut_waits, took_event}
use Rattle.asgi_halves.proofs.half.HttpHalfExchangeKind.cut_disconnect.Goals as goal

pub returns-clause-waits : goal.returns-clause-waits
returns-clause-waits c outcome is scene now read view later s off = record { limits = s.limits; stands = cut_waits s.stands is later off }

pub returns-clause-drops : goal.returns-clause-drops
returns-clause-drops c outcome is scene now read view event s = record { limits = s.limits; stands = took_event s.stands is event }
