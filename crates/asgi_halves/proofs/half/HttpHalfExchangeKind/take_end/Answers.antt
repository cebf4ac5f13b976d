use Rattle.asgi_halves.proofs.HalfLemmas.{ended_taken}
use Rattle.asgi_halves.proofs.half.HttpHalfExchangeKind.take_end.Goals as goal

pub returns : goal.returns
returns c = record { ends = λ scene now read view s. (view.broken_first, record { limits = s.limits; stands = ended_taken c.args.kind s.stands c.requires.running }) }
