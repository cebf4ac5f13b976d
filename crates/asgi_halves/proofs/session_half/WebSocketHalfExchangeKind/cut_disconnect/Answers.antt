use Rattle.asgi_halves.proofs.SessionOfferLemmas.{cut_waits, took_event}
use Rattle.asgi_halves.proofs.session_half.WebSocketHalfExchangeKind.cut_disconnect.Goals as goal

pub returns-clause-waits : goal.returns-clause-waits
returns-clause-waits c outcome is scene now read view later x off = cut_waits x outcome is later off

pub returns-clause-drops : goal.returns-clause-drops
returns-clause-drops c outcome is scene now read view event x = took_event x outcome is event
