-- What is due to a silent session. RFC 6455, 5.5.2 lets an endpoint send a ping at any time, "either as a keepalive or as a means to verify that the
-- remote endpoint is still responsive", and leaves it when; 7.4.1 has the code 1011.
use Rattle.std.specs.Prelude.{◌≡◌, ◌≢◌, ◌≤◌, ◌<◌, ◌+◌, ◌⊎◌, ℕ}
use Rattle.asgi_leaving.specs.declared.notice.Farewell.TheVariants.{NoAnswer}
use Rattle.asgi_leaving.specs.declared.notice.Notice.{Notice}
use Rattle.asgi_leaving.specs.declared.notice.Notice.TheVariants.{Nothing, Ping, Close}

-- After so many silent ticks: from `ping` of them on its client is asked, and from `pong` more on it has not answered. With 0 none is asked.
abbrev pub IsDue : (ping pong silent : ℕ) → Notice → Type 0
IsDue ping pong silent Nothing = (ping ≡ 0) ⊎ (silent < ping)
IsDue ping pong silent Ping = (ping ≢ 0) × (ping ≤ silent) × (silent < ping + pong)
IsDue ping pong silent (Close why) = (why ≡ NoAnswer) × (ping ≢ 0) × (ping + pong ≤ silent)
