-- The ends of one pair over rings: each end has one side of each ring.
use Rattle.std.specs.Prelude.{◌≡◌}
use Rattle.asgi_pipes.specs.declared.ring_conn.RingConn.{RingConn}
use Rattle.asgi_pipes.specs.declared.ring_app.RingApp.{RingApp}
use Rattle.asgi_pipes.specs.RingPairs.{names_of}

abbrev pub IsRingPair : RingConn → RingApp → Type 0
IsRingPair conn app = names_of conn.to_app.end conn.from_app.end ≡ names_of app.from_conn.end app.to_conn.end
