-- The ends of one plain pair: what each end passed on is what the other received.
use Rattle.std.specs.Prelude.{◌≡◌}
use Rattle.asgi_pipes.specs.declared.plain_conn.PlainConn.{PlainConn}
use Rattle.asgi_pipes.specs.declared.plain_app.PlainApp.{PlainApp}
use Rattle.asgi_pipes.specs.Boxes.{carriage_from, carriage_to}
use Rattle.asgi_pipes.specs.Pairs.{carried}

abbrev pub IsPlainPair : PlainConn → PlainApp → Type 0
IsPlainPair conn app = carried (carriage_from conn.out) (carriage_to conn.inn) ≡ carried (carriage_to app.inn) (carriage_from app.out)
