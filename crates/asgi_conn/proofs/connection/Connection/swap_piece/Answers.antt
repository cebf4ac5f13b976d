use Rattle.std.proofs.Common.{refl}
use Rattle.asgi_conn.proofs.connection.Connection.swap_piece.Goals as goal

pub returns-in-Some : goal.returns-in-Some
returns-in-Some g c = record { same = rw (c.deref_mut.ensures.value, c.in-Some.is) refl }
