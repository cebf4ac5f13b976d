use Rattle.std.specs.Prelude.{codes}
use Rattle.asgi_ws.specs.Handshake.{field}
use Rattle.asgi_ws.proofs.TextLemmas.{one_line}
use Rattle.asgi_ws.proofs.handshake.append_protocol.Goals as goal

pub returns : goal.returns
returns c =
    one_line (field (codes "sec-websocket-protocol") c.args.name.now) c.args.out.now.items c.write_field.new.out.items c.in_ok-write_field.ensures.ok
