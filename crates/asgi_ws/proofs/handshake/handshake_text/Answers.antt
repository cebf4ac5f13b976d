use Rattle.asgi_ws.proofs.TextLemmas.{text_of_parts}
use Rattle.asgi_ws.proofs.handshake.handshake_text.Goals as goal

pub returns : goal.returns
returns c =
    text_of_parts c.args.key.now c.args.subprotocol.now c.args.headers.now _ _ _ _ _ _ c.new-out.ensures.items c.accept_value.ensures
    c.in_ok-append_all.ensures.ok c.in_ok-append_subprotocol.ensures c.in_ok-append_fields.ensures c.in_ok-extend_from_slice.ensures.items
