use Rattle.std.proofs.Common.{◌≡◌, [], length, ap, ◌∙◌, arith}
use Rattle.websocket.proofs.HandshakeLemmas.{output_is_encoded}
use Rattle.asgi_request.specs.Key.{base64}
use Rattle.asgi_request.proofs.KeyLemmas.{standard_encodes}
use Rattle.asgi_ws.proofs.accept.accept_value.Goals as goal

pub returns : goal.returns
returns c =
    let len : length c.finalize-digest.result ≡ 20 = omega arith in
    output_is_encoded _ _ _ _ _ (rw len (omega arith)) c.encode_slice.ensures.fits c.encode_slice.ensures.written
    ∙ standard_encodes c.finalize-digest.result
    ∙ ap base64 (c.finalize-digest.ensures _ (c.update-2.ensures _ (c.update.ensures [] c.new-hasher.ensures)))
