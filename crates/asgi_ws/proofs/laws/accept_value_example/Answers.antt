use Rattle.std.proofs.Common.{refl}
use Rattle.base64.specs.Rfc4648.{encode_symbols}
use Rattle.sha1.specs.Sha1.{first_words, schedule, rounds, compress, hash_after, digest_bytes, sha1}
use Rattle.asgi_request.specs.Key.{base64}
use Rattle.asgi_ws.proofs.laws.accept_value_example.Goals as goal

pub returns : goal.returns
unfolding base64 encode_symbols first_words schedule rounds compress hash_after digest_bytes sha1
returns c = refl
