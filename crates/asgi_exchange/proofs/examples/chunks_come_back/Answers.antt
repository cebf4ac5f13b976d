use Rattle.std.proofs.Common.{refl}
use Rattle.std.specs.Fmt.{digits}
use Rattle.httparse.specs.Grammar.{is_token_byte}
use Rattle.asgi_exchange.proofs.examples.chunks_come_back.Goals as goal

pub returns-clause-whole : goal.returns-clause-whole
unfolding digits is_token_byte
returns-clause-whole c = record { heard_is = refl; said_is = refl; taken_is = refl; written_is = refl }

pub returns-clause-byte_by_byte : goal.returns-clause-byte_by_byte
unfolding digits is_token_byte
returns-clause-byte_by_byte c = record { heard_is = refl; said_is = refl; taken_is = refl; written_is = refl }
