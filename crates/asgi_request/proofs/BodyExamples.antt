-- A chunked body with an extension and a trailer, computed.
use Rattle.std.proofs.Common.{◌≡◌, ℕ, List, [], ◌∷◌, ◌++◌, refl, codes, arith}
use Rattle.httparse.specs.Ascii.{crlf_bytes}
use Rattle.httparse.specs.Grammar.{is_token_byte}
use Rattle.asgi_types.specs.declared.facts.Framing.TheVariants.{Chunked}
use Rattle.asgi_types.specs.declared.limits.Limits.{Limits}
use Rattle.asgi_request.specs.declared.refusal.Refusal.TheVariants.{BadRequest, ContentTooLarge}
use Rattle.asgi_request.specs.ChunkedBody.{partial, complete, faulty}
use Rattle.asgi_request.specs.RequestEvents.{more_event, last_event}
use Rattle.asgi_request.specs.BodyOf.{body_events, body_state}

small_limits : Limits
small_limits = record {
  max_head = 64;
  max_headers = 1;
  max_body = 9;
  block = 3;
  ring = 2;
  idle_turns = 1;
  turns = 1;
  head_in_range = (omega arith, omega arith);
  headers_in_range = (omega arith, omega arith);
  body_in_range = omega arith;
  block_in_range = (omega arith, omega arith);
  ring_in_range = (omega arith, omega arith);
  idle_in_range = omega arith;
  turns_in_range = (omega arith, omega arith);
}

first_chunk : List ℕ
first_chunk = codes "5;a" ++ crlf_bytes ++ codes "hello" ++ crlf_bytes

last_chunk : List ℕ
last_chunk = codes "0" ++ crlf_bytes ++ codes "a: b" ++ crlf_bytes ++ crlf_bytes

all_events : body_events small_limits Chunked (first_chunk ++ last_chunk) ≡ more_event (codes "hel") ∷ more_event (codes "lo") ∷ last_event [] ∷ []
unfolding is_token_byte small_limits first_chunk last_chunk
all_events = refl

all_state : body_state small_limits Chunked (first_chunk ++ last_chunk ++ codes "GET") ≡ complete (codes "GET")
unfolding is_token_byte small_limits first_chunk last_chunk
all_state = refl

-- half a block is no event yet
first_events : body_events small_limits Chunked (codes "5;a" ++ crlf_bytes ++ codes "hell") ≡ more_event (codes "hel") ∷ []
unfolding is_token_byte small_limits
first_events = refl

-- without its empty line it is not whole
open_state : body_state small_limits Chunked (first_chunk ++ codes "0" ++ crlf_bytes ++ codes "a: b" ++ crlf_bytes) ≡ partial
unfolding is_token_byte small_limits first_chunk
open_state = refl

-- 5 and 5 are more than 9
large_state : body_state small_limits Chunked (first_chunk ++ first_chunk) ≡ faulty ContentTooLarge
unfolding is_token_byte small_limits first_chunk
large_state = refl

-- two trailer fields are more than 1
many_state : body_state small_limits Chunked (codes "0" ++ crlf_bytes ++ codes "a: b" ++ crlf_bytes ++ codes "c: d" ++ crlf_bytes ++ crlf_bytes) ≡ faulty BadRequest
unfolding is_token_byte small_limits
many_state = refl
