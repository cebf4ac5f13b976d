-- The exchange of one HTTP request: what is due from the bytes after its head, and what is written for the events that
-- its application sends.
use Rattle.std.specs.Prelude.{ℕ, Bool, true, false}
use Rattle.asgi_types.specs.declared.facts.Facts.{Facts}
use Rattle.asgi_types.specs.declared.incoming.Incoming.TheVariants.{HttpDisconnect}
use Rattle.asgi_types.specs.declared.limits.Limits.{Limits}
use Rattle.asgi_types.specs.declared.scope.Kind.TheVariants.{Http}
use Rattle.asgi_request.specs.BodyOf.{body_events, body_state}
use Rattle.asgi_request.specs.ChunkedBody.{BodyState, partial, complete, faulty}
use Rattle.asgi_response.specs.Exchange.{added_by_end}
use Rattle.asgi_response.specs.Response.{response_text}
use Rattle.asgi_exchange.specs.Exchange.{Exchange}
use Rattle.asgi_exchange.specs.ExchangeTexts.{input_of}

-- more bytes change nothing about the body: it is whole or faulty
abbrev pub is_over : BodyState → Bool
is_over partial = false
is_over (complete after) = true
is_over (faulty why) = true

abbrev pub http : Limits → Facts → Exchange ℕ ℕ
http limits facts = record {
  kind = Http;
  facts = facts;
  due = body_events limits facts.framing;
  is_over = λ bytes. is_over (body_state limits facts.framing bytes);
  input_disconnect = λ bytes. HttpDisconnect;
  text = response_text facts;
  added = λ said kind broken bytes. added_by_end facts said kind (input_of (body_state limits facts.framing bytes));
  ring = limits.ring;
}
