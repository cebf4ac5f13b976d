-- All that is to be written of an exchange: the text of its events, and what the end of its task adds, once it was taken (ASGI
-- HTTP and WebSocket message formats 2.4; RFC 9112, section 6; RFC 6455, sections 5.6 and 7.1).
use Rattle.std.specs.Prelude.{ℕ, Bool, List, ◌++◌, Option, Some, None, []}
use Rattle.asgi_types.specs.declared.end_kind.EndKind.{EndKind}
use Rattle.asgi_types.specs.declared.facts.Facts.{Facts}
use Rattle.asgi_types.specs.declared.outgoing.Outgoing.{Outgoing}
use Rattle.asgi_request.specs.ChunkedBody.{BodyState, partial, complete, faulty}
use Rattle.asgi_request.specs.Refusals.{status_of}
use Rattle.asgi_response.specs.declared.refusal.Input.{Input}
use Rattle.asgi_response.specs.declared.refusal.Input.TheVariants.{Whole, Faulty, Broken}
use Rattle.asgi_response.specs.Exchange.{exchange_text}
use Rattle.asgi_response.specs.Response.{response_text}
use Rattle.asgi_exchange.specs.Session.{Output, Handshake, session_output, session_ending}

-- the input at the end of the task: a body that is not over is broken off
abbrev pub input_of : BodyState → Input
input_of partial = Broken
input_of (complete after) = Whole
input_of (faulty why) = Faulty (status_of why)

-- over HTTP
abbrev pub text_of : Facts → List Outgoing → Option EndKind → Input → List ℕ
text_of facts events None input = response_text facts events
text_of facts events (Some kind) input = exchange_text facts events kind input

-- of a session, or of an answer in its place
abbrev pub ending_after : Facts → List Outgoing → Option EndKind → (broken : Bool) → List Output
ending_after facts events None broken = []
ending_after facts events (Some kind) broken = session_ending facts events kind broken

abbrev pub session_text : Handshake → Facts → List Outgoing → Option EndKind → (broken : Bool) → List Output
session_text handshake facts events ended broken = session_output handshake facts events ++ ending_after facts events ended broken
