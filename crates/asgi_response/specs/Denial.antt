-- The denial of an opening handshake, as the response that it is (ASGI WebSocket message format 2.4, the extension
-- `websocket.http.response`).
use Rattle.std.specs.Prelude.{ℕ, Bool, true, false, List, [], ◌∷◌, map, if◌then◌else◌}
use Rattle.asgi_types.specs.declared.facts.Facts.{Facts}
use Rattle.asgi_types.specs.declared.outgoing.Outgoing.{Outgoing}
use Rattle.asgi_types.specs.declared.outgoing.Outgoing.TheVariants.{ResponseStart, ResponseBody, WsAccept, WsClose, DenialStart, DenialBody}
use Rattle.asgi_response.specs.declared.progress.Progress.{Progress}
use Rattle.asgi_response.specs.declared.progress.Progress.TheVariants.{Begun}
use Rattle.asgi_response.specs.declared.refusal.Input.{Input}
use Rattle.asgi_response.specs.Exchange.{end_text}
use Rattle.asgi_response.specs.Progress.{progress_of}
use Rattle.asgi_response.specs.Response.{message_text}

-- a denial is a response without trailers, after which the connection closes
abbrev pub closing_facts : Facts → Facts
closing_facts facts = record facts { close = true }

-- the event of a response that corresponds to an event of a denial
abbrev pub as_response : Outgoing → Outgoing
as_response (DenialStart status headers) = ResponseStart status headers false
as_response (DenialBody body more_body) = ResponseBody body more_body
as_response event = event

-- the text of a denial: that of the response
abbrev pub denial_text : Facts → List Outgoing → List ℕ
denial_text facts events = message_text (closing_facts facts) (map as_response events)

-- an accept or a close was sent: what is written for them is no response of the application
abbrev pub is_decided : List Outgoing → Bool
is_decided (WsAccept subprotocol headers ∷ events) = true
is_decided (WsClose code reason ∷ events) = true
is_decided _ = false

-- What the end of a task adds: nothing after an accept or a close; otherwise what it adds to the response. So a task
-- that sent nothing, or a denial's start alone, leaves 500.
abbrev pub denial_end_text : Facts → List Outgoing → Input → List ℕ
denial_end_text facts events input =
    if is_decided events then [] else end_text (closing_facts facts) (map as_response events) input

-- how far the response to the handshake is
abbrev pub denial_progress : Facts → List Outgoing → Progress
denial_progress facts events =
    if is_decided events then Begun else progress_of (closing_facts facts) (map as_response events)
