-- The words as tests that compute. That they agree with the shapes of `Lawful` is a law of this crate.
use Rattle.std.specs.Prelude.{Bool, true, false, not, ◌&&◌, ◌||◌, List, [], ◌∷◌, ◌++◌}
use Rattle.asgi_types.specs.declared.scope.Kind.{Kind}
use Rattle.asgi_types.specs.declared.scope.Kind.TheVariants.{Http, WebSocket, Lifespan}
use Rattle.asgi_types.specs.declared.outgoing.Outgoing.{Outgoing}
use Rattle.asgi_types.specs.declared.outgoing.Outgoing.TheVariants.{ResponseStart, ResponseBody, ResponseTrailers, WsAccept, WsSend, WsClose, DenialStart, DenialBody, StartupComplete, StartupFailed, ShutdownComplete, ShutdownFailed}

-- the scope that an event belongs to
abbrev pub is_of : Kind → Outgoing → Bool
is_of Http (ResponseStart status headers trailers) = true
is_of Http (ResponseBody body more_body) = true
is_of Http (ResponseTrailers headers more_trailers) = true
is_of WebSocket (WsAccept subprotocol headers) = true
is_of WebSocket (WsSend payload) = true
is_of WebSocket (WsClose code reason) = true
is_of WebSocket (DenialStart status headers) = true
is_of WebSocket (DenialBody body more_body) = true
is_of Lifespan (StartupComplete state) = true
is_of Lifespan (StartupFailed message) = true
is_of Lifespan ShutdownComplete = true
is_of Lifespan (ShutdownFailed message) = true
is_of _ _ = false

abbrev pub is_empty : List Outgoing → Bool
is_empty [] = true
is_empty (event ∷ events) = false

-- events of one sort, then one event of another, and then what may come after it
abbrev pub is_row : (each last : Outgoing → Bool) → (after : List Outgoing → Bool) → List Outgoing → Bool
is_row each last after [] = false
is_row each last after (event ∷ events) = (each event && is_row each last after events) || (last event && after events)

-- the beginning of such a row
abbrev pub begins_row : (each last : Outgoing → Bool) → (after : List Outgoing → Bool) → List Outgoing → Bool
begins_row each last after [] = true
begins_row each last after (event ∷ events) = (each event && begins_row each last after events) || (last event && after events)

-- the sorts of events that are in a row
abbrev pub is_part : Outgoing → Bool
is_part (ResponseBody body more_body) = more_body
is_part _ = false

abbrev pub is_last_part : Outgoing → Bool
is_last_part (ResponseBody body more_body) = not more_body
is_last_part _ = false

abbrev pub is_section : Outgoing → Bool
is_section (ResponseTrailers headers more_trailers) = more_trailers
is_section _ = false

abbrev pub is_last_section : Outgoing → Bool
is_last_section (ResponseTrailers headers more_trailers) = not more_trailers
is_last_section _ = false

abbrev pub is_message : Outgoing → Bool
is_message (WsSend payload) = true
is_message _ = false

abbrev pub is_close : Outgoing → Bool
is_close (WsClose code reason) = true
is_close _ = false

abbrev pub is_denial_part : Outgoing → Bool
is_denial_part (DenialBody body more_body) = more_body
is_denial_part _ = false

abbrev pub is_last_denial_part : Outgoing → Bool
is_last_denial_part (DenialBody body more_body) = not more_body
is_last_denial_part _ = false

abbrev pub is_stop_answer : Outgoing → Bool
is_stop_answer ShutdownComplete = true
is_stop_answer (ShutdownFailed message) = true
is_stop_answer _ = false

abbrev pub no_event : Outgoing → Bool
no_event event = false

-- what follows the content: the trailers, if the start has announced them, else nothing
abbrev pub is_after_content : (trailers : Bool) → List Outgoing → Bool
is_after_content true events = is_row is_section is_last_section is_empty events
is_after_content false events = is_empty events

abbrev pub begins_after_content : (trailers : Bool) → List Outgoing → Bool
begins_after_content true events = begins_row is_section is_last_section is_empty events
begins_after_content false events = is_empty events

-- the list is a whole word
abbrev pub is_word : Kind → List Outgoing → Bool
is_word kind [] = false
is_word Http (ResponseStart status headers trailers ∷ events) = is_row is_part is_last_part (is_after_content trailers) events
is_word WebSocket (WsAccept subprotocol headers ∷ events) = is_row is_message is_close is_empty events
is_word WebSocket (WsClose code reason ∷ events) = is_empty events
is_word WebSocket (DenialStart status headers ∷ events) = is_row is_denial_part is_last_denial_part is_empty events
is_word Lifespan (StartupComplete state ∷ events) = is_row no_event is_stop_answer is_empty events
is_word Lifespan (StartupFailed message ∷ events) = is_empty events
is_word _ _ = false

-- the list is the beginning of a word
abbrev pub begins_word : Kind → List Outgoing → Bool
begins_word kind [] = true
begins_word Http (ResponseStart status headers trailers ∷ events) = begins_row is_part is_last_part (begins_after_content trailers) events
begins_word WebSocket (WsAccept subprotocol headers ∷ events) = begins_row is_message is_close is_empty events
begins_word WebSocket (WsClose code reason ∷ events) = is_empty events
begins_word WebSocket (DenialStart status headers ∷ events) = begins_row is_denial_part is_last_denial_part is_empty events
begins_word Lifespan (StartupComplete state ∷ events) = begins_row no_event is_stop_answer is_empty events
begins_word Lifespan (StartupFailed message ∷ events) = is_empty events
begins_word _ _ = false

abbrev pub is_closed : Kind → List Outgoing → Bool
is_closed kind said = is_word kind said

-- a word may go on with the event
abbrev pub goes_on : Kind → List Outgoing → Outgoing → Bool
goes_on kind said event = begins_word kind (said ++ event ∷ [])
