-- What the ready applications answer, each as a function of its scope and of what it received (ASGI HTTP, "Response Start" and
-- "Response Body"; ASGI WebSocket, "Close").
use Rattle.std.specs.Prelude.{◌≡◌, ℕ, false, List, [], ◌∷◌, ◌++◌, Option, Some, None, codes}
use mathlib.Core.List.{IsPrefix}
use Rattle.asgi_types.specs.Fields.{field_of}
use Rattle.asgi_types.specs.declared.scope.Scope.{Scope}
use Rattle.asgi_types.specs.declared.scope.Scope.TheVariants.{Http, WebSocket, Lifespan}
use Rattle.asgi_types.specs.declared.incoming.Incoming.{Incoming}
use Rattle.asgi_types.specs.declared.outgoing.Outgoing.{Outgoing}
use Rattle.asgi_types.specs.declared.outgoing.Outgoing.TheVariants.{ResponseStart, ResponseBody, WsClose}
use Rattle.asgi_types.specs.declared.end_kind.EndKind.{EndKind}
use Rattle.asgi_types.specs.declared.end_kind.EndKind.TheVariants.{Returned, Faulted, Idle}

-- the code of a line feed
abbrev pub line_feed : ℕ
line_feed = 10

-- a "Response Start" with one field
abbrev pub start_of : ℕ → List ℕ → List ℕ → Outgoing
start_of status name value = ResponseStart status (field_of name value ∷ []) false

-- a whole response with one field and one body
abbrev pub response : ℕ → List ℕ → List ℕ → List ℕ → List Outgoing
response status name value body = start_of status name value ∷ ResponseBody body false ∷ []

-- a whole response of text
abbrev pub text_events : List ℕ → List Outgoing
text_events text = response 200 (codes "content-type") (codes "text/plain") text

-- the greeting
abbrev pub hello_events : List Outgoing
hello_events = text_events (codes "hello" ++ line_feed ∷ [])

abbrev pub not_found_events : List Outgoing
not_found_events = response 404 (codes "content-length") (codes "0") []

-- a session is refused (RFC 6455, section 7.4.1: 1000 is a normal closure)
abbrev pub close_events : List Outgoing
close_events = WsClose 1000 [] ∷ []

-- What each application sends in a scope; if None, its call faults.
abbrev pub hello_answer : Scope → Option (List Outgoing)
hello_answer (Http scope) = Some hello_events
hello_answer (WebSocket scope) = Some close_events
hello_answer (Lifespan scope) = None

abbrev pub not_found_answer : Scope → Option (List Outgoing)
not_found_answer (Http scope) = Some not_found_events
not_found_answer (WebSocket scope) = Some close_events
not_found_answer (Lifespan scope) = None

-- the prefix under which the application is mounted, in a line
abbrev pub root_path_answer : Scope → Option (List Outgoing)
root_path_answer (Http scope) = Some (text_events (scope.root_path ++ line_feed ∷ []))
root_path_answer (WebSocket scope) = Some close_events
root_path_answer (Lifespan scope) = None

-- What was sent is a beginning of the answer, and all of it if the task returned. Only a call faults, before anything was
-- received or sent: if there is no answer, or for want of memory.
abbrev pub Answers : Option (List Outgoing) → List Incoming → List Outgoing → Option EndKind → Type 0
Answers None heard said ended = (ended ≡ Some Faulted) × (heard ≡ []) × (said ≡ [])
Answers (Some answer) heard said None = IsPrefix said answer
Answers (Some answer) heard said (Some Returned) = said ≡ answer
Answers (Some answer) heard said (Some Faulted) = (heard ≡ []) × (said ≡ [])
Answers (Some answer) heard said (Some Idle) = IsPrefix said answer
