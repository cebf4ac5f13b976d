-- What `Echo` answers (ASGI HTTP, "Request", "Response Start" and "Response Body").
use Rattle.std.specs.Prelude.{◌≡◌, Bool, true, not, List, [], ◌∷◌, ◌++◌, Option, Some, None, ⊤, codes}
use Rattle.asgi_types.specs.declared.scope.Kind.{Kind}
use Rattle.asgi_types.specs.declared.scope.Kind.TheVariants.{Http, WebSocket, Lifespan}
use Rattle.asgi_types.specs.declared.incoming.Incoming.{Incoming}
use Rattle.asgi_types.specs.declared.incoming.Incoming.TheVariants.{HttpRequest}
use Rattle.asgi_types.specs.declared.outgoing.Outgoing.{Outgoing}
use Rattle.asgi_types.specs.declared.outgoing.Outgoing.TheVariants.{ResponseBody}
use Rattle.asgi_protocol.specs.Verdicts.{is_disconnect}
use Rattle.asgi_types.specs.declared.end_kind.EndKind.{EndKind}
use Rattle.asgi_types.specs.declared.end_kind.EndKind.TheVariants.{Returned, Faulted, Idle}
use Rattle.asgi_apps.specs.Answers.{Answers, close_events, start_of}

-- for each "Request" a body of the same bytes, the last if that was the last
abbrev pub bodies_of : List Incoming → List Outgoing
bodies_of [] = []
bodies_of (HttpRequest body more_body ∷ heard) = ResponseBody body more_body ∷ bodies_of heard
bodies_of (_ ∷ heard) = bodies_of heard

abbrev pub echo_events : List Incoming → List Outgoing
echo_events heard = start_of 200 (codes "content-type") (codes "application/octet-stream") ∷ bodies_of heard

-- what the application sends in a scope of this kind; if None, its call faults
abbrev pub echo_answer : Kind → List Incoming → Option (List Outgoing)
echo_answer Http heard = Some (echo_events heard)
echo_answer WebSocket heard = Some close_events
echo_answer Lifespan heard = None

-- nothing of the request comes after this event: it is the last "Request", or a disconnect
abbrev pub ends_request : Incoming → Bool
ends_request (HttpRequest body more_body) = not more_body
ends_request event = is_disconnect event

-- the request ended with the last event that was received
pub record HeardAll (heard : List Incoming) : Type 0 where
  pub before : List Incoming
  pub last : Incoming
  pub in_order : heard ≡ before ++ last ∷ []
  pub ends : ends_request last ≡ true

-- over HTTP the task returns only once the request has ended
abbrev pub EndsRequest : Option EndKind → Kind → List Incoming → Type 0
EndsRequest (Some Returned) kind heard = kind ≡ Http → HeardAll heard
EndsRequest (Some Faulted) kind heard = ⊤
EndsRequest (Some Idle) kind heard = ⊤
EndsRequest None kind heard = ⊤

-- What was sent is a beginning of the answer, and all of it if the task returned.
abbrev pub EchoAnswers : Kind → List Incoming → List Outgoing → Option EndKind → Type 0
EchoAnswers kind heard said ended = Answers (echo_answer kind heard) heard said ended × EndsRequest ended kind heard
