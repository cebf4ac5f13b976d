-- What the application of a handler answers: one whole reply to one whole request (ASGI HTTP, "Request", "Response Start" and
-- "Response Body").
use Rattle.std.specs.Prelude.{◌≡◌, ◌⊎◌, ℕ, Bool, false, not, List, [], ◌∷◌, ◌++◌, Option, Some, None, ⊤}
use Rattle.std.specs.List.{list_any}
use mathlib.Core.List.{IsPrefix}
use Rattle.asgi_types.specs.declared.scope.Kind.TheVariants as kind
use Rattle.asgi_types.specs.declared.scope.HttpScope.{HttpScope}
use Rattle.asgi_types.specs.declared.scope.Scope.TheVariants.{Http, WebSocket, Lifespan}
use Rattle.asgi_types.specs.declared.facts.Facts.{Facts}
use Rattle.asgi_types.specs.declared.incoming.Incoming.{Incoming}
use Rattle.asgi_types.specs.declared.incoming.Incoming.TheVariants.{HttpRequest}
use Rattle.asgi_types.specs.declared.outgoing.Outgoing.{Outgoing}
use Rattle.asgi_types.specs.declared.outgoing.Outgoing.TheVariants.{ResponseStart, ResponseBody}
use Rattle.asgi_types.specs.declared.end_kind.EndKind.{EndKind}
use Rattle.asgi_types.specs.declared.end_kind.EndKind.TheVariants.{Returned, Faulted, Idle}
use Rattle.asgi_protocol.specs.Lawful.{IsLawful}
use Rattle.asgi_pipes.specs.Disconnects.{has_disconnect}
use Rattle.asgi_apps.specs.Answers.{Answers, not_found_answer}
use Rattle.asgi_apps.specs.Promises.{Promise}
use Rattle.asgi_apps.specs.WsEcho.{HeardDisconnect}
use Rattle.asgi_handlers.specs.declared.reply.Reply.{Reply}

-- the two events of a reply: its start, and its one body, which is the last
abbrev pub reply_events : Reply → List Outgoing
reply_events reply = ResponseStart reply.status reply.headers false ∷ ResponseBody reply.body false ∷ []

-- the bytes of the body that were received, those of each "Request" in order
abbrev pub body_of : List Incoming → List ℕ
body_of [] = []
body_of (HttpRequest body more_body ∷ heard) = body ++ body_of heard
body_of (_ ∷ heard) = body_of heard

-- the event has the last part of a body
abbrev pub is_last_part : Incoming → Bool
is_last_part (HttpRequest body more_body) = not more_body
is_last_part _ = false

-- The whole request was received, and nothing after it: the last event is the first that has a last part, and no disconnect came.
pub record HeardWhole (heard : List Incoming) : Type 0 where
  pub before : List Incoming
  pub part : List ℕ
  pub in_order : heard ≡ before ++ HttpRequest part false ∷ []
  pub first : list_any is_last_part before ≡ false
  pub connected : has_disconnect heard ≡ false

-- The reply is one that the handler's promise allows to the whole body, and the whole request was received.
pub record RepliesTo (allows : List ℕ → Reply → Type 0) (heard : List Incoming) (reply : Reply) : Type 0 where
  pub whole : HeardWhole heard
  pub allowed : allows (body_of heard) reply

-- what was sent is a beginning of such a reply
pub record HasBegun (allows : List ℕ → Reply → Type 0) (heard : List Incoming) (said : List Outgoing) : Type 0 where
  pub reply : Reply
  pub replies : RepliesTo allows heard reply
  pub begins : IsPrefix said (reply_events reply)

-- it is all of one
pub record HasReplied (allows : List ℕ → Reply → Type 0) (heard : List Incoming) (said : List Outgoing) : Type 0 where
  pub reply : Reply
  pub replies : RepliesTo allows heard reply
  pub all : said ≡ reply_events reply

-- it is a beginning of one that may not be sent to each request
pub record IsTurnedAway (allows : List ℕ → Reply → Type 0) (heard : List Incoming) (said : List Outgoing) : Type 0 where
  pub reply : Reply
  pub replies : RepliesTo allows heard reply
  pub begins : IsPrefix said (reply_events reply)
  pub unlawful : ((facts : Facts) → IsLawful kind.Http facts (reply_events reply)) → ⊥

-- the client was gone before its request was whole, and nothing was sent
pub record IsLeft (heard : List Incoming) (said : List Outgoing) : Type 0 where
  pub silent : said ≡ []
  pub gone : HeardDisconnect heard
  pub not_whole : list_any is_last_part heard ≡ false

-- The task returns once it has sent a whole reply, or the client was gone. It faults before it sends anything, where the handler
-- gave no reply or memory was refused, or where its reply may not be sent.
abbrev pub EndsRequest : (List ℕ → Reply → Type 0) → List Incoming → List Outgoing → Option EndKind → Type 0
EndsRequest allows heard said (Some Returned) = HasReplied allows heard said ⊎ IsLeft heard said
EndsRequest allows heard said (Some Faulted) = (said ≡ []) ⊎ IsTurnedAway allows heard said
EndsRequest allows heard said (Some Idle) = ⊤
EndsRequest allows heard said None = ⊤

-- What was received and sent of a request, and how its task ended. `allows` is the handler's promise for the scope: which reply
-- it may give to which body.
pub record AnswersRequest (allows : List ℕ → Reply → Type 0) (heard : List Incoming) (said : List Outgoing) (ended : Option EndKind) : Type 0 where
  -- nothing was sent, or the whole request was received, and a beginning of a reply that the promise allows was sent
  pub begun : (said ≡ []) ⊎ HasBegun allows heard said
  pub ends : EndsRequest allows heard said ended

-- A request is answered so. A session is refused, and in a lifespan scope the call faults, as `NotFound` does both.
abbrev pub HandledAnswers : {H : Type 0} → (H → HttpScope → List ℕ → Reply → Type 0) → H → Promise
HandledAnswers replies handler (Http scope) heard said ended = AnswersRequest (replies handler scope) heard said ended
HandledAnswers replies handler (WebSocket scope) heard said ended = Answers (not_found_answer (WebSocket scope)) heard said ended
HandledAnswers replies handler (Lifespan scope) heard said ended = Answers (not_found_answer (Lifespan scope)) heard said ended
