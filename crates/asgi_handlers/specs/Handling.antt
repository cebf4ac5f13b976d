-- The invariant of a task of a handler, its `stands`.
use Rattle.std.specs.Prelude.{◌≡◌, ℕ, false, List, [], ◌∷◌, ◌++◌, Option, Some, None}
use Rattle.std.specs.List.{list_any}
use Rattle.std.specs.Option.{option_to_list}
use Rattle.std.proofs.Common.{inl, inr}
use Rattle.asgi_types.specs.declared.scope.Kind.{Kind}
use Rattle.asgi_types.specs.declared.scope.Kind.TheVariants as kinds
use Rattle.asgi_types.specs.declared.scope.HttpScope.{HttpScope}
use Rattle.asgi_types.specs.declared.scope.Scope.{Scope}
use Rattle.asgi_types.specs.declared.incoming.Incoming.{Incoming}
use Rattle.asgi_types.specs.declared.outgoing.Outgoing.{Outgoing}
use Rattle.asgi_types.specs.declared.end_kind.EndKind.{EndKind}
use Rattle.asgi_pipes.specs.Disconnects.{has_disconnect}
use Rattle.asgi_apps.specs.Answers.{Answers, not_found_answer}
use Rattle.asgi_apps.specs.Saying.{HasSaid, SaysList, left_of as left_of_says, script}
use Rattle.asgi_apps.specs.Scopes.{kind_of}
use Rattle.asgi_handlers.specs.declared.handled.HandledTask.{HandledTask}
use Rattle.asgi_handlers.specs.declared.handled.HandledTask.TheVariants.{Handles, Denies}
use Rattle.asgi_handlers.specs.declared.handling.Handling.{Handling}
use Rattle.asgi_handlers.specs.declared.reply.Reply.{Reply}
use Rattle.asgi_handlers.specs.declared.sending.Sending.{Sending}
use Rattle.asgi_handlers.specs.Replies.{AnswersRequest, HasBegun, RepliesTo, body_of, is_last_part, reply_events}

-- what is left to send
abbrev pub left_of : Sending → List Outgoing
left_of sending = option_to_list sending.start ++ option_to_list sending.last

-- The request is received: what has come of its body is kept, the handler was not called, and nothing was sent.
pub record IsHearing (body : List ℕ) (given : List Reply) (kind : Kind) (heard : List Incoming) (said : List Outgoing) : Type 0 where
  pub kind_is : kind ≡ kinds.Http
  pub connected : has_disconnect heard ≡ false
  pub not_whole : list_any is_last_part heard ≡ false
  pub body_is : body ≡ body_of heard
  pub uncalled : given ≡ []
  pub silent : said ≡ []

-- A reply is sent, the only one that the handler has given: all of it was sent but what is left.
pub record IsReplying (allows : List ℕ → Reply → Type 0) (left : List Outgoing) (given : List Reply) (kind : Kind) (heard : List Incoming) (said : List Outgoing) : Type 0 where
  pub kind_is : kind ≡ kinds.Http
  pub reply : Reply
  pub replies : RepliesTo allows heard reply
  pub in_order : said ++ left ≡ reply_events reply
  pub once : given ≡ reply ∷ []

-- by whether a reply was given
abbrev pub StandsAt : (List ℕ → Reply → Type 0) → List ℕ → List Reply → Option Sending → Kind → List Incoming → List Outgoing → Type 0
StandsAt allows body given None kind heard said = IsHearing body given kind heard said
StandsAt allows body given (Some sending) kind heard said = IsReplying allows (left_of sending) given kind heard said

-- a running task has kept its promise
pub request_keeps : (allows : List ℕ → Reply → Type 0) (body : List ℕ) (given : List Reply) (sending : Option Sending) (kind : Kind) (heard : List Incoming)
    (said : List Outgoing) → StandsAt allows body given sending kind heard said → AnswersRequest allows heard said None
request_keeps allows body given None kind heard said stands = record { begun = inl stands.silent; ends = tt }
request_keeps allows body given (Some sending) kind heard said stands =
    let begun : HasBegun allows heard said = record { reply = stands.reply; replies = stands.replies; begins = (left_of sending, stands.in_order) } in
    record { begun = inr begun; ends = tt }

module _ {H : Type 0} (replies : H → HttpScope → List ℕ → Reply → Type 0) where
  abbrev pub HandlingStands : Handling H → Kind → List Incoming → List Outgoing → Type 0
  HandlingStands task kind heard said = StandsAt (replies task.asked.handler task.asked.scope.value) task.body.items task.given.items task.sending kind heard said

  abbrev pub HandlingAnswers : Handling H → List Incoming → List Outgoing → Option EndKind → Type 0
  HandlingAnswers task heard said ended = AnswersRequest (replies task.asked.handler task.asked.scope.value) heard said ended

  pub handling_keeps : (task : Handling H) (kind : Kind) (heard : List Incoming) (said : List Outgoing) → HandlingStands task kind heard said
      → HandlingAnswers task heard said None
  handling_keeps task kind heard said stands =
      request_keeps (replies task.asked.handler task.asked.scope.value) task.body.items task.given.items task.sending kind heard said stands

  abbrev pub TaskStands : HandledTask H → Kind → List Incoming → List Outgoing → Type 0
  TaskStands (Handles task) kind heard said = HandlingStands task kind heard said
  TaskStands (Denies says) kind heard said = HasSaid says kind heard said

  abbrev pub TaskAnswers : HandledTask H → List Incoming → List Outgoing → Option EndKind → Type 0
  TaskAnswers (Handles task) heard said ended = HandlingAnswers task heard said ended
  TaskAnswers (Denies says) heard said ended = SaysList says.kind (script says) said ended

  pub task_keeps : (task : HandledTask H) (kind : Kind) (heard : List Incoming) (said : List Outgoing) → TaskStands task kind heard said
      → TaskAnswers task heard said None
  task_keeps (Handles task) kind heard said stands = handling_keeps task kind heard said stands
  task_keeps (Denies says) kind heard said stands = (left_of_says says, stands.in_order)

-- a fresh task of a request, with this handler, in this scope
abbrev pub Begins : {H : Type 0} → HandledTask H → H → HttpScope → Type 0
Begins (Handles task) handler scope = (task.asked.handler ≡ handler) × (task.asked.scope.value ≡ scope) × (task.body.items ≡ []) × (task.given.items ≡ []) × (task.sending ≡ None)
Begins (Denies says) handler scope = ⊥

-- a fresh task that gives what `NotFound` gives in this scope
abbrev pub IsDenied : {H : Type 0} → HandledTask H → Scope → Type 0
IsDenied (Handles task) scope = ⊥
IsDenied (Denies says) scope = HasSaid says (kind_of scope) [] []
    × ((heard : List Incoming) (said : List Outgoing) (ended : Option EndKind) → SaysList says.kind (script says) said ended → Answers (not_found_answer scope) heard said ended)
