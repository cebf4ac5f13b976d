-- Sessions that say nothing unasked, and what they are sent: one answer to each message, and nothing else.
use Rattle.std.specs.Prelude.{◌≡◌, List, [], ◌∷◌, map, Option, Some, None}
use Rattle.asgi_types.specs.declared.incoming.Payload.{Payload}
use Rattle.asgi_talks.specs.declared.answer.Answer.{Answer}
use Rattle.asgi_talks.specs.Answering.{events_of, session_after}
use Rattle.asgi_talks.specs.Making.{no_answer}
use Rattle.asgi_talks.specs.Sessions.{Answered, Given, Replied, Unasked, answer_in}

module _ {S : Type 0} where
  -- nothing is said, and the session stays as it is
  abbrev pub says_nothing : S → S → Answer → Type 0
  says_nothing before after answer = (after ≡ before) × (answer ≡ no_answer)

  -- no session fails
  abbrev pub never : S → Type 0
  never session = ⊥

-- the answers to messages among the turns
abbrev pub replies_in : List Given → List Answer
replies_in [] = []
replies_in (Replied answer ∷ given) = answer ∷ replies_in given
replies_in (Unasked answer ∷ given) = replies_in given

module _ {S : Type 0} (answers : S → Payload → S → Answer → Type 0) where
  -- each message got one answer, in order: one that the promise allows in the state that the answers before it left
  abbrev pub AnsweredEach : List Answer → List Payload → (before after : Option S) → Type 0
  AnsweredEach [] messages before after = (messages ≡ []) × (after ≡ before)
  AnsweredEach (answer ∷ replies) (message ∷ messages) (Some session) after =
      (next : S) × answers session message next answer × AnsweredEach replies messages (session_after answer next) after
  AnsweredEach (answer ∷ replies) (message ∷ messages) None after = ⊥
  AnsweredEach (answer ∷ replies) [] before after = ⊥

  -- what a quiet session gave is one answer to each message, and what is sent of it is what is sent of these answers
  abbrev pub QuietIsAnswered : Type 0
  QuietIsAnswered = (given : List Given) (messages : List Payload) (before after : Option S) → Answered answers says_nothing given messages before after
      → AnsweredEach (replies_in given) messages before after × (events_of (map answer_in given) ≡ events_of (replies_in given))
