-- A quiet session gives one answer to each message, and nothing else.
use Rattle.std.proofs.Common.{◌≡◌, List, [], ◌∷◌, ◌++◌, Option, Some, None, refl, ap, ◌∙◌, subst}
use Rattle.std.specs.Prelude.{map}
use Rattle.asgi_types.specs.declared.incoming.Payload.{Payload}
use Rattle.asgi_types.specs.declared.outgoing.Outgoing.{Outgoing}
use Rattle.asgi_talks.specs.declared.answer.Answer.{Answer}
use Rattle.asgi_talks.specs.Answering.{answer_events, events_of, session_after}
use Rattle.asgi_talks.specs.Quiet.{AnsweredEach, QuietIsAnswered, replies_in, says_nothing}
use Rattle.asgi_talks.specs.Sessions.{Answered, Given, Replied, Unasked, answer_in}

module _ {S : Type 0} (answers : S → Payload → S → Answer → Type 0) where
  each_is_answered : (given : List Given) (messages : List Payload) (before after : Option S) → Answered answers says_nothing given messages before after
      → AnsweredEach answers (replies_in given) messages before after
  each_is_answered [] messages before after each = each
  each_is_answered (Replied a ∷ given) (m ∷ messages) (Some s) after each = (each.0, each.1, each_is_answered given messages (session_after a each.0) after each.2)
  each_is_answered (Replied a ∷ given) (m ∷ messages) None after each = absurd each
  each_is_answered (Replied a ∷ given) [] before after each = absurd each
  each_is_answered (Unasked a ∷ given) messages (Some s) after each =
      let same : session_after a each.0 ≡ Some s = ap (λ (x : Answer). session_after x each.0) each.1.1 ∙ ap (λ (n : S). Some n) each.1.0 in
      each_is_answered given messages (Some s) after (subst (λ (b : Option S). Answered answers says_nothing given messages b after) same each.2)
  each_is_answered (Unasked a ∷ given) messages None after each = absurd each

  nothing_else : (given : List Given) (messages : List Payload) (before after : Option S) → Answered answers says_nothing given messages before after
      → events_of (map answer_in given) ≡ events_of (replies_in given)
  nothing_else [] messages before after each = refl
  nothing_else (Replied a ∷ given) (m ∷ messages) (Some s) after each =
      ap (λ (l : List Outgoing). answer_events a ++ l) (nothing_else given messages (session_after a each.0) after each.2)
  nothing_else (Replied a ∷ given) (m ∷ messages) None after each = absurd each
  nothing_else (Replied a ∷ given) [] before after each = absurd each
  nothing_else (Unasked a ∷ given) messages (Some s) after each =
      ap (λ (x : Answer). answer_events x ++ events_of (map answer_in given)) each.1.1 ∙ nothing_else given messages (session_after a each.0) after each.2
  nothing_else (Unasked a ∷ given) messages None after each = absurd each

  pub quiet_is_answered : QuietIsAnswered answers
  quiet_is_answered given messages before after each = (each_is_answered given messages before after each, nothing_else given messages before after each)
