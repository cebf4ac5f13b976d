-- What private functions make of an answer, and of an event.
use Rattle.std.proofs.Common.{◌≡◌, Bool, true, false, List, [], ◌∷◌, ◌++◌, Option, Some, None, refl, ap, sym, ◌∙◌, subst}
use Rattle.std.specs.Prelude.{◌↔◌, IsTrue, map, is_some}
use Rattle.asgi_types.specs.declared.incoming.Payload.{Payload}
use Rattle.asgi_types.specs.declared.incoming.Incoming.{Incoming}
use Rattle.asgi_types.specs.declared.incoming.Incoming.TheVariants.{WsConnect, WsReceive}
use Rattle.asgi_types.specs.declared.outgoing.Outgoing.{Outgoing}
use Rattle.asgi_types.specs.declared.outgoing.Outgoing.TheVariants.{WsSend}
use Rattle.asgi_talks.specs.declared.answer.Answer.{Answer}
use Rattle.asgi_talks.specs.declared.answer.Close.{Close}
use Rattle.asgi_talks.specs.declared.opened.Opened.{Opened}
use Rattle.asgi_talks.specs.declared.talking.Heard.{Heard}
use Rattle.asgi_talks.specs.declared.talking.Heard.TheVariants.{Passed, Turn, Gone, Failed}
use Rattle.asgi_talks.specs.Answering.{answer_events, closing_events}
use Rattle.asgi_talks.specs.private.Steps.{Hears, Opens, Replies, Waits}

-- ---- an answer of which nothing is left

some_left : (messages : List Payload) (close : Option Close) → is_some close ≡ true → map WsSend messages ++ closing_events close ≡ [] → ⊥
some_left messages None closes empty = absurd (cc)
some_left [] (Some close) closes empty = absurd (cc)
some_left (m ∷ messages) (Some close) closes empty = absurd (cc)

left_where : (messages : List Payload) (close : Option Close) → is_some close ≡ false → (messages ≡ []) ↔ (map WsSend messages ++ closing_events close ≡ [])
left_where [] None closes = (λ same. refl, λ empty. refl)
left_where (m ∷ messages) None closes = (λ same. absurd (cc), λ empty. absurd (cc))
left_where messages (Some close) closes = absurd (cc)

-- an answer with a close
pub closing_is_left : (answer : Answer) → is_some answer.close ≡ true → IsTrue false ↔ (answer_events answer ≡ [])
closing_is_left answer closes = (λ never. absurd (cc), λ empty. absurd (some_left answer.messages answer.close closes empty))

-- and one without
pub messages_are_left : (answer : Answer) (empty : Bool) → is_some answer.close ≡ false → IsTrue empty ↔ (answer.messages ≡ [])
    → IsTrue empty ↔ (answer_events answer ≡ [])
messages_are_left answer empty closes tested =
    let all = left_where answer.messages answer.close closes in (λ h. all.0 (tested.0 h), λ h. tested.1 (all.1 h))

-- ---- what comes of an event

module _ {S : Type 0} where
  pub connects : (allows : Opened S → Type 0) (event : Incoming) (called called_after : List (Opened S)) (heard : Heard S) → event ≡ WsConnect
      → Opens allows called called_after heard → Waits allows event called called_after heard
  connects allows event called called_after (Passed stage) is opens = absurd opens
  connects allows event called called_after (Turn stage) is opens = (is, opens)
  connects allows event called called_after Gone is opens = absurd opens
  connects allows event called called_after (Failed fault) is opens = tt

  pub hears : (answers : S → Payload → S → Answer → Type 0) (session : S) (event : Incoming) (message : Payload) (heard : Heard S) → event ≡ WsReceive message
      → Replies answers session message heard → Hears answers session event heard
  hears answers session event message (Passed stage) is replies = absurd replies
  hears answers session event message (Turn stage) is replies = (message, is, replies)
  hears answers session event message Gone is replies = absurd replies
  hears answers session event message (Failed fault) is replies = tt
