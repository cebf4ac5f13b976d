-- One exchange as it is in the end, and what is said alike of a request and of a session: what the application received, and how
-- much of what is to be written went out (ASGI HTTP and WebSocket message formats 2.4; RFC 9112, section 9.3). `O` is a byte
-- over HTTP, and a byte or a message in a session.
use Rattle.std.specs.Prelude.{◌≡◌, ℕ, ◌<◌, ◌⊎◌, Bool, List, [], ◌∷◌, ◌++◌, length, replicate, take, Option, Some}
use mathlib.Core.List.{IsPrefix}
use Rattle.asgi_types.specs.declared.end_kind.EndKind.{EndKind}
use Rattle.asgi_types.specs.declared.facts.Facts.{Facts}
use Rattle.asgi_types.specs.declared.incoming.Incoming.{Incoming}
use Rattle.asgi_types.specs.declared.outgoing.Outgoing.{Outgoing}
use Rattle.asgi_types.specs.declared.scope.Scope.{Scope}
use Rattle.asgi_conversation.specs.OutcomeClasses.{OutcomeClass, Uncut, ByWrite, GivenUp, Lacking, Unbegun}

pub record ExchangeRecord : Type 0 where
  pub scope : Scope
  pub facts : Facts
  pub heard : List Incoming
  pub said : List Outgoing
  -- how its task ended, if it did
  pub ended : Option EndKind
  -- the input ended, failed or was faulty before the end of the task was taken
  pub input_broke : Bool

-- ---- what is received

-- a prefix of the events that are due, and then equal disconnects, for which there is a cause if there are any
pub record Hears (events : List Incoming) (disconnect : Incoming) (IsLeft : (first : List Incoming) → Type 0) (heard : List Incoming) : Type 0 where
  pub first : List Incoming
  pub times : ℕ
  pub in_order : heard ≡ first ++ replicate times disconnect
  pub due : IsPrefix first events
  pub cause : (times ≡ 0) ⊎ IsLeft first

-- ---- what is written

-- What comes next after what went out: the beginning, one event, or the end. `output` is what is written for events, and `ending`
-- what the end of the task adds.
pub data IsNext {O : Type 0} (output : List Outgoing → List O) (ending : EndKind → List O) (x : ExchangeRecord) (out more : List O) : Type 0 where
  Beginning : out ≡ [] → more ≡ output [] → IsNext output ending x out more
  Saying : (before after : List Outgoing) (event : Outgoing) → x.said ≡ before ++ event ∷ after → out ≡ output before
      → output (before ++ event ∷ []) ≡ out ++ more → IsNext output ending x out more
  Ending : (kind : EndKind) → x.ended ≡ Some kind → out ≡ output x.said → more ≡ ending kind → IsNext output ending x out more

-- of what comes next n bytes went out, and not all of it; no byte of a message that was refused
pub record StopsShort {O : Type 0} (output : List Outgoing → List O) (ending : EndKind → List O) (n : ℕ) (x : ExchangeRecord) (written : List O) : Type 0 where
  pub out : List O
  pub more : List O
  pub is_next : IsNext output ending x out more
  pub within : n < length more
  pub written_is : written ≡ out ++ take n more

-- By the class of the outcome: all is done; or a write failed within what came next; or a part is written, since the connection
-- was given up or memory was refused. The last class is that of a connection in which no task was begun.
abbrev pub EndsByClass : OutcomeClass → (done : Type 0) → (stops : ℕ → Type 0) → (part : Type 0) → Type 0
EndsByClass Uncut done stops part = done
EndsByClass (ByWrite n) done stops part = stops n
EndsByClass GivenUp done stops part = part
EndsByClass Lacking done stops part = part
EndsByClass Unbegun done stops part = ⊥
