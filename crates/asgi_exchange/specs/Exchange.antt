-- What a scope makes of the lists of one exchange: which events are due from what arrived, and what is written for what was sent.
-- A is what arrives (bytes, or messages), W is what is written.
use Rattle.std.specs.Prelude.{◌≡◌, ℕ, Bool, true, List, [], ◌∷◌, ◌++◌, None}
use mathlib.Core.List.{IsPrefix}
use Rattle.asgi_types.specs.declared.scope.Kind.{Kind}
use Rattle.asgi_types.specs.declared.scope.Kind.TheVariants.{Http, WebSocket, Lifespan}
use Rattle.asgi_types.specs.declared.facts.Facts.{Facts}
use Rattle.asgi_types.specs.declared.incoming.Incoming.{Incoming}
use Rattle.asgi_types.specs.declared.incoming.Incoming.TheVariants.{HttpDisconnect, WsDisconnect}
use Rattle.asgi_types.specs.declared.outgoing.Outgoing.{Outgoing}
use Rattle.asgi_types.specs.declared.end_kind.EndKind.{EndKind}
use Rattle.asgi_protocol.specs.Verdicts.{is_disconnect}
use Rattle.asgi_pipes.specs.Disconnects.{first_disconnect}

pub record Exchange (A W : Type 0) : Type 0 where
  -- the kind of the scope, and what is known of its request: these determine which events are lawful
  pub kind : Kind
  pub facts : Facts
  -- the events that are due from what arrived, without the disconnects
  pub due : List A → List Incoming
  -- whatever more arrives, nothing more is due: the body is whole or faulty, or the client has closed
  pub is_over : List A → Bool
  -- the disconnect if the input ended, failed or was faulty
  pub input_disconnect : List A → Incoming
  -- what is written for the events, and what the end of the task adds; `broken` is whether a disconnect was offered before the
  -- end was taken
  pub text : List Outgoing → List W
  pub added : List Outgoing → EndKind → (broken : Bool) → List A → List W
  -- how many events each queue holds
  pub ring : ℕ

-- the disconnect if the connection is cut short
abbrev pub cut_disconnect : Kind → Incoming
cut_disconnect Http = HttpDisconnect
cut_disconnect WebSocket = WsDisconnect 1006 []
cut_disconnect Lifespan = HttpDisconnect

-- What every schedule relies on.
pub record IsSteady {A W : Type 0} (x : Exchange A W) : Type 0 where
  -- what is due stays due and comes first, whatever more arrives; none of it is a disconnect
  pub due_grows : (arrived more : List A) → IsPrefix (x.due arrived) (x.due (arrived ++ more))
  pub due_is_no_disconnect : (arrived : List A) → first_disconnect (x.due arrived) ≡ None
  -- once it is over, more changes neither what is due nor the disconnect
  pub over_due : (arrived more : List A) → x.is_over arrived ≡ true → x.due (arrived ++ more) ≡ x.due arrived
  pub over_disconnect : (arrived more : List A) → x.is_over arrived ≡ true → x.input_disconnect (arrived ++ more) ≡ x.input_disconnect arrived
  pub input_disconnect_is_one : (arrived : List A) → is_disconnect (x.input_disconnect arrived) ≡ true
  -- the text of any list continues that of its beginning, and what an end adds continues as more arrives
  pub text_grows : (said : List Outgoing) (event : Outgoing) → IsPrefix (x.text said) (x.text (said ++ event ∷ []))
  pub added_grows : (said : List Outgoing) (kind : EndKind) (broken : Bool) (arrived more : List A) → IsPrefix (x.added said kind broken arrived) (x.added said kind broken (arrived ++ more))
