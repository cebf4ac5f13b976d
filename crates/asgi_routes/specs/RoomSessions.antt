-- The sessions of rooms of different types, as one type: each is what its room's own session is.
use Rattle.asgi_types.specs.declared.incoming.Payload.{Payload}
use Rattle.asgi_talks.specs.declared.answer.Answer.{Answer}
use Rattle.asgi_routes.specs.declared.room_session.RoomSession.{RoomSession}
use Rattle.asgi_routes.specs.declared.room_session.RoomSession.TheVariants.{This, Other}

module _ {S T : Type 0} where
  -- a message is answered as the room's own session promises, which stays one of this room
  abbrev pub RoomAnswers : (S → Payload → S → Answer → Type 0) → (T → Payload → T → Answer → Type 0) → RoomSession S T → Payload → RoomSession S T → Answer → Type 0
  RoomAnswers own others (This before) message (This after) answer = own before message after answer
  RoomAnswers own others (This before) message (Other after) answer = ⊥
  RoomAnswers own others (Other before) message (This after) answer = ⊥
  RoomAnswers own others (Other before) message (Other after) answer = others before message after answer

  -- so is what it says unasked
  abbrev pub RoomTells : (S → S → Answer → Type 0) → (T → T → Answer → Type 0) → RoomSession S T → RoomSession S T → Answer → Type 0
  RoomTells own others (This before) (This after) answer = own before after answer
  RoomTells own others (This before) (Other after) answer = ⊥
  RoomTells own others (Other before) (This after) answer = ⊥
  RoomTells own others (Other before) (Other after) answer = others before after answer

  -- it may fail to speak if that session may
  abbrev pub RoomFails : (S → Type 0) → (T → Type 0) → RoomSession S T → Type 0
  RoomFails own others (This session) = own session
  RoomFails own others (Other session) = others session
