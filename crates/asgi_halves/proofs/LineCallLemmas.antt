-- The calls of a line, by what is known of it before and after.
use Rattle.asgi_halves.proofs.HalfWords.{◌≡◌, ℕ, List, [], ◌∷◌, ◌++◌, Call, Got, Put, SentMessage, LineState, Turn, IsTurnOfRead, OfMessage}
use Rattle.asgi_halves.proofs.TalkLemmas.{LeavesText}
use Rattle.asgi_halves.specs.Kinds.{turn_by}
use Rattle.asgi_ws.specs.{Lines.state_of, Sessions.Loses, Sessions.count_after, Sessions.given_by, Sessions.has_failed, Sessions.is_failed, Sessions.kept_by}
use Rattle.asgi_io.specs.declared.counts.Counts as counts
use Rattle.asgi_io.specs.declared.reads.Reads as reads
use Rattle.asgi_ws.specs.declared.line.Line as line
use Rattle.asgi_ws.specs.declared.messages.Messages as messages

-- a message was read
pub record HasRead (was now : LineState) (answer : Got) : Type 0 where
  pub text : LeavesText was now
  pub told : now.session.calls ≡ was.session.calls ++ Call.Read answer ∷ []
  pub loses : Loses was.session.coming now.session.coming (given_by answer)
  pub count : now.failed ≡ count_after was.failed (is_failed answer)
  pub kept : now.session.leftover ≡ was.session.leftover

-- a message or a close was sent
pub record HasSent (was now : LineState) (item : SentMessage) (answer : Put) : Type 0 where
  pub text : LeavesText was now
  pub told : now.session.calls ≡ was.session.calls ++ Call.Send item answer ∷ []
  pub count : now.failed ≡ count_after was.failed (has_failed answer)
  pub coming : now.session.coming ≡ was.session.coming
  pub kept : now.session.leftover ≡ was.session.leftover

-- the line was switched to messages
pub record HasUpgraded (was now : LineState) (bytes : List ℕ) : Type 0 where
  pub text : LeavesText was now
  pub keeps : now.session.leftover ≡ kept_by was.session.leftover bytes
  pub count : now.failed ≡ was.failed
  pub calls : now.session.calls ≡ was.session.calls
  pub coming : now.session.coming ≡ was.session.coming

-- the turn of a read is that of its answer
pub turn_of_message : (Rests : Type 0) (was now : LineState) (answer : Got) (turn : Turn) → HasRead was now answer → turn ≡ turn_by answer → IsTurnOfRead Rests was now turn
turn_of_message Rests was now answer turn read is = OfMessage answer read.told read.text.reads is

module _ {L : Type 0} (G : line.Ghosts L) (R : reads.Ghosts L) (W : counts.Ghosts L) (M : messages.Ghosts L) (told_by : (x : L) → G.state x ≡ state_of R W M x) (old new : L) where
  -- what holds of the members holds of what is known of the line
  pub by_state : (P : LineState → LineState → Type 0) → P (state_of R W M old) (state_of R W M new) → P (G.state old) (G.state new)
  by_state P p = rw (told_by old, told_by new) p

  abbrev SameText : Type 0
  SameText = (R.remaining new ≡ R.remaining old) × (W.written new ≡ W.written old) × (R.answers new ≡ R.answers old) × (W.answers new ≡ W.answers old)

  -- by the clauses of a line
  pub has_read : (answer : Got) → M.calls new ≡ M.calls old ++ Call.Read answer ∷ [] → Loses (M.coming old) (M.coming new) (given_by answer)
      → W.failed new ≡ count_after (W.failed old) (is_failed answer) → M.leftover new ≡ M.leftover old → SameText → HasRead (G.state old) (G.state new) answer
  has_read answer told loses count kept text = by_state (λ was now. HasRead was now answer) assumption

  pub has_sent : (item : SentMessage) (answer : Put) → M.calls new ≡ M.calls old ++ Call.Send item answer ∷ [] → W.failed new ≡ count_after (W.failed old) (has_failed answer)
      → (M.coming new ≡ M.coming old) × (M.leftover new ≡ M.leftover old) → SameText → HasSent (G.state old) (G.state new) item answer
  has_sent item answer told count same text = by_state (λ was now. HasSent was now item answer) assumption

  pub has_upgraded : (bytes : List ℕ) → M.leftover new ≡ kept_by (M.leftover old) bytes → W.failed new ≡ W.failed old
      → (M.calls new ≡ M.calls old) × (M.coming new ≡ M.coming old) → SameText → HasUpgraded (G.state old) (G.state new) bytes
  has_upgraded bytes keeps count same text = by_state (λ was now. HasUpgraded was now bytes) assumption
