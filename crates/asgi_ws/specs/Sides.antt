-- What reads of text and writes of text leave unchanged.
use Rattle.std.specs.Prelude.{◌≡◌, ℕ, List, Option, ◌⊎◌}
use Rattle.std.proofs.Common.{ap, sym, ◌∙◌, inl, inr}
use Rattle.asgi_io.specs.declared.answer.Answer.{Answer}
use Rattle.asgi_ws.specs.declared.messages.Msg.{Msg}
use Rattle.asgi_ws.specs.declared.messages.Call.{Call}

pub record Session : Type 0 where
  pub calls : List Call
  pub coming : Option (List Msg)
  pub leftover : Option (List ℕ)

-- kept by a read: what was written, and the session
pub record WriteSide : Type 0 where
  pub written : Option (List ℕ)
  pub failed : ℕ
  pub answers : List Answer
  pub session : Session

-- kept by a write: what is still to be read, and the session
pub record ReadSide : Type 0 where
  pub remaining : Option (List ℕ)
  pub answers : List Answer
  pub session : Session

-- ---- laws of lines, which state no promise: what a call kept as a whole, it kept in each part

pub read_side : {old new : ReadSide} → new ≡ old → (new.remaining ≡ old.remaining) × (new.answers ≡ old.answers)
read_side same = (ap (λ (s : ReadSide). s.remaining) same, ap (λ (s : ReadSide). s.answers) same)

pub write_side : {old new : WriteSide} → new ≡ old → (new.written ≡ old.written) × ((new.failed ≡ old.failed) × (new.answers ≡ old.answers))
write_side same = (ap (λ (s : WriteSide). s.written) same, (ap (λ (s : WriteSide). s.failed) same, ap (λ (s : WriteSide). s.answers) same))

pub same_session : {old new : Session} → new ≡ old → (new.calls ≡ old.calls) × ((new.coming ≡ old.coming) × (new.leftover ≡ old.leftover))
same_session same = (ap (λ (s : Session). s.calls) same, (ap (λ (s : Session). s.coming) same, ap (λ (s : Session). s.leftover) same))

-- each side contains the session, so keeping one side keeps it
pub session_beside : {w v : WriteSide} {r s : ReadSide} → (v ≡ w) ⊎ (s ≡ r) → w.session ≡ r.session → v.session ≡ s.session
    → (v.session.calls ≡ w.session.calls) × ((v.session.coming ≡ w.session.coming) × (v.session.leftover ≡ w.session.leftover))
session_beside (inl same) before after = same_session (ap (λ (s : WriteSide). s.session) same)
session_beside (inr same) before after = same_session (after ∙ ap (λ (s : ReadSide). s.session) same ∙ sym before)
