-- An opening handshake is served: its exchange comes after those before it, and the connection has ended in it.
use Rattle.asgi_conn.proofs.ConnWords.{◌≡◌, ℕ, List, [], ◌∷◌, ◌++◌, sym, ap, ◌∙◌, subst, Option, EndKind, Facts, Upgrade, Incoming, Outgoing, Setting, Scope, Next, Head, BeginsWithHandshake}
use Rattle.asgi_conn.proofs.ConnWords.{HasClosed, StandsFor, AppEnds, ConnEnds, Outcome, IsLacking, ArePromisedIn, NextRequest, ConnectionEnds, NextStep, Ended, Tally, IsTallied, IsServing, Stage}
use Rattle.asgi_conn.proofs.ConnWords.{Over, WebSocketHalf, Wire, SessionScene, OpensHandshake, AppSide, LineState, Promise}
use Rattle.asgi_halves.specs.WebSocketHalf.{IsAt, IsOf, OpensSession}
use Rattle.asgi_response.specs.declared.text.ResponseText.{ResponseText}
use Rattle.asgi_conn.proofs.{AnswerLemmas.lacks_moved, LeaveLemmas.http_ends}
use Rattle.asgi_response.specs.Standing as standing
use Rattle.asgi_conversation.proofs.LoopLemmas as loop

-- ---- the exchange begins

module _ {scene : SessionScene} {now : LineState} {wire : Wire} {facts : Facts} {read : List ℕ} (o : OpensHandshake scene now wire facts read) where
  -- what the reader holds are the frames
  pub frames_are : (taken : List ℕ) → ((bytes : List ℕ) (given : List Next) (after : List ℕ) (scope : Scope) (facts : Facts) (frames : List ℕ) → HasClosed wire.requests.limits bytes given after
      → BeginsWithHandshake wire.requests.limits after scope facts frames → StandsFor wire.requests bytes (given ++ Head scope facts ∷ []) → taken ≡ frames) → taken ≡ scene.frames
  frames_are taken frames =
      frames read o.given o.after scene.scope scene.facts scene.frames (rw o.reader_limits o.between.closed) (rw o.reader_limits o.head) o.stands

  pub opens_session : {later : Wire} {own : Facts} (text : ResponseText) {taken : List ℕ} → later ≡ record wire { requests = later.requests } → own ≡ facts → taken ≡ scene.frames
      → (own.framing ≡ Upgrade → standing.StandsForSession text own []) → facts.framing ≡ Upgrade → OpensSession scene now later own text taken read
  opens_session {later} {own} text {taken} same copied frames denial upgrade =
      let facts_are = copied ∙ o.facts_are in
      let denied = subst (λ (f : Facts). standing.StandsForSession text f []) facts_are (denial (ap (λ (f : Facts). f.framing) copied ∙ upgrade)) in
      let told = o.between.so_far in
      let fixed : IsOf scene own (record wire { requests = later.requests }) read =
      record { facts_are = facts_are; limits_are = o.limits_are; after = o.after; answered = told.each; head = o.head; before_is = told.written_is; read_is = o.read_is } in
      subst (λ (w : Wire). OpensSession scene now w own text taken read) (sym same) (record { fixed = fixed; moved = o.moved; denial = denied; frames = frames; empty = o.empty })

  -- memory or a thread is refused, before the application is called
  pub opens_short : {T C E X : Type 0} {answers : T → List Incoming → List Outgoing → Option EndKind → Type 0} {conns : ConnEnds C} {ends : AppEnds E}
      {conn : X → C} {began : X → AppSide T E → Type 0} {promise : Promise} {setting : Setting} {tally : Tally}
      → ArePromisedIn promise setting scene.exchanges → IsTallied tally scene.exchanges → (outcome : Outcome) → IsLacking outcome
      → IsServing answers conns ends conn began promise scene.limits setting scene.start now tally (Ended outcome)
  opens_short promised tallied outcome lacks =
      let ended = http_ends outcome (lacks_moved outcome lacks o.moved) (λ report is c.
      loop.unbegun scene.limits wire.input read o.given scene.exchanges o.after scene.before report o.between c (rw is lacks) (o.head.head, Upgrade, scene.frames, o.head.reads)) o.ahead in
      record { read = read; written = scene.before; exchanges = scene.exchanges; promised = promised; counted = tallied; stands = ended }

-- ---- and is over

-- a session is not followed by a next request
pub ends_connection : (scene : SessionScene) (half : WebSocketHalf) (view : _) → IsAt half.stage scene half view → (following : NextStep) → half.stage ≡ Over following
    → (outcome : Outcome) × (half.stage ≡ Over (ConnectionEnds outcome))
ends_connection scene half view at NextRequest is = absurd (subst (λ (s : Stage). IsAt s scene half view) is at)
ends_connection scene half view at (ConnectionEnds outcome) is = (outcome, is)
