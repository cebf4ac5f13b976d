-- One request is answered: its exchange comes after those before it, and the connection is between two requests or has ended.
use Rattle.asgi_conn.proofs.ConnWords.{refl, ◌≡◌, ℕ, ◌+◌, List, [], ◌∷◌, ◌++◌, inl, inr, sym, ap, ◌∙◌, append-nil, subst, Option, Some, None, IsSomeAnd, arith, Bool, EndKind, Facts, Incoming}
use Rattle.asgi_conn.proofs.ConnWords.{Outgoing, Setting, Scope, scope_in, AppEnds, ConnEnds, Promise, said_of, end_of, Outcome, IsLacking, InputEnd, fault_of, ExchangeRecord, IsPromised}
use Rattle.asgi_conn.proofs.ConnWords.{ArePromisedIn, Ended, Tally, IsTallied, IsServing, AppSide, Transferred, OfEnd, IsOpened, HasRun, AnyHalf, Wire, Scene, failures_of, LineState, All-nil}
use Rattle.asgi_types.specs.declared.end_kind.EndKind.TheVariants.{Faulted}
use Rattle.asgi_apps.specs.{declared.running.Lent.Lent, Ends.own_end}
use Rattle.asgi_exchange.specs.{Views.AppView}
use Rattle.asgi_conversation.specs.{Exchanges.fault_count, Persistence.EndsBetween}
use Rattle.asgi_conversation.proofs.LoopLemmas.{lacks_in_front}
use Rattle.asgi_conversation.proofs.SoFarLemmas.{ends_between}
use Rattle.asgi_run.specs.{declared.runner.AppSide.TheVariants.Runs, declared.runner.AppSide.TheVariants.HasEnded, Running.IsOfRequest, Running.Answers}
use Rattle.asgi_halves.specs.{Half.Opens}
use Rattle.asgi_conn.proofs.LeaveLemmas.{http_ends}
use Rattle.std.proofs.lemmas.List.{Elements.All-cons, Elements.All-append, length-append}
use Rattle.asgi_exchange.proofs.EventLemmas.{events_are, end_is}

-- ---- the end that the application's side has

module _ {T E : Type 0} (promise : List Incoming → List Outgoing → Option EndKind → Type 0) (answers : T → List Incoming → List Outgoing → Option EndKind → Type 0) (ends : AppEnds E) (was : E) where
  of_lent : (P : E → Type 0) → P was → (lent : Option (Lent T E))
      → IsSomeAnd lent (λ is. (is.app_end ≡ was) × ((h : List Incoming) (s : List Outgoing) (e : Option EndKind) → answers is.task h s e → promise h s e)) → IsSomeAnd lent (λ is. P is.app_end)
  of_lent P p (Some is) opened = subst P (sym opened.0) p
  of_lent P p None opened = absurd opened

  -- what holds of each end of its pair and of its request holds of this one
  pub of_opened : (P : E → Type 0) (side : AppSide T E) → IsOpened promise answers ends was side → ((app : E) → ends.tag app ≡ ends.tag was → IsOfRequest ends was app → P app) → OfEnd side P
  of_opened P (Runs running) opened on = of_lent P (on was refl (refl, refl)) running.lent opened
  of_opened P (HasEnded app_end kind) opened on = on app_end opened.5 opened.4

  -- ---- the promise

  of_task : (lent : Option (Lent T E)) (heard : List Incoming) (said : List Outgoing) (ended : Option EndKind)
      → IsSomeAnd lent (λ is. (is.app_end ≡ was) × ((h : List Incoming) (s : List Outgoing) (e : Option EndKind) → answers is.task h s e → promise h s e))
      → IsSomeAnd lent (λ is. answers is.task heard said ended) → promise heard said ended
  of_task (Some is) heard said ended opened a = opened.1 heard said ended a
  of_task None heard said ended opened a = absurd a

  pub is_kept : (side : AppSide T E) (app : AppView) (kind : EndKind) → IsOpened promise answers ends was side → Answers answers ends side app kind → end_of app.put ≡ Some kind
      → ends.heard was ≡ [] → ends.said was ≡ [] → promise app.heard (said_of app) (own_end kind)
  is_kept (Runs running) app kind opened a e none silent = of_task running.lent app.heard (said_of app) (own_end kind) opened a
  is_kept (HasEnded app_end before) app kind opened a e none silent =
      let said = events_are (ends.said app_end) (ends.ended app_end) ∙ opened.3.2 ∙ silent in
      let last : Some kind ≡ Some Faulted = sym e ∙ ap (λ (v : AppView). end_of v.put) a ∙ end_is (ends.said app_end) (ends.ended app_end) ∙ opened.2 in
      let is : kind ≡ Faulted = cc in rw (a, opened.3.1 ∙ none, said, is) opened.1

-- ---- one more exchange

faults_more : (exchanges : List ExchangeRecord) (x : ExchangeRecord) → fault_count (exchanges ++ x ∷ []) ≡ fault_count exchanges + fault_of x.ended
faults_more [] x = omega arith
faults_more (e ∷ exchanges) x = let one = faults_more exchanges x in omega (arith, one)

module _ {H T E : Type 0} {halves : AnyHalf H} {answers : T → List Incoming → List Outgoing → Option EndKind → Type 0} {ends : AppEnds E} {scene : halves.Scene} {now : LineState} {half : H}
    {read : List ℕ} {side : AppSide T E} {kind : EndKind} (run : HasRun halves answers ends scene now half read side kind)
    (before : List ExchangeRecord) (scope : Scope) (facts : Facts) (broke : Bool) where
  abbrev one : ExchangeRecord
  one = record { scope = scope; facts = facts; heard = run.world.app.heard; said = said_of run.world.app; ended = end_of run.world.app.put; input_broke = broke }

  -- it is as the application promises it
  pub promised_more : (promise : Promise) (setting : Setting) (was : E)
      → IsOpened (promise (scope_in setting scope)) answers ends was side → ends.heard was ≡ [] → ends.said was ≡ []
      → ArePromisedIn promise setting before → ArePromisedIn promise setting (before ++ one ∷ [])
  promised_more promise setting was opened none silent promised =
      let P = IsPromised promise setting.client.now setting.server.now setting.state.now in
      let kept = is_kept (promise (scope_in setting scope)) answers ends was side run.world.app kind opened run.answers_for run.ended none silent in
      All-append P before (one ∷ []) promised (All-cons P one [] (rw run.ended kept) (All-nil P))

  -- and is counted
  pub tallied_more : (old new : Tally) → IsTallied old before → new.exchanges ≡ old.exchanges + 1 → new.faults ≡ old.faults + fault_of (Some kind) → IsTallied new (before ++ one ∷ [])
  tallied_more old new t more faults =
      let fault = faults_more before one in
      let ended = ap fault_of run.ended in (omega (arith, more, t.0, length-append before (one ∷ [])), omega (arith, faults, t.1, fault, ended))

-- ---- memory or a thread is refused, before the application is called

-- no write failed
pub lacks_moved : {start now : LineState} {end : InputEnd} {read written : List ℕ} (outcome : Outcome) → IsLacking outcome → Transferred start now end read written 0
    → Transferred start now end read written (failures_of outcome)
lacks_moved outcome (inl is) moved = rw is moved
lacks_moved outcome (inr is) moved = rw is moved

pub serves_short : {T C E X : Type 0} {answers : T → List Incoming → List Outgoing → Option EndKind → Type 0} {conns : ConnEnds C} {ends : AppEnds E}
    {conn : X → C} {began : X → AppSide T E → Type 0} {promise : Promise} {setting : Setting} {scene : Scene} {now : LineState}
    {wire : Wire} {facts : Facts} {read arrived : List ℕ} {tally : Tally} → Opens scene now wire facts read arrived
    → ArePromisedIn promise setting scene.exchanges → IsTallied tally scene.exchanges → (outcome : Outcome) → IsLacking outcome
    → IsServing answers conns ends conn began promise wire.limits setting scene.start now tally (Ended outcome)
serves_short {scene} {now} {wire} {facts} {read} {arrived} opens promised tallied outcome lacks =
    let one = opens.within.one in
    let ended = http_ends outcome (lacks_moved outcome lacks opens.moved) (λ report o c.
    let ends : EndsBetween report.outcome wire.limits wire.input one.after [] = lacks_in_front wire.limits wire.input one.after report.outcome (rw o lacks)
    (one.head.head, scene.facts.framing, arrived, one.head.reads) in
    rw append-nil at (ends_between wire.limits wire.input read scene.exchanges one.after scene.before [] report one.so_far ends c)) opens.ahead in
    record { read = read; written = scene.before; exchanges = scene.exchanges; promised = promised; counted = tallied; stands = ended }
