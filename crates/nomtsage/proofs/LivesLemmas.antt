-- What was served between a start and its stop is what the server promises.
use Rattle.std.proofs.Common.{◌≡◌, ◌⊎◌, ◌∙◌, inl, inr, ap, refl, ℕ, List, [], Option, Some, None, subst, sym}
use Rattle.asgi_types.specs.declared.end_kind.EndKind.{EndKind}
use Rattle.asgi_types.specs.declared.incoming.Incoming.{Incoming}
use Rattle.asgi_types.specs.declared.limits.Limits.{Limits}
use Rattle.asgi_types.specs.declared.outgoing.Outgoing.{Outgoing}
use Rattle.asgi_apps.specs.declared.task.AppTask as tasks
use Rattle.asgi_types.specs.declared.state.StateValue.{StateValue}
use Rattle.asgi_apps.specs.Promises.{Promise}
use Rattle.asgi_lifespan.specs.declared.lifespan.Start.{Start}
use Rattle.asgi_lifespan.specs.declared.lifespan.Start.TheVariants as start
use Rattle.asgi_lifespan.specs.declared.lifespan.Lifespan.{Lifespan}
use Rattle.asgi_lifespan.specs.declared.stop.Stop.{Stop}
use Rattle.asgi_lifespan.specs.declared.stop.Stop.TheVariants as stop
use Rattle.asgi_lifespan.specs.Facts.{lifespan_scope}
use Rattle.asgi_lifespan.specs.Lifespan.{StartAnswer, started, failed, unsupported, start_answer}
use Rattle.asgi_lifespan.specs.Starting.{Starts, PromiseOf, IsNoMemory, turns_in}
use Rattle.asgi_lifespan.specs.Stopping.{Stops}
use Rattle.nomtsage.specs.declared.ending.Ending.{Ending}
use Rattle.nomtsage.specs.declared.ending.Served.{Served}
use Rattle.nomtsage.specs.declared.living.Begun.{Begun}
use Rattle.nomtsage.specs.declared.living.Begun.TheVariants as begun
use Rattle.nomtsage.specs.declared.living.Living.{Living}
use Rattle.nomtsage.specs.Serving.{LivesOn, LivesOrNot, Follows, ending_of}
use Rattle.nomtsage.specs.private.Living.{Begins, EndsBy, IsBegun, IsStopped}

-- in the one case nothing was counted
pub uncounted : {A B P : Type 0} (count : P → ℕ) (was is : P) → (A × (is ≡ was)) ⊎ B → (A × (count is ≡ count was)) ⊎ B
uncounted count was is (inl (a, same)) = inl (a, ap count same)
uncounted count was is (inr b) = inr b

-- a task that was stopped kept what is promised of it
kept_within : (one other : List Incoming → List Outgoing → Option EndKind → Type 0) (limits : Limits) (heard : List Incoming) (said : List Outgoing) (before after : ℕ) (answer : Stop)
    → ((h : List Incoming) (s : List Outgoing) (e : Option EndKind) → one h s e → other h s e) → Stops one limits heard said before after answer → Stops other limits heard said before after answer
kept_within one other limits heard said before after answer within x = record {
  heard = x.heard;
  said = x.said;
  ended = x.ended;
  heard_on = x.heard_on;
  said_on = x.said_on;
  hears = x.hears;
  lawful = x.lawful;
  promised = within x.heard x.said x.ended x.promised;
  answered = x.answered;
  turns = x.turns;
}

-- how a server ended by the stop of what it served,
pub ends_stopped : {T : Type 0} {g : tasks.Ghosts T} (lifespan : Option (Lifespan T g)) (life : Lifespan T g) (before after : ℕ) (how : Served) (ends : Ending) (answer : Stop)
    → lifespan ≡ Some life → ((limits : Limits) → IsStopped limits life before after answer) → ends ≡ ending_of how answer → EndsBy lifespan before after how ends
ends_stopped lifespan life before after how ends answer same stopped is = subst (λ l. EndsBy l before after how ends) (sym same) (answer, stopped, is)

-- and with no lifespan
pub ends_unstopped : {T : Type 0} {g : tasks.Ghosts T} (lifespan : Option (Lifespan T g)) (before : ℕ) (how : Served) (ends : Ending)
    → lifespan ≡ None → ends ≡ ending_of how stop.Stopped → EndsBy lifespan before before how ends
ends_unstopped lifespan before how ends same is = subst (λ l. EndsBy l before before how ends) (sym same) (refl, is)

-- the answer to the start has another name
pub begins_so : {T R : Type 0} {g : tasks.Ghosts T} {P : Type 0} (count : P → ℕ) (was is : P) (answers : Promise) (limits : Limits) (answer named : Start T g) (found : Begun T R g)
    → (IsNoMemory answer × (is ≡ was)) ⊎ Starts (answers lifespan_scope) limits (count was) (count is) answer → answer ≡ named → IsBegun named (count is) found
    → Begins answers limits (count was) found
begins_so count was is answers limits answer named found starts same so =
    (answer, count is, uncounted count was is starts, subst (λ a. IsBegun a (count is) found) (sym same) so)

module _ {A T : Type 0} (serves : List (List ℕ × StateValue) → A → A → Served → Type 0) (answers : Promise) (limits : Limits) (g : tasks.Ghosts T)
    (old new : A) (before between after : ℕ) (ends : Ending) where
  -- an application that was started like this, and what came after its answer
  follows_by : (answer : Start T g) (told : Option StartAnswer) (x : Starts (answers lifespan_scope) limits before between answer) → start_answer x.said x.ended ≡ told
      → Follows serves answers limits told x.heard x.said old new between after ends → LivesOrNot serves answers limits old new before after ends
  follows_by answer told x is follows = inl record {
    heard = x.heard;
    said = x.said;
    ended = x.ended;
    hears = x.hears;
    lawful = x.lawful;
    promised = x.promised;
    gave_up = turns_in answer;
    between = between;
    turns = x.turns;
    follows = subst (λ a. Follows serves answers limits a x.heard x.said old new between after ends) (sym is) follows;
  }

  -- it was served, and stopped
  lived : {R : Type 0} (answer : Start T g) → (IsNoMemory answer × (between ≡ before)) ⊎ Starts (answers lifespan_scope) limits before between answer
      → (living : Living T R g) (state : List (List ℕ × StateValue)) → IsBegun answer between (begun.Lives living state)
      → (how : Served) → serves state old new how → EndsBy living.lifespan living.pause.count after how ends → LivesOrNot serves answers limits old new before after ends
  lived (start.Started life set) (inl none) living state is how served stops = absurd none.0
  lived (start.Started life set) (inr x) living state (same, named, paused) how served stops =
      let (answer, stopped, end) = subst (λ l. EndsBy l between after how ends) same (subst (λ n. EndsBy living.lifespan n after how ends) paused stops) in
      follows_by (start.Started life set) (Some (started set)) x x.answered (
        how,
        answer,
        subst (λ s. serves s old new how) named served,
        kept_within (PromiseOf life) (answers lifespan_scope) limits x.heard x.said between after answer x.stands.1 (stopped limits x.heard x.said x.ended x.stands.0),
        end,
      )
  lived start.Unsupported (inl none) living state is how served stops = absurd none.0
  lived start.Unsupported (inr x) living state (same, named, paused) how served stops =
      let (rests, end) = subst (λ l. EndsBy l between after how ends) same (subst (λ n. EndsBy living.lifespan n after how ends) paused stops) in
      follows_by start.Unsupported (Some unsupported) x x.answered (how, subst (λ s. serves s old new how) named served, rests, end)
  lived (start.Failed message) starts living state is how served stops = absurd is
  lived (start.Idle turns) starts living state is how served stops = absurd is
  lived start.NoMemory starts living state is how served stops = absurd is

module _ {A T : Type 0} (serves : List (List ℕ × StateValue) → A → A → Served → Type 0) (answers : Promise) (limits : Limits) (g : tasks.Ghosts T) (R : Type 0)
    (old new : A) (before between : ℕ) (ends : Ending) where
  -- it was not served, and nothing was asked for
  unserved : (answer : Start T g) → (IsNoMemory answer × (between ≡ before)) ⊎ Starts (answers lifespan_scope) limits before between answer
      → IsBegun {R = R} answer between (begun.Ends ends) → new ≡ old → LivesOrNot serves answers limits old new before between ends
  unserved (start.Started life set) starts is same = absurd is
  unserved start.Unsupported starts is same = absurd is
  unserved (start.Failed message) (inl none) is same = absurd none.0
  unserved (start.Failed message) (inr x) is same =
      follows_by serves answers limits g old new before between between ends (start.Failed message) (Some (failed message)) x x.answered (same, refl, is)
  unserved (start.Idle turns) (inl none) is same = absurd none.0
  unserved (start.Idle turns) (inr x) is same = follows_by serves answers limits g old new before between between ends (start.Idle turns) None x x.answered (same, refl, is)
  unserved start.NoMemory (inl none) is same = inr (same, none.1, is)
  unserved start.NoMemory (inr x) is same = absurd x.answered

module _ {A T : Type 0} (serves : List (List ℕ × StateValue) → A → A → Served → Type 0) (answers : Promise) (limits : Limits) (g : tasks.Ghosts T) (R : Type 0)
    (old new : A) (before : ℕ) (ends : Ending) where
  -- an application that lived, with a pause that began at none, was served, and was stopped
  pub lives_on : (living : Living T R g) (state : List (List ℕ × StateValue)) → before ≡ 0 → Begins answers limits before (begun.Lives living state)
      → (how : Served) → serves state old new how → (after : ℕ) × EndsBy living.lifespan living.pause.count after how ends → LivesOn serves answers limits old new ends
  lives_on living state none (answer, between, starts, is) how served (after, stops) =
      inl (after, subst (λ n. LivesOrNot serves answers limits old new n after ends) none (lived serves answers limits g old new before between after ends answer starts living state is how served stops))

  -- one that did not live was not served
  pub lives_not : before ≡ 0 → Begins {T = T} {R = R} {g = g} answers limits before (begun.Ends ends) → new ≡ old → LivesOn serves answers limits old new ends
  lives_not none (answer, between, starts, is) same =
      inl (between, subst (λ n. LivesOrNot serves answers limits old new n between ends) none (unserved serves answers limits g R old new before between ends answer starts is same))
