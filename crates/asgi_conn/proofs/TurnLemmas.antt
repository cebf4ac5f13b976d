-- What a turn of a connection does to where it stands.
use Rattle.asgi_conn.proofs.ConnWords.{◌≤◌, ◌^◌, is_some, ◌≡◌, ℕ, ◌+◌, ◌⊎◌, inl, inr, List, [], ◌∷◌, ◌++◌, arith, refl, sym, ap, ◌∙◌, subst, Option, Some, None, false, length, EndKind, Facts}
use Rattle.asgi_conn.proofs.ConnWords.{Incoming, Limits, Outgoing, Http, WebSocket, Setting, Scope, scope_in, Promise, StandsFor, AllGiven, Next, IsHttpExchange, is_by_input, NextStep, NextRequest}
use Rattle.asgi_conn.proofs.ConnWords.{ConnectionEnds, Outcome, Idle, NoMemory, Report, fault_of, requests_of, ArePromisedIn, has_ended, exchanged, handshake_of, AppSide, OfEnd, IsOpened, HasRun}
use Rattle.asgi_conn.proofs.ConnWords.{Transferred, piece_size, AnyHalf, HttpHalf, WebSocketHalf, Stage, Over, Wire, Scene, ReadsAhead, SessionScene, session_of, LineState, Place, place_at, place_of}
use Rattle.asgi_conn.proofs.ConnWords.{Tally, IsServing, IsTallied, AppEnds, ConnEnds}
use Rattle.asgi_halves.specs.{Half.Invariant, Kinds.following_of, WebSocketHalf.Invariant as SessionInvariant}
use Rattle.asgi_halves.specs.contracts.impls.{HttpHalfHalf.TheImpl.ghosts as http_half, WebSocketHalfHalf.TheImpl.ghosts as session_half}
use Rattle.asgi_types.specs.declared.scope.Kind.{Kind}
use Rattle.asgi_io.specs.{declared.turns.Turn.Turn, declared.turns.Turns.Turns, Turns.CountsTurns, Turns.row_after}
use Rattle.asgi_io.specs.declared.turns.Turn.TheVariants as a_turn
use Rattle.asgi_io.proofs.TurnLemmas.{idle_after-append}
use Rattle.asgi_apps.proofs.PauseLemmas.{counts_more}
use Rattle.asgi_request.specs.Reading.{IsWaiting}
use Rattle.asgi_exchange.specs.{Calls.IsViewOf, Calls.IsExchangeOf, Views.ConnView, Views.empty_conn}
use Rattle.asgi_run.specs.{AnyHalf.PreservesOn, Limits.IsAtLimit, Limits.IsSettled}
use Rattle.asgi_conn.specs.{declared.connection.Connection.Connection, Serving.Serves, Standing.InExchange, Standing.IsAt}
use Rattle.asgi_conn.specs.Standing.{IsCounted, HasRoom, Stands, IsReportOf, http_scene, session_scene, step_of}
use Rattle.asgi_conn.specs.declared.connection.Step.TheVariants as step
use Rattle.asgi_conn.specs.private.Loop.{HasBegun, IsNext, IsGoing, IsBetween, IsOpen, HasEnded, next_step_of}
use Rattle.asgi_request.proofs.StandardLemmas.{all_results}
use Rattle.asgi_conn.proofs.{BetweenLemmas.rests_on, BetweenLemmas.ends_fed_short, LeaveLemmas.left_at, ServeLemmas.rested, SessionLeaveLemmas.ends_after, SessionServeLemmas.ends_connection}
use Rattle.asgi_exchange.proofs.HttpExchangeLemmas.{in_words}
use Rattle.asgi_exchange.proofs.SessionExchangeLemmas.{in_words as session_words}
use Rattle.asgi_conn.specs.Places as place
use Rattle.asgi_conn.proofs.AnswerLemmas as answer

-- ---- the counts

-- with this many exchanges there is room for one more once a turn was taken, wherever the connection stands
room_then : {X : Type 0} (at : Place X) (old new : Tally) → old.exchanges ≤ old.turns.turns → new.exchanges ≡ old.exchanges → new.turns.turns ≡ old.turns.turns + 1 → HasRoom at new
room_then (place.Http half exchange) old new room same one = (omega (arith, room, same, one), λ over. omega (arith, room, same, one))
room_then (place.Ended outcome) old new room same one = tt
room_then _ old new room same one = omega (arith, room, same, one)

room_of : {X : Type 0} (at : Place X) (tally : Tally) → IsGoing at → HasRoom at tally → tally.exchanges ≤ tally.turns.turns
room_of (place.Http half exchange) tally going room = room.0
room_of (place.Ended outcome) tally going room = absurd going
room_of _ tally going room = room

going_at : {X : Type 0} (at : Place X) → IsBetween at → IsGoing at
going_at (place.Between wire) between = tt
going_at _ between = absurd between

over_of : (stage : Stage) (following : NextStep) → following_of stage ≡ Some following → stage ≡ Over following
over_of (Over it) following is = ap Over cc
over_of _ following is = cc

-- an exchange that was given up at a limit, or was over for another reason, ends the connection as idle only at a limit
idle_at : (old new : Stage) (turns : Turns) → IsAtLimit turns ⊎ IsSettled (following_of old) → ((last : NextStep) → following_of old ≡ Some last → new ≡ old)
    → new ≡ Over (ConnectionEnds Idle) → IsAtLimit turns
idle_at old new turns (inl limit) stays is = limit
idle_at old new turns (inr settled) stays is = let e : Some settled.0 ≡ Some (ConnectionEnds Idle) = sym settled.1 ∙ ap following_of (sym (stays settled.0 settled.1) ∙ is) in absurd (settled.2 cc)

next_room : {X : Type 0} (later : Place X) (tally : Tally) → tally.exchanges ≤ tally.turns.turns → IsNext later tally.turns → HasRoom later tally
next_room (place.Http half exchange) tally room next = (room, λ over. absurd (next over))
next_room (place.Ended outcome) tally room next = tt
next_room _ tally room next = room

-- what is not followed by a request needs no room for one
room_open : {X : Type 0} (later : Place X) (tally : Tally) → tally.exchanges ≤ tally.turns.turns → IsOpen later → HasRoom later tally
room_open (place.Http half exchange) tally room goes = (room, λ over. absurd (goes over))
room_open (place.Ended outcome) tally room goes = tt
room_open _ tally room goes = room

-- only an idle turn is told as idle
row_of_idle : (row : ℕ) (turn : Turn) → step_of turn ≡ step.Idle → row_after row turn ≡ row + 1
row_of_idle row a_turn.Idle is = refl
row_of_idle row a_turn.Moved is = cc
row_of_idle row a_turn.Last is = cc

module _ {X : Type 0} {limits : Limits} {before pauses : ℕ} where
  -- one more turn was taken
  pub counted_more : {at later : Place X} {old new : Tally} {after : ℕ} (turn : Turn) → IsCounted limits before pauses at old → IsGoing at → IsGoing later
      → new.exchanges ≡ old.exchanges → new.turns.turns ≡ old.turns.turns + 1 → new.turns.turn_limit ≡ old.turns.turn_limit → new.turns.idle_limit ≡ old.turns.idle_limit
      → ((turned : List Turn) (before : ℕ) → CountsTurns old.turns.turn_limit old.turns.idle_limit turned before pauses old.turns.turns old.turns.idle
      → CountsTurns old.turns.turn_limit old.turns.idle_limit (turned ++ turn ∷ []) before after new.turns.turns new.turns.idle) → IsCounted limits before after later new
  counted_more {at} {later} {old} {new} turn c going goes same one limit row counts =
      let more = counts_more limits.turns limits.idle_turns _ _ before _ _ _ _ _ _ c.turned turn c.turn_limit c.idle_limit c.counts counts in
      let room = room_then later old new (room_of at old going c.room) same one in
      let never : later ≡ place.Ended Idle → ⊥ = λ is. subst IsGoing is goes in
      let turned = c.turned ++ turn ∷ [] in
      record { turn_limit = limit ∙ c.turn_limit; idle_limit = row ∙ c.idle_limit; turned = turned; counts = more; at_limit = λ is. absurd (never is); within = rw limit c.within; room = room }

  -- and if it was idle, the row of idle ones is longer by it
  pub row_more : {at : Place X} {old : Tally} {after turns idle : ℕ} (turn : Turn) → IsCounted limits before pauses at old
      → ((turned : List Turn) (before : ℕ) → CountsTurns old.turns.turn_limit old.turns.idle_limit turned before pauses old.turns.turns old.turns.idle
      → CountsTurns old.turns.turn_limit old.turns.idle_limit (turned ++ turn ∷ []) before after turns idle) → step_of turn ≡ step.Idle → idle ≡ old.turns.idle + 1
  row_more {old = old} turn c counts is =
      let more = counts_more limits.turns limits.idle_turns _ _ before _ _ _ _ _ _ c.turned turn c.turn_limit c.idle_limit c.counts counts in
      more.idle_is ∙ idle_after-append 0 c.turned turn ∙ ap (λ n. row_after n turn) (sym c.counts.idle_is) ∙ row_of_idle old.turns.idle turn is

  -- it came to another place, with no turn
  counted_at : {at later : Place X} {old new : Tally} → IsCounted limits before pauses at old → new.turns ≡ old.turns → (later ≡ place.Ended Idle → IsAtLimit old.turns)
      → HasRoom later new → IsCounted limits before pauses later new
  counted_at {new = new} c same at_limit room =
      let more : new.turns.turn_limit ≤ 2 ^ 48 = rw same c.within in
      record { turn_limit = rw same c.turn_limit; idle_limit = rw same c.idle_limit; turned = c.turned; counts = rw same c.counts; at_limit = λ is. rw same (at_limit is); within = more; room = room }

  -- a turn moved nothing, and is not counted
  pub counted_rest : {at : Place X} (later : Place X) (old new : Tally) → IsCounted limits before pauses at old → IsGoing at → IsGoing later → new ≡ old → IsOpen later
      → IsCounted limits before pauses later new
  counted_rest {at} later old new c going goes same unsettled =
      let never : later ≡ place.Ended Idle → ⊥ = λ is. subst IsGoing is goes in
      rw same (counted_at c refl (λ is. absurd (never is)) (room_open later old (room_of at old going c.room) unsettled))

  -- the reader gave its next result
  counted_next : {at : Place X} (later : Place X) (old new : Tally) → IsCounted limits before pauses at old → IsBetween at → new ≡ old → IsNext later old.turns
      → IsCounted limits before pauses later new
  counted_next {at} later old new c between same next =
      rw same (counted_at c refl (λ is. (subst (λ (p : Place X). IsNext p old.turns) is next) refl) (next_room later old (room_of at old (going_at at between) c.room) next))

  -- the exchange of a request is ended
  pub counted_left : {half : HttpHalf} {exchange : X} {old new : Tally} (ended : Option Outcome) (later : HttpHalf) → IsCounted limits before pauses (place.Http half exchange) old
      → IsAtLimit old.turns ⊎ IsSettled (following_of half.stage) → ((last : NextStep) → following_of half.stage ≡ Some last → later.stage ≡ half.stage)
      → (following_of later.stage ≡ Some NextRequest → following_of half.stage ≡ Some NextRequest) → new.exchanges ≡ old.exchanges + 1 → new.turns ≡ old.turns
      → later.stage ≡ Over (next_step_of ended) → IsCounted {X = X} limits before pauses (place_at None None ended later) new
  counted_left {half} {old = old} {new = new} None later c over stays follows more same is =
      let room = c.room.1 (over_of half.stage NextRequest (follows (ap following_of is))) in
      let turns : new.turns.turns ≡ old.turns.turns = ap (λ (t : Turns). t.turns) same in
      counted_at c same (λ idle. cc) (let n : new.exchanges ≤ new.turns.turns = omega (arith, room, more, turns) in n)
  counted_left {half} {old = old} (Some outcome) later c over stays follows more same is =
      counted_at c same (λ idle. idle_at half.stage later.stage old.turns over stays cc) tt

  -- the exchange of an opening handshake is ended
  pub counted_closed : {half : WebSocketHalf} {exchange : X} {outcome : Outcome} {old new : Tally} (later : WebSocketHalf) → IsCounted limits before pauses (place.Session half exchange) old
      → IsAtLimit old.turns ⊎ IsSettled (following_of half.stage) → ((last : NextStep) → following_of half.stage ≡ Some last → later.stage ≡ half.stage)
      → new.turns ≡ old.turns → later.stage ≡ Over (ConnectionEnds outcome) → IsCounted {X = X} limits before pauses (place.Ended outcome) new
  counted_closed {half} {old = old} later c over stays same ended = counted_at c same (λ idle. idle_at half.stage later.stage old.turns over stays cc) tt

  -- no turn was taken any more
  counted_none : {at later : Place X} {old new : Tally} → IsCounted limits before pauses at old → new ≡ old → (later ≡ place.Ended NoMemory) ⊎ (HasEnded at × (later ≡ at))
      → IsCounted limits before pauses later new
  counted_none c same (inl short) = counted_at c (ap (λ (t : Tally). t.turns) same) (λ idle. cc) (rw short tt)
  counted_none c same (inr stays) = rw (same, stays.1) c

-- ---- an exchange

module _ {T C E X : Type 0} {answers : T → List Incoming → List Outgoing → Option EndKind → Type 0} {conns : ConnEnds C} {ends : AppEnds E} {conn : X → C} {began : X → AppSide T E → Type 0} where
  moves : {H : Type 0} {halves : AnyHalf H} {promise : List Incoming → List Outgoing → Option EndKind → Type 0} {scene : halves.Scene} {now : LineState} {half : H} {read : List ℕ} {was : X}
      (next : LineState) (later : H) (is : X) → InExchange halves answers conns ends conn began promise scene now half read was
      → PreservesOn halves.stands now half (IsViewOf conns (conn was)) next later (IsViewOf conns (conn is)) → ((side : AppSide T E) → began was side → began is side)
      → (more : List ℕ) × InExchange halves answers conns ends conn began promise scene next later (read ++ more) is
  moves {scene = scene} {read = read} next later is x leads on =
      let y = leads scene read x.view x.stands x.seen in
      (y.0, record { view = y.1; stands = y.2; seen = y.3; side = x.side; begun = on x.side x.begun; fresh = x.fresh; opened = x.opened; unheard = x.unheard; request = x.request })

  module _ {promise : Promise} {limits : Limits} {setting : Setting} {start now : LineState} {tally : Tally} where
    -- ---- a turn of it

    module _ {next : LineState} {was is : X} (on : (side : AppSide T E) → began was side → began is side) where
      pub http_moves : {half later : HttpHalf} → IsServing answers conns ends conn began promise limits setting start now tally (place.Http half was)
          → PreservesOn http_half.stands now half (IsViewOf conns (conn was)) next later (IsViewOf conns (conn is))
          → IsServing answers conns ends conn began promise limits setting start next tally (place.Http later is)
      http_moves {later = later} s leads =
          let t = s.stands in
          let y = moves next later is t.3 leads on in
          record { read = s.read ++ y.0; written = s.written; exchanges = s.exchanges; promised = s.promised; counted = s.counted; stands = (t.0, t.1, t.2, y.1) }

      pub session_moves : {half later : WebSocketHalf} → IsServing answers conns ends conn began promise limits setting start now tally (place.Session half was)
          → PreservesOn session_half.stands now half (IsViewOf conns (conn was)) next later (IsViewOf conns (conn is))
          → IsServing answers conns ends conn began promise limits setting start next tally (place.Session later is)
      session_moves {later = later} s leads =
          let t = s.stands in
          let y = moves next later is t.5 leads on in
          record { read = s.read ++ y.0; written = s.written; exchanges = s.exchanges; promised = s.promised; counted = s.counted; stands = (t.0, t.1, t.2, t.3, t.4, y.1) }

    -- only turns were counted
    pub turned : {new : Tally} {at : Place X} → new.exchanges ≡ tally.exchanges → new.faults ≡ tally.faults
        → IsServing answers conns ends conn began promise limits setting start now tally at → IsServing answers conns ends conn began promise limits setting start now new at
    turned exchanges faults s =
        record { read = s.read; written = s.written; exchanges = s.exchanges; promised = s.promised; counted = (exchanges ∙ s.counted.0, faults ∙ s.counted.1); stands = s.stands }

    -- ---- more is read

    module _ {next : LineState} {wire : Wire} (later : Wire) (s : IsServing answers conns ends conn began promise limits setting start now tally (place.Between wire))
        (flows : has_ended wire.input ≡ false) (waits : IsWaiting wire.requests) (more : List ℕ) (moved : (start : LineState) (read written : List ℕ) (failures : ℕ)
        → Transferred start now wire.input read written failures → Transferred start next later.input (read ++ more) written failures) (short : length more ≤ piece_size) where
      all : AllGiven wire.requests s.read s.stands.0
      all = all_results wire.requests.limits wire.requests.limits.block_in_range.0 s.read s.stands.0 wire.requests.place wire.requests.held s.stands.2.stands waits

      pub read_on : later ≡ record wire { requests = later.requests; input = later.input } → later.requests.limits ≡ wire.requests.limits
          → ((bytes : List ℕ) (given : List Next) → StandsFor wire.requests bytes given → StandsFor later.requests (bytes ++ more) given)
          → IsServing answers conns ends conn began promise limits setting start next tally (place.Between later)
      read_on same reader fed =
          let on = rests_on s.stands.2 next later more moved (λ ended. let never = flows in cc) all short same reader fed in
          record { read = s.read ++ more; written = s.written; exchanges = s.exchanges; promised = s.promised; counted = s.counted; stands = (s.stands.0, s.stands.1 ++ more, on) }

      pub read_short : IsServing answers conns ends conn began promise limits setting start next tally (place.Ended NoMemory)
      read_short =
          let ended = ends_fed_short s.stands.2 next later more moved (λ ended. let never = flows in cc) all short in
          record { read = s.read ++ more; written = s.written; exchanges = s.exchanges; promised = s.promised; counted = s.counted; stands = ended }

    -- ---- its end

    module _ {exchange : X} {kind : EndKind} (new : Tally) (exchanges : new.exchanges ≡ tally.exchanges + 1) (faults : new.faults ≡ tally.faults + fault_of (Some kind)) where
      pub http_left : {half : HttpHalf} (later : HttpHalf) (ended : Option Outcome) → IsServing answers conns ends conn began promise limits setting start now tally (place.Http half exchange)
          → ((side : AppSide T E) (scene : http_half.Scene) (now : LineState) (read : List ℕ) (view : ConnView http_half.In http_half.Out) → began exchange side
          → http_half.stands scene now half read view → IsViewOf conns (conn exchange) view → OfEnd side (λ app. IsExchangeOf ends app (http_half.exchange scene))
          → HasRun http_half answers ends scene now later read side kind) → later.stage ≡ Over (next_step_of ended)
          → IsServing answers conns ends conn began promise limits setting start now new (place_at None None ended later)
      http_left later ended s runs over =
          let x = s.stands.3 in
          let scene = http_scene limits start s.exchanges s.written s.stands.0 s.stands.1 s.stands.2 in
          let run = runs x.side scene now s.read x.view x.begun x.stands x.seen x.request in
          let broke = is_by_input run.world.conn.broken in
          let words = subst (λ (l : Limits). IsHttpExchange l s.stands.1 run.world) (sym run.stands.limits) (in_words limits s.stands.1 run.world run.exchange) in
          let promised = answer.promised_more run s.exchanges s.stands.0 s.stands.1 broke promise setting x.fresh x.opened x.unheard.0 x.unheard.1 s.promised in
          let counted = answer.tallied_more run s.exchanges s.stands.0 s.stands.1 broke tally new s.counted exchanges faults in
          rested s.read (s.exchanges ++ exchanged s.stands.0 s.stands.1 run.world ∷ []) (s.written ++ run.world.conn.written) (place_at None None ended later) promised counted
          (left_at run.world run.stands.stands words run.stands.limits X ended over)

      module _ {half : WebSocketHalf} (later : WebSocketHalf) (s : IsServing answers conns ends conn began promise limits setting start now tally (place.Session half exchange))
          (runs : (side : AppSide T E) (scene : session_half.Scene) (now : LineState) (read : List ℕ) (view : ConnView session_half.In session_half.Out) → began exchange side
          → session_half.stands scene now half read view → IsViewOf conns (conn exchange) view → OfEnd side (λ app. IsExchangeOf ends app (session_half.exchange scene))
          → HasRun session_half answers ends scene now later read side kind) where
        abbrev scene : SessionScene
        scene = session_scene limits start s.exchanges s.written s.stands.0 s.stands.1 s.stands.2 s.stands.3

        run : HasRun session_half answers ends scene now later s.read s.stands.5.side kind
        run = let x = s.stands.5 in runs x.side scene now s.read x.view x.begun x.stands x.seen x.request

        pub session_over : (following : NextStep) × (later.stage ≡ Over following) → (outcome : Outcome) × (later.stage ≡ Over (ConnectionEnds outcome))
        session_over over = ends_connection scene later run.world.conn run.stands.stage over.0 over.1

        pub session_left : (outcome : Outcome) → later.stage ≡ Over (ConnectionEnds outcome) → IsServing answers conns ends conn began promise limits setting start now new (place.Ended outcome)
        session_left outcome over =
            let x = s.stands.5 in
            let broke = is_by_input run.world.conn.broken in
            let words = session_words (handshake_of scene.facts) scene.facts scene.limits.ring run.world run.exchange in
            let promised = answer.promised_more run s.exchanges s.stands.0 s.stands.1 broke promise setting x.fresh x.opened x.unheard.0 x.unheard.1 s.promised in
            let counted = answer.tallied_more run s.exchanges s.stands.0 s.stands.1 broke tally new s.counted exchanges faults in
            let ended = ends_after run.world run.stands words over s.stands.4 in
            record { read = s.read; written = s.written ++ run.stands.text; exchanges = s.exchanges ++ session_of scene run.world ∷ []; promised = promised; counted = counted; stands = ended }

-- ---- an exchange begins

module _ {T C E X : Type 0} {answers : T → List Incoming → List Outgoing → Option EndKind → Type 0} {conns : ConnEnds C} {ends : AppEnds E}
    {conn : X → C} {began : X → AppSide T E → Type 0} (promise : Promise) {whole : Scope} {now : LineState} {exchange : X} where
  begun_in : {H : Type 0} (setting : Setting) (halves : AnyHalf H) (scene : halves.Scene) (scope : Scope) (half : H) (read : List ℕ) (view : ConnView halves.In halves.Out)
      (kind : Kind) (facts : Facts) → HasBegun answers conns ends conn began (promise whole) kind facts exchange → whole ≡ scope_in setting scope
      → kind ≡ (halves.exchange scene).kind → facts ≡ (halves.exchange scene).facts → halves.stands scene now half read view → view.offered ≡ [] → is_some view.broken ≡ false → view.got ≡ []
      → InExchange halves answers conns ends conn began (promise (scope_in setting scope)) scene now half read exchange
  begun_in setting halves scene scope half read view kind facts b is kind_is facts_is stands offered broken got =
      let seen : IsViewOf conns (conn exchange) view = (offered ∙ sym b.empty.0, broken ∙ sym b.empty.1, got ∙ sym b.empty.2) in
      let opened = subst (λ (w : Scope). IsOpened (promise w) answers ends b.fresh b.side) is b.opened in
      let request : OfEnd b.side (λ app. IsExchangeOf ends app (halves.exchange scene)) = rw (← kind_is, ← facts_is) b.request in
      record { view = view; stands = stands; seen = seen; side = b.side; begun = b.begun; fresh = b.fresh; opened = opened; unheard = b.unheard; request = request }

  module _ {setting : Setting} {tally : Tally} where
    pub http_begun : {facts : Facts} {limits : Limits} {half : HttpHalf} {read : List ℕ} (scene : Scene) (arrived : List ℕ)
        → HasBegun answers conns ends conn began (promise whole) Http facts exchange → whole ≡ scope_in setting scene.scope → facts ≡ scene.facts → half.wire.limits ≡ limits
        → ((written : List ℕ) × Invariant scene now half read (record empty_conn { arrived = arrived; written = written }))
        → ArePromisedIn promise setting scene.exchanges → IsTallied tally scene.exchanges
        → IsServing answers conns ends conn began promise limits setting scene.start now tally (place.Http half exchange)
    http_begun {facts} {limits} {half} {read} scene arrived b is facts_are limits_are s promised tallied =
        let view : ConnView ℕ ℕ = record empty_conn { arrived = arrived; written = s.0 } in
        let x = begun_in setting http_half (record { limits = limits; at = scene }) scene.scope half read view Http facts b is refl facts_are
        (record { limits = limits_are; stands = s.1 }) refl refl refl in
        record { read = read; written = scene.before; exchanges = scene.exchanges; promised = promised; counted = tallied; stands = (scene.scope, scene.facts, scene.opened, x) }

    pub session_begun : {facts : Facts} {half : WebSocketHalf} {read : List ℕ} (scene : SessionScene) → HasBegun answers conns ends conn began (promise whole) WebSocket facts exchange
        → whole ≡ scope_in setting scene.scope → facts ≡ scene.facts → SessionInvariant scene now half read empty_conn → ReadsAhead scene.limits scene.read (requests_of scene.exchanges)
        → ArePromisedIn promise setting scene.exchanges → IsTallied tally scene.exchanges
        → IsServing answers conns ends conn began promise scene.limits setting scene.start now tally (place.Session half exchange)
    session_begun {facts} {half} {read} scene b is facts_are s ahead promised tallied =
        let x = begun_in setting session_half scene scene.scope half read empty_conn WebSocket facts b is refl facts_are s refl refl refl in
        record { read = read; written = scene.before; exchanges = scene.exchanges; promised = promised; counted = tallied; stands = (scene.scope, scene.facts, scene.frames, scene.read, ahead, x) }

-- ---- the report

module _ {T C E X : Type 0} {answers : T → List Incoming → List Outgoing → Option EndKind → Type 0} {conns : ConnEnds C} {ends : AppEnds E}
    {conn : X → C} {began : X → AppSide T E → Type 0} {promise : Promise} {limits : Limits} {setting : Setting} {start : LineState}
    {before : ℕ} {now : LineState} {pauses : ℕ} where
  -- the reader gave its next result
  pub stands_next : {new : Connection X} (old : Connection X) → IsServing answers conns ends conn began promise limits setting start now old.tally (place_of new)
      → IsCounted limits before pauses (place_of old) old.tally → IsBetween (place_of old) → new.tally ≡ old.tally → IsNext (place_of new) old.tally.turns
      → Stands answers conns ends conn began promise limits setting start before now pauses new
  stands_next {new} old s counted between same next = record { serving = rw same s; counted = counted_next (place_of new) old.tally new.tally counted between same next }

  -- no turn was taken any more
  pub stands_none : {new : Connection X} (old : Connection X) → IsServing answers conns ends conn began promise limits setting start now new.tally (place_of new)
      → IsCounted limits before pauses (place_of old) old.tally → new.tally ≡ old.tally → (place_of new ≡ place.Ended NoMemory) ⊎ (HasEnded (place_of old) × (place_of new ≡ place_of old))
      → Stands answers conns ends conn began promise limits setting start before now pauses new
  stands_none old s counted same none = record { serving = s; counted = counted_none counted same none }

  pub told : {connection : Connection X} {report : Report} → Stands answers conns ends conn began promise limits setting start before now pauses connection → IsReportOf connection report
      → Serves promise limits setting.client.now setting.server.now setting.state.now start now before pauses report
  told {connection} {report} x is =
      let s = x.serving in
      let c = x.counted in
      let e = subst (λ (p : Place X). IsAt answers conns ends conn began promise limits setting start p now s.read s.exchanges s.written) is.0 s.stands in
      record {
        read = s.read;
        end = e.end;
        written = s.written;
        traffic = e.traffic;
        carried = e.carried;
        exchanges = s.exchanges;
        converses = e.converses report refl (record { exchanges_are = is.1 ∙ s.counted.0; faults_are = is.2 ∙ s.counted.1 });
        ahead = e.ahead;
        promised = s.promised;
        turned = c.turned;
        counts = rw (is.3, is.4) c.counts;
        idle = λ o. elim (c.at_limit (is.0 ∙ ap place.Ended o)) [ inl turns ↦ inl (is.3 ∙ turns ∙ c.turn_limit) | inr row ↦ inr (is.4 ∙ row ∙ c.idle_limit) ];
      }
