-- A connection at its beginning, and what one step of it does.
use Rattle.asgi_conn.proofs.ConnWords.{subst, ReadsAhead, ◌≡◌, ◌≢◌, ℕ, List, [], ◌∷◌, ◌++◌, refl, sym, ap, ◌∙◌, append-nil, Option, All-nil, Facts, Upgrade, Limits, Http, WebSocket, Setting, Scope}
use Rattle.asgi_conn.proofs.ConnWords.{scope_in, EndKind, Incoming, Outgoing, Promise, Next, Head, Bad, Reading, StandsFor, AllGiven, IsRefused, record_of, BeginsWithHandshake, scope_of, RefusesWith}
use Rattle.asgi_conn.proofs.ConnWords.{NoMemory, requests_of, ExchangeRecord, IsPromised, ArePromisedIn, Place, Tally, BetweenRequests, IsTallied, IsServing, Wire, Scene, SessionScene, OpensHandshake}
use Rattle.asgi_conn.proofs.ConnWords.{LineState, Transferred, AppSide, IsAtRest, more_requests, AppEnds, ConnEnds}
use Rattle.asgi_request.specs.{Results.Opens, Reading.GoesOn, declared.head.HeadRecord.HeadRecord}
use Rattle.asgi_types.specs.declared.facts.Framing.{Framing}
use Rattle.asgi_io.proofs.BytesLemmas.{Appends-nothing, Consumes-nothing, Keeps-same}
use Rattle.asgi_io.proofs.CountLemmas.{never_fell}
use Rattle.asgi_io.proofs.WriteLemmas.{no_parts, tries_all}
use Rattle.asgi_apps.specs.Scopes.{kind_of}
use Rattle.asgi_conversation.specs.{declared.input.InputEnd.TheVariants.Open, SoFar.Within}
use Rattle.asgi_halves.specs.Half.{WithinScene, Opens as OpensRequest}
use Rattle.asgi_run.specs.Lines.{GoesOn as ReadsOn}
use Rattle.asgi_halves.proofs.ReadAheadLemmas.{nothing_ahead, heads_more}
use Rattle.asgi_conversation.proofs.LoopLemmas as loop
use Rattle.asgi_conn.specs.Places as place
use Rattle.asgi_conn.proofs.BetweenLemmas as between

-- ---- what the reader gave

-- the scope of a request that is no opening handshake
plain_is_http : (setting : Setting) (head : HeadRecord) (framing : Framing) → framing ≢ Upgrade
    → kind_of (scope_in setting (scope_of head framing)) ≡ Http
plain_is_http setting head Upgrade plain = absurd (plain refl)
plain_is_http setting head _ plain = refl

-- ---- the beginning

-- nothing was read or written yet
moved_nothing : (start : LineState) → Transferred start start Open [] [] 0
moved_nothing start =
    let consumes = Consumes-nothing start.left start.left (Keeps-same start.left) in
    let appends = Appends-nothing start.written start.written (Keeps-same start.written) in
    let tries = tries_all start.writes start.writes 0 (no_parts start.writes) in
    let told = sym (append-nil start.reads) in
    record { consumes = consumes; appends = appends; answers = []; told = told; sum = refl; ends = All-nil ReadsOn; tries = tries; failed = never_fell start.failed; quiet = refl }

-- ---- one step

module _ {T C E X : Type 0} {answers : T → List Incoming → List Outgoing → Option EndKind → Type 0} {conns : ConnEnds C} {ends : AppEnds E}
    {conn : X → C} {began : X → AppSide T E → Type 0} {promise : Promise} {limits : Limits} {setting : Setting} where
  -- it is between two requests, or at the end
  pub rested : {start now : LineState} {tally : Tally} (read : List ℕ) (exchanges : List ExchangeRecord) (written : List ℕ) (at : Place X) → ArePromisedIn promise setting exchanges
      → IsTallied tally exchanges → IsAtRest at limits start now read exchanges written → IsServing answers conns ends conn began promise limits setting start now tally at
  rested read exchanges written (place.Between wire) promised counted rests =
      record { read = read; written = written; exchanges = exchanges; promised = promised; counted = counted; stands = rests }
  rested read exchanges written (place.Ended outcome) promised counted rests =
      record { read = read; written = written; exchanges = exchanges; promised = promised; counted = counted; stands = rests }
  rested read exchanges written _ promised counted rests = absurd rests

  pub begins : (start : LineState) (wire : Wire) (tally : Tally) → (wire.limits ≡ limits) × (wire.requests.limits ≡ limits) → StandsFor wire.requests [] [] × (wire.input ≡ Open)
      → wire.out.items ≡ [] → tally.exchanges ≡ 0 → tally.faults ≡ 0 → IsServing answers conns ends conn began promise limits setting start start tally (place.Between wire)
  begins start wire tally limits_are unread empty none no_faults =
      let moved : Transferred start start wire.input [] [] 0 = rw unread.1 (moved_nothing start) in
      let x : BetweenRequests limits start start wire [] [] [] [] [] =
      record { moved = moved; limits_are = limits_are; between = loop.starts limits wire.input; stands = unread.0; empty = empty; heads = refl; ahead = nothing_ahead limits } in
      let promised = All-nil (IsPromised promise setting.client.now setting.server.now setting.state.now) in
      record { read = []; written = []; exchanges = []; promised = promised; counted = (none, no_faults); stands = ([], [], x) }

  module _ {start now : LineState} {tally : Tally} {wire : Wire} (s : IsServing answers conns ends conn began promise limits setting start now tally (place.Between wire)) where
    x : BetweenRequests limits start now wire s.read s.stands.0 s.exchanges s.stands.1 s.written
    x = s.stands.2

    -- memory was refused
    pub short : IsServing answers conns ends conn began promise limits setting start now tally (place.Ended NoMemory)
    short = record { read = s.read; written = s.written; exchanges = s.exchanges; promised = s.promised; counted = s.counted; stands = between.ends_short x }

    module _ (later : Reading) (same : later.limits ≡ wire.requests.limits) where
      limits_stay : later.limits ≡ limits
      limits_stay = same ∙ x.limits_are.1

      -- no result is there
      pub waited : (result : Place X) → ((bytes : List ℕ) (given : List Next) → StandsFor wire.requests bytes given → StandsFor later bytes given × AllGiven later bytes given)
          → ((limits : Limits) (start now : LineState) (read : List ℕ) (given : List Next) (exchanges : List ExchangeRecord) (after written : List ℕ)
          → BetweenRequests limits start now (record wire { requests = later }) read given exchanges after written → AllGiven later read given
          → IsAtRest result limits start now read exchanges written) → IsServing answers conns ends conn began promise limits setting start now tally result
      waited result need waits =
          let n = need s.read s.stands.0 x.stands in
          rested s.read s.exchanges s.written result s.promised s.counted
          (waits limits start now s.read s.stands.0 s.exchanges s.stands.1 s.written (between.asked x later limits_stay n.0) n.1)

      module _ (item : Next) (goes_on : ((status : ℕ) → IsRefused wire.requests status → ⊥) → GoesOn wire.requests later item) where
        gave : StandsFor later s.read (s.stands.0 ++ item ∷ [])
        gave = goes_on (between.no_refusal x) s.read s.stands.0 x.stands

        -- it is a head or a refusal
        pub opens : Opens item
        opens = between.no_event x later item limits_stay gave

      -- a refusal
      pub refused : {next : LineState} (result : Place X) (status : ℕ) → (((status : ℕ) → IsRefused wire.requests status → ⊥) → GoesOn wire.requests later (Bad status))
          → ((limits : Limits) (start : LineState) (wire : Wire) (read : List ℕ) (given : List Next) (exchanges : List ExchangeRecord) (after written : List ℕ)
          → BetweenRequests limits start now wire read given exchanges after written → RefusesWith limits after status
          → (text : List ℕ) × IsAtRest result limits start next read exchanges (written ++ text)) → IsServing answers conns ends conn began promise limits setting start next tally result
      refused result status goes_on refuses =
          let y = refuses limits start wire s.read s.stands.0 s.exchanges s.stands.1 s.written x (between.refused_due x later status limits_stay (gave (Bad status) goes_on)) in
          rested s.read s.exchanges (s.written ++ y.0) result s.promised s.counted y.1

      -- an opening handshake
      module _ (scope : Scope) (facts : Facts) (goes_on : ((status : ℕ) → IsRefused wire.requests status → ⊥) → GoesOn wire.requests later (Head scope facts))
          (upgrade : facts.framing ≡ Upgrade) where
        pub here : (frames : List ℕ) × BeginsWithHandshake limits s.stands.1 scope facts frames
        here = between.handshake_here x later scope facts limits_stay (gave (Head scope facts) goes_on) upgrade

        pub is_websocket : {whole : Scope} → whole ≡ scope_in setting scope → kind_of whole ≡ WebSocket
        is_websocket is = rw (is, here.1.scope_is) refl

        abbrev pub handshake_scene : SessionScene
        handshake_scene = record { limits = limits; start = start; exchanges = s.exchanges; before = s.written; scope = scope; facts = facts; frames = here.0; read = s.read }

        pub opens_handshake : OpensHandshake handshake_scene now (record wire { requests = later }) facts s.read
        opens_handshake = record {
          facts_are = refl;
          read_is = refl;
          limits_are = x.limits_are.0;
          reader_limits = limits_stay;
          moved = x.moved;
          given = s.stands.0;
          after = s.stands.1;
          between = x.between;
          stands = gave (Head scope facts) goes_on;
          head = here.1;
          ahead = x.ahead;
          empty = x.empty;
        }

        pub opened : {whole : Scope} {next : LineState} {result : Place X} → whole ≡ scope_in setting scope
            → ((scene : SessionScene) (setting : Setting) (read : List ℕ) (tally : Tally) → whole ≡ scope_in setting scene.scope
            → OpensHandshake scene now (record wire { requests = later }) facts read → ArePromisedIn promise setting scene.exchanges → IsTallied tally scene.exchanges
            → IsServing answers conns ends conn began promise scene.limits setting scene.start next tally result)
            → IsServing answers conns ends conn began promise limits setting start next tally result
        opened whole_is serves = serves handshake_scene setting s.read tally whole_is opens_handshake s.promised s.counted

      -- a head
      module _ (scope : Scope) (facts : Facts) (goes_on : ((status : ℕ) → IsRefused wire.requests status → ⊥) → GoesOn wire.requests later (Head scope facts)) (plain : facts.framing ≢ Upgrade) where
        in_one : (arrived : List ℕ) × Within limits wire.input s.read (s.stands.0 ++ Head scope facts ∷ []) s.exchanges s.written scope facts arrived
        in_one = loop.begins limits wire.input s.read s.stands.0 [] s.exchanges s.stands.1 s.written later.place later.held scope facts x.between
            (rw limits_stay at (gave (Head scope facts) goes_on)) plain

        pub is_http : {whole : Scope} → whole ≡ scope_in setting scope → kind_of whole ≡ Http
        is_http is = rw (is, in_one.1.one.head.scope_is) (plain_is_http setting (record_of in_one.1.one.head.head) facts.framing plain)

        abbrev scene : Scene
        scene = record { start = start; exchanges = s.exchanges; before = s.written; scope = scope; facts = facts; opened = s.stands.0 ++ Head scope facts ∷ [] }

        within_scene : WithinScene scene limits wire.input s.read in_one.0
        within_scene =
            let heads = heads_more s.stands.0 scope facts ∙ ap (λ (l : List (Scope × Facts)). l ++ (scope, facts) ∷ []) x.heads in
            let ahead = more_requests limits s.read (requests_of s.exchanges) ((scope, facts) ∷ []) x.ahead in record { one = in_one.1.one; opens = in_one.1.opens; heads = heads; ahead = ahead }

        pub answered : {whole : Scope} {next : LineState} {result : Place X} → whole ≡ scope_in setting scope
            → ((scene : Scene) (setting : Setting) (read arrived : List ℕ) (tally : Tally) → whole ≡ scope_in setting scene.scope
            → OpensRequest scene now (record wire { requests = later }) facts read arrived → ArePromisedIn promise setting scene.exchanges → IsTallied tally scene.exchanges
            → IsServing answers conns ends conn began promise wire.limits setting scene.start next tally result)
            → IsServing answers conns ends conn began promise limits setting start next tally result
        answered {next = next} {result} whole_is serves =
            let within = subst (λ (l : Limits). WithinScene scene l wire.input s.read in_one.0) (sym x.limits_are.0) within_scene in
            let ahead = subst (λ (l : Limits). ReadsAhead l s.read (requests_of s.exchanges)) (sym x.limits_are.0) x.ahead in
            let limits_are = limits_stay ∙ sym x.limits_are.0 in subst (λ (l : Limits). IsServing answers conns ends conn began promise l setting start next tally result) x.limits_are.0
            (serves scene setting s.read in_one.0 tally whole_is
            (record { facts_are = refl; moved = x.moved; limits = limits_are; within = within; given = gave (Head scope facts) goes_on; empty = x.empty; ahead = ahead }) s.promised s.counted)
