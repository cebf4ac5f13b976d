-- How a table of rooms answers an opening handshake.
use Rattle.std.specs.Prelude.{◌≡◌, ℕ, Bool, true, false, List, [], ◌∷◌, ◌++◌, length, Option, Some, None}
use Rattle.matchit.specs.Router.{RouteOf}
use Rattle.asgi_types.specs.declared.scope.WsScope.{WsScope}
use Rattle.asgi_apps.specs.Mounts.{local_path}
use Rattle.asgi_handlers.specs.Params.{Param}
use Rattle.asgi_talks.specs.declared.opened.Opened.{Opened}
use Rattle.asgi_talks.specs.declared.opened.Opened.TheVariants.{Accepted, Refused}
use Rattle.asgi_routes.specs.declared.room_chain.RoomChain.{RoomChain}
use Rattle.asgi_routes.specs.declared.room_session.RoomSession.{RoomSession}
use Rattle.asgi_routes.specs.declared.room_session.RoomSession.TheVariants.{This, Other}
use Rattle.asgi_routes.specs.Patterns.{AreShown, IsNew, matched, parts_of, place_in, rows_of}

-- ---- which room of a chain opens the session

-- the same answer, with the session as one of the chain
abbrev pub opened_as : {S T : Type 0} → (S → T) → Opened S → Opened T
opened_as as_one (Accepted subprotocol headers session) = Accepted subprotocol headers (as_one session)
opened_as as_one Refused = Refused

-- A room answered as it promises, and its session is one of the chain.
pub record OpensAs {S T : Type 0} (as_one : S → T) (allows : Opened S → Type 0) (opened : Opened T) : Type 0 where
  pub own : Opened S
  pub allowed : allows own
  pub same : opened ≡ opened_as as_one own

-- this room if the pattern is its own, or else one of the rest
abbrev pub OpensAt : {S T : Type 0} → (is_own : Bool) → (Opened S → Type 0) → (Opened T → Type 0) → Opened (RoomSession S T) → Type 0
OpensAt true own rest opened = OpensAs This own opened
OpensAt false own rest opened = OpensAs Other rest opened

-- ---- how a table opens a session

-- The room of a pattern answered as it promises, with the parts of the path that the parameters of this pattern took.
pub record OpensWith {S : Type 0} (allows : List Param → Opened S → Type 0) (parts : List Param) (opened : Opened S) : Type 0 where
  pub params : List Param
  pub taken : AreShown parts params
  pub allowed : allows params opened

-- by the promises of the rooms, each at the pattern of a number
module _ {R S : Type 0} (allows : R → ℕ → WsScope → List Param → Opened S → Type 0) where
  -- by the pattern that the path matches; the session is refused if it matches none
  abbrev pub OpensByMatch : R → List ℕ → Option (RouteOf ℕ) → WsScope → Opened S → Type 0
  OpensByMatch rooms path None scope opened = opened ≡ Refused
  OpensByMatch rooms path (Some route) scope opened = OpensWith (allows rooms route.value scope) (parts_of route path) opened

  -- the path is that of the scope, without the prefix under which the application is mounted
  abbrev pub RoomsOpen : List (List ℕ) → R → WsScope → Opened S → Type 0
  RoomsOpen patterns rooms scope opened =
      OpensByMatch rooms (local_path scope.path scope.root_path) (matched patterns (local_path scope.path scope.root_path)) scope opened

-- ---- when a table fails to answer

-- this room's handshakes if the pattern is its own, or else those of the rest
abbrev pub FailsAt : (is_own : Bool) → Type 0 → Type 0 → Type 0
FailsAt true own rest = own
FailsAt false own rest = rest

-- The room of a pattern may fail, with the parts of the path that the parameters of this pattern took.
pub record FailsWith (fails : List Param → Type 0) (parts : List Param) : Type 0 where
  pub params : List Param
  pub taken : AreShown parts params
  pub failed : fails params

-- by the handshakes that the rooms may fail to answer, each at the pattern of a number
module _ {R : Type 0} (fails : R → ℕ → WsScope → List Param → Type 0) where
  -- by the pattern that the path matches; never if it matches none
  abbrev pub FailsByMatch : R → List ℕ → Option (RouteOf ℕ) → WsScope → Type 0
  FailsByMatch rooms path None scope = ⊥
  FailsByMatch rooms path (Some route) scope = FailsWith (fails rooms route.value scope) (parts_of route path)

  abbrev pub RoomsFail : List (List ℕ) → R → WsScope → Type 0
  RoomsFail patterns rooms scope = FailsByMatch rooms (local_path scope.path scope.root_path) (matched patterns (local_path scope.path scope.root_path)) scope

-- ---- one more room

-- The room was added to the rest, at this pattern.
pub record IsRoomAdded {A R : Type 0} (patterns : List (List ℕ)) (rest : R) (pattern : List ℕ) (room : A) (after : List (List ℕ)) (chain : RoomChain A R) : Type 0 where
  pub patterns_are : after ≡ patterns ++ pattern ∷ []
  pub number_is : chain.pattern ≡ length patterns
  pub room_is : chain.room ≡ room
  pub rest_is : chain.rest ≡ rest
  -- the pattern is well formed and conflicts with none
  pub fit : IsNew (rows_of patterns) pattern
  -- it had no room
  pub free : place_in patterns pattern ≡ None
