-- A lifespan task with both of its ends.
use Rattle.std.specs.Prelude.{◌≡◌, ◌≢◌, ℕ, ◌-◌, ◌≤◌, false, List, [], ◌∷◌, ◌++◌, length, Option, Some, None}
use mathlib.Core.List.{IsPrefix}
use Rattle.asgi_types.specs.declared.end_kind.EndKind.{EndKind}
use Rattle.asgi_types.specs.declared.end_kind.EndKind.TheVariants as end_kind
use Rattle.asgi_types.specs.declared.incoming.Incoming.{Incoming}
use Rattle.asgi_types.specs.declared.incoming.Incoming.TheVariants.{LifespanStartup}
use Rattle.asgi_types.specs.declared.outgoing.Outgoing.{Outgoing}
use Rattle.asgi_types.specs.declared.outgoing.Outgoing.TheVariants.{StartupComplete}
use Rattle.asgi_types.specs.declared.scope.Kind.{Kind}
use Rattle.asgi_types.specs.declared.scope.Kind.TheVariants.{Lifespan}
use Rattle.asgi_types.specs.declared.state.StateValue.{StateValue}
use Rattle.asgi_pipes.specs.declared.items.OutItem.{OutItem}
use Rattle.asgi_pipes.specs.declared.items.OutItem.TheVariants.{Event}
use Rattle.asgi_pipes.specs.Items.{items_of}
use Rattle.asgi_pipes.specs.PlainPairs.{IsPlainPair}
use Rattle.asgi_apps.specs.Ends.{GoesOn}
use Rattle.asgi_pipes.specs.contracts.plain_app.PlainAppAppEnd.TheImpl as app_end
use Rattle.asgi_pipes.specs.contracts.plain_conn.PlainConnConnEnd.TheImpl as conn_end
use Rattle.asgi_lifespan.specs.declared.hosted.Hosted.{Hosted}
use Rattle.asgi_lifespan.specs.declared.hosted.Word.{Word}
use Rattle.asgi_lifespan.specs.declared.hosted.Word.TheVariants.{Said, Ended, Idle}
use Rattle.asgi_lifespan.specs.Facts.{no_request}

module _ {T : Type 0} where
  -- what its task has received and sent, what it was offered, and what was taken of what it sent
  abbrev pub heard_by : Hosted T → List Incoming
  heard_by hosted = app_end.ghosts.heard hosted.app_end

  abbrev pub said_by : Hosted T → List Outgoing
  said_by hosted = app_end.ghosts.said hosted.app_end

  abbrev pub offered_to : Hosted T → List Incoming
  offered_to hosted = conn_end.ghosts.offered hosted.conn

  abbrev pub got_of : Hosted T → List OutItem
  got_of hosted = conn_end.ghosts.got hosted.conn

  -- What is promised of all that will have been received and sent, and of the end: by a task that runs, its own promise; after
  -- the end of a task nothing more is received or sent.
  abbrev pub PromisesFrom : (T → List Incoming → List Outgoing → Option EndKind → Type 0) → Hosted T → Option EndKind → List Incoming → List Outgoing → Option EndKind → Type 0
  PromisesFrom answers hosted None heard said ended = answers hosted.task heard said ended
  PromisesFrom answers hosted (Some kind) heard said ended = (heard ≡ heard_by hosted) × (said ≡ said_by hosted) × (ended ≡ Some kind)

  abbrev pub Promises : (T → List Incoming → List Outgoing → Option EndKind → Type 0) → Hosted T → List Incoming → List Outgoing → Option EndKind → Type 0
  Promises answers hosted heard said ended = PromisesFrom answers hosted hosted.ended heard said ended

  -- ---- words of private functions

  -- The task may be polled until it has ended, in a lifespan scope whose ends have places for two events.
  pub record IsOpen (stands : T → Kind → List Incoming → List Outgoing → Type 0) (hosted : Hosted T) : Type 0 where
    pub kind : app_end.ghosts.kind hosted.app_end ≡ Lifespan
    pub facts : app_end.ghosts.facts hosted.app_end ≡ no_request
    pub open_app : app_end.ghosts.ended hosted.app_end ≡ None
    pub open_conn : conn_end.ghosts.is_broken hosted.conn ≡ false
    pub places : 2 ≤ conn_end.ghosts.ring hosted.conn
    pub runs : hosted.ended ≡ None → stands hosted.task (app_end.ghosts.kind hosted.app_end) (heard_by hosted) (said_by hosted)
    pub own_end : hosted.ended ≢ Some end_kind.Idle

  -- The ends are a pair, and all that was put at one is at the other: what that one has taken, and what it sees waiting.
  pub record IsCarried (hosted : Hosted T) : Type 0 where
    pub pair : IsPlainPair hosted.conn hosted.app_end
    pub inward : conn_end.ghosts.offered hosted.conn ≡ app_end.ghosts.pulled hosted.app_end ++ app_end.ghosts.seen hosted.app_end
    pub outward : items_of (said_by hosted) (app_end.ghosts.ended hosted.app_end) ≡ got_of hosted ++ conn_end.ghosts.seen hosted.conn
    pub room : conn_end.ghosts.room hosted.conn ≡ conn_end.ghosts.ring hosted.conn - length (app_end.ghosts.seen hosted.app_end)

  abbrev pub IsHosted : (T → Kind → List Incoming → List Outgoing → Type 0) → Hosted T → Type 0
  IsHosted stands hosted = IsOpen stands hosted × IsCarried hosted

  -- its task was left alone
  pub record IsLeft (old new : Hosted T) : Type 0 where
    pub task : new.task ≡ old.task
    pub ended : new.ended ≡ old.ended
    pub heard : heard_by new ≡ heard_by old
    pub said : said_by new ≡ said_by old
    pub kind : app_end.ghosts.kind new.app_end ≡ app_end.ghosts.kind old.app_end
    pub facts : app_end.ghosts.facts new.app_end ≡ app_end.ghosts.facts old.app_end
    pub open_app : app_end.ghosts.ended new.app_end ≡ app_end.ghosts.ended old.app_end
    pub open_conn : conn_end.ghosts.is_broken new.conn ≡ conn_end.ghosts.is_broken old.conn
    pub ring : conn_end.ghosts.ring new.conn ≡ conn_end.ghosts.ring old.conn

  -- its task was polled once
  pub record IsPolled (stands : T → Kind → List Incoming → List Outgoing → Type 0) (answers : T → List Incoming → List Outgoing → Option EndKind → Type 0)
      (old new : Hosted T) : Type 0 where
    pub conn : new.conn ≡ old.conn
    pub goes_on : GoesOn app_end.ghosts None old.app_end new.app_end
    pub runs : new.ended ≡ None → stands new.task (app_end.ghosts.kind new.app_end) (heard_by new) (said_by new)
    pub own_end : new.ended ≢ Some end_kind.Idle
    pub within : (heard : List Incoming) (said : List Outgoing) (ended : Option EndKind) → Promises answers new heard said ended → Promises answers old heard said ended

  -- from one state to a later one
  pub record Follows (stands : T → Kind → List Incoming → List Outgoing → Type 0) (answers : T → List Incoming → List Outgoing → Option EndKind → Type 0)
      (old new : Hosted T) : Type 0 where
    pub hosted : IsHosted stands new
    pub heard : IsPrefix (heard_by old) (heard_by new)
    pub said : IsPrefix (said_by old) (said_by new)
    pub offered : offered_to new ≡ offered_to old
    pub within : (heard : List Incoming) (said : List Outgoing) (ended : Option EndKind) → Promises answers new heard said ended → Promises answers old heard said ended

  -- the word is the next event that was sent, or, once each was taken, how the task ended, or that it still runs
  abbrev pub Tells : Hosted T → Hosted T → Option Word → Type 0
  Tells old new (Some (Said event)) = got_of new ≡ got_of old ++ Event event ∷ []
  Tells old new (Some (Ended kind)) = (got_of new ≡ got_of old) × (items_of (said_by new) None ≡ got_of old) × (new.ended ≡ Some kind)
  Tells old new (Some (Idle turns)) = (got_of new ≡ got_of old) × (items_of (said_by new) None ≡ got_of old) × (new.ended ≡ None)
  Tells old new None = (got_of new ≡ got_of old) × (items_of (said_by new) None ≡ got_of old) × (new.ended ≡ None)

  -- "Startup" was answered with this state, and no more than that was taken
  pub record IsStarted (stands : T → Kind → List Incoming → List Outgoing → Type 0) (hosted : Hosted T) : Type 0 where
    pub hosts : IsHosted stands hosted
    pub offered : offered_to hosted ≡ LifespanStartup ∷ []
    pub state : List (List ℕ × StateValue)
    pub got : got_of hosted ≡ Event (StartupComplete state) ∷ []

abbrev pub turns_in : Word → Option ℕ
turns_in (Idle turns) = Some turns
turns_in (Said event) = None
turns_in (Ended kind) = None
