-- The search for a mount, and the invariant of a mounted task, its `stands`.
use Rattle.std.specs.Prelude.{◌≡◌, ℕ, List, [], length, Option, Some, None}
use Rattle.asgi_types.specs.declared.scope.Kind.{Kind}
use Rattle.asgi_types.specs.declared.scope.Scope.{Scope}
use Rattle.asgi_types.specs.declared.scope.Scope.TheVariants.{Http, WebSocket, Lifespan}
use Rattle.asgi_types.specs.declared.incoming.Incoming.{Incoming}
use Rattle.asgi_types.specs.declared.outgoing.Outgoing.{Outgoing}
use Rattle.asgi_types.specs.declared.end_kind.EndKind.{EndKind}
use Rattle.asgi_apps.specs.declared.mounting.Found.{Found}
use Rattle.asgi_apps.specs.declared.mounts.MountTask.{MountTask}
use Rattle.asgi_apps.specs.declared.mounts.MountTask.TheVariants as task
use Rattle.asgi_apps.specs.Mounts.{IsUnmounted, MountedAt}
use Rattle.asgi_apps.specs.Saying.{HasSaid, SaysList, left_of, script}

-- the longest prefix was found, or there is none
abbrev pub IsLongest : List (List ℕ) → List ℕ → Option Found → Type 0
IsLongest prefixes path None = IsUnmounted prefixes path
IsLongest prefixes path (Some found) = (mounted : MountedAt prefixes path found.at) × (length mounted.prefix ≡ found.length)

-- the root_path of a scope; a lifespan scope has none
abbrev pub root_path_of : Scope → List ℕ
root_path_of (Http s) = s.root_path
root_path_of (WebSocket s) = s.root_path
root_path_of (Lifespan s) = []

-- the scope with this root_path
abbrev pub with_root_path : Scope → List ℕ → Scope
with_root_path (Http s) root_path = Http (record s { root_path = root_path })
with_root_path (WebSocket s) root_path = WebSocket (record s { root_path = root_path })
with_root_path (Lifespan s) root_path = Lifespan s

module _ {T : Type 0} where
  abbrev pub TaskStands : (T → Kind → List Incoming → List Outgoing → Type 0) → MountTask T → Kind → List Incoming → List Outgoing → Type 0
  TaskStands stands (task.Taken t) kind heard said = stands t kind heard said
  TaskStands stands (task.Missing says) kind heard said = HasSaid says kind heard said

  abbrev pub TaskAnswers : (T → List Incoming → List Outgoing → Option EndKind → Type 0) → MountTask T → List Incoming → List Outgoing → Option EndKind → Type 0
  TaskAnswers answers (task.Taken t) heard said ended = answers t heard said ended
  TaskAnswers answers (task.Missing says) heard said ended = SaysList says.kind (script says) said ended

  -- a running task has kept its promise
  pub task_keeps : (stands : T → Kind → List Incoming → List Outgoing → Type 0) (answers : T → List Incoming → List Outgoing → Option EndKind → Type 0)
      → ((t : T) (kind : Kind) (heard : List Incoming) (said : List Outgoing) → stands t kind heard said → answers t heard said None)
      → (t : MountTask T) (kind : Kind) (heard : List Incoming) (said : List Outgoing) → TaskStands stands t kind heard said → TaskAnswers answers t heard said None
  task_keeps stands answers keeps (task.Taken t) kind heard said h = keeps t kind heard said h
  task_keeps stands answers keeps (task.Missing says) kind heard said h = (left_of says, h.in_order)
