-- Applications under prefixes (ASGI HTTP and WebSocket connection scope, `path` and `root_path`).
use Rattle.std.specs.Prelude.{◌≡◌, ◌≢◌, ◌≤◌, ◌⊎◌, ℕ, eqb, List, [], ◌∷◌, ◌++◌, length, drop, slice_get, Option, Some, if◌then◌else◌}
use Rattle.std.specs.List.{starts_with}
use Rattle.asgi_types.specs.declared.scope.Kind.TheVariants as kind
use Rattle.asgi_types.specs.declared.scope.Scope.{Scope}
use Rattle.asgi_types.specs.declared.scope.Scope.TheVariants.{Http, WebSocket, Lifespan}
use Rattle.asgi_types.specs.declared.incoming.Incoming.{Incoming}
use Rattle.asgi_types.specs.declared.outgoing.Outgoing.{Outgoing}
use Rattle.asgi_types.specs.declared.end_kind.EndKind.{EndKind}
use Rattle.asgi_types.specs.declared.end_kind.EndKind.TheVariants.{Faulted}
use Rattle.asgi_apps.specs.declared.mounting.Mount.{Mount}
use Rattle.asgi_apps.specs.Answers.{Answers, not_found_answer}
use Rattle.asgi_apps.specs.Scopes.{kind_of}
use Rattle.asgi_apps.specs.Promises.{Promise}

-- the code of `/`
abbrev pub slash : ℕ
slash = 47

-- a bad prefix: it is not empty, and either does not begin with a `/` or ends with one
abbrev pub IsBadPrefix : List ℕ → Type 0
IsBadPrefix prefix = (prefix ≢ []) × (((rest : List ℕ) → prefix ≢ slash ∷ rest) ⊎ ((front : List ℕ) × (prefix ≡ front ++ slash ∷ [])))

-- the prefixes, in the order of mounting
abbrev pub prefixes_of : {A : Type 0} → List (Mount A) → List (List ℕ)
prefixes_of [] = []
prefixes_of (mount ∷ mounts) = mount.prefix ∷ prefixes_of mounts

-- the prefix is one of them
abbrev pub IsMounted : List (List ℕ) → List ℕ → Type 0
IsMounted prefixes prefix = (at : ℕ) × (slice_get prefixes at ≡ Some prefix)

-- no prefix stands in two places
abbrev pub EachPrefixOnce : List (List ℕ) → Type 0
EachPrefixOnce prefixes = (one other : ℕ) (prefix : List ℕ) → slice_get prefixes one ≡ Some prefix → slice_get prefixes other ≡ Some prefix → one ≡ other

-- the path without `root_path`, if it begins with that
abbrev pub local_path : List ℕ → List ℕ → List ℕ
local_path path root_path = if starts_with eqb path root_path then drop (length root_path) path else path

-- the path is the prefix, or goes on after it with a `/`
abbrev pub IsUnder : List ℕ → List ℕ → Type 0
IsUnder prefix path = (path ≡ prefix) ⊎ ((rest : List ℕ) × (path ≡ prefix ++ slash ∷ rest))

-- the longest prefix that the path is under is in this place
pub record MountedAt (prefixes : List (List ℕ)) (path : List ℕ) (at : ℕ) : Type 0 where
  pub prefix : List ℕ
  pub stands : slice_get prefixes at ≡ Some prefix
  pub under : IsUnder prefix path
  pub longest : (other : List ℕ) → IsMounted prefixes other → IsUnder other path → length other ≤ length prefix

-- the path is under none of them
abbrev pub IsUnmounted : List (List ℕ) → List ℕ → Type 0
IsUnmounted prefixes path = (prefix : List ℕ) → IsMounted prefixes prefix → ¬ (IsUnder prefix path)

-- a path has at most one mount if no prefix stands in two places
abbrev pub OneMount : Type 0
OneMount = (prefixes : List (List ℕ)) (path : List ℕ) (one other : ℕ) → EachPrefixOnce prefixes → MountedAt prefixes path one → MountedAt prefixes path other → one ≡ other

-- the scope with the prefix added to `root_path`; a lifespan scope has no path
abbrev pub mounted_scope : List ℕ → Scope → Scope
mounted_scope prefix (Http s) = Http (record s { root_path = s.root_path ++ prefix })
mounted_scope prefix (WebSocket s) = WebSocket (record s { root_path = s.root_path ++ prefix })
mounted_scope prefix (Lifespan s) = Lifespan s

-- the scope goes to the application in this place: the one under whose prefix its path is, or the first, in a lifespan scope
abbrev pub TakenAt : List (List ℕ) → Scope → ℕ → Type 0
TakenAt prefixes (Http s) at = MountedAt prefixes (local_path s.path s.root_path) at
TakenAt prefixes (WebSocket s) at = MountedAt prefixes (local_path s.path s.root_path) at
TakenAt prefixes (Lifespan s) at = at ≡ 0

-- the scope goes to none
abbrev pub IsNotTaken : List (List ℕ) → Scope → Type 0
IsNotTaken prefixes (Http s) = IsUnmounted prefixes (local_path s.path s.root_path)
IsNotTaken prefixes (WebSocket s) = IsUnmounted prefixes (local_path s.path s.root_path)
IsNotTaken prefixes (Lifespan s) = prefixes ≡ []

-- what holds of the application that a scope goes to, and of the scope that it gets
pub record TakenBy {A : Type 0} (mounts : List (Mount A)) (scope : Scope) (P : A → Scope → Type 0) : Type 0 where
  pub at : ℕ
  pub taken : TakenAt (prefixes_of mounts) scope at
  pub mount : Mount A
  pub stands : slice_get mounts at ≡ Some mount
  pub holds : P mount.app (mounted_scope mount.prefix scope)

-- a call faulted, before anything was received or sent
abbrev pub Nothing : List Incoming → List Outgoing → Option EndKind → Type 0
Nothing heard said ended = (heard ≡ []) × (said ≡ []) × (ended ≡ Some Faulted)

-- The application that the scope goes to keeps its own promise; if there is none, the answer is that of `NotFound`.
abbrev pub MountsAnswer : {A : Type 0} → (A → Promise)
    → List (Mount A) → Promise
MountsAnswer answers mounts scope heard said ended =
    Nothing heard said ended
    ⊎ TakenBy mounts scope (λ app taken. answers app taken heard said ended)
    ⊎ (IsNotTaken (prefixes_of mounts) scope × Answers (not_found_answer scope) heard said ended)

-- a call may fail by judgement if that of the application that the scope goes to may, and in a lifespan scope that goes to none
abbrev pub MountsRefuse : {A : Type 0} → (A → Scope → Type 0) → List (Mount A) → Scope → Type 0
MountsRefuse refuses mounts scope = TakenBy mounts scope refuses ⊎ (IsNotTaken (prefixes_of mounts) scope × (kind_of scope ≡ kind.Lifespan))
