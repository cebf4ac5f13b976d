-- The patterns of a table of routes, and the one that a path matches, by the search of `matchit`.
use Rattle.std.specs.Prelude.{◌≡◌, ◌≢◌, ◌+◌, ℕ, List, [], ◌∷◌, ◌++◌, length, Option, Some, None, Result, Ok, Err, ⊤, alloc_error, bytes_eq}
use Rattle.std.specs.List.{position}
use Rattle.matchit.specs.Rows.{RowsOf}
use Rattle.matchit.specs.Seek.{first}
use Rattle.matchit.specs.Order.{placed}
use Rattle.matchit.specs.Route.{Scan, parse_route}
use Rattle.matchit.specs.Router.{RouteOf, nearest, route_from}
use Rattle.matchit.specs.Params.{Shows, walk}
use Rattle.matchit.specs.declared.error.InsertError.{InsertError}
use Rattle.matchit.specs.declared.error.InsertError.TheVariants as refused
use Rattle.asgi_handlers.specs.Params.{Param}
use Rattle.asgi_routes.specs.declared.error.RouteError.{RouteError}
use Rattle.asgi_routes.specs.declared.error.RouteError.TheVariants.{BadParameter, TwoParameters, BadCatchAll, Conflict, Taken, NoMemory}

-- ---- a table of patterns

-- with one more pattern, if it is well formed
abbrev pub with_read : RowsOf (RouteOf ℕ) → Result Scan InsertError → ℕ → RowsOf (RouteOf ℕ)
with_read rows (Ok scan) number = placed (scan.pattern, route_from scan number) rows
with_read rows (Err error) number = rows

-- with these, one after another, with the numbers from this one on
abbrev pub rows_from : RowsOf (RouteOf ℕ) → ℕ → List (List ℕ) → RowsOf (RouteOf ℕ)
rows_from rows number [] = rows
rows_from rows number (pattern ∷ patterns) = rows_from (with_read rows (parse_route pattern) number) (number + 1) patterns

-- the rows of these patterns, which are numbered from 0 on
abbrev pub rows_of : List (List ℕ) → RowsOf (RouteOf ℕ)
rows_of patterns = rows_from [] 0 patterns

-- ---- the pattern that a path matches

-- its number and its parameters: of the patterns that match the narrowest, by the search of `matchit`
abbrev pub matched : List (List ℕ) → List ℕ → Option (RouteOf ℕ)
matched patterns path = first (rows_of patterns) path

-- each of its parameters, with the part of the path that it took
abbrev pub parts_of : RouteOf ℕ → List ℕ → List Param
parts_of route path = walk route.pattern route.text path route.names 0 0

-- the same as texts: what is valid UTF-8 stands for itself
abbrev pub AreShown : List Param → List Param → Type 0
AreShown [] [] = ⊤
AreShown [] (text ∷ texts) = ⊥
AreShown (part ∷ parts) [] = ⊥
AreShown (part ∷ parts) (text ∷ texts) = Shows part.0 text.0 × Shows part.1 text.1 × AreShown parts texts

-- ---- one more pattern

-- where the pattern stands among others
abbrev pub place_in : List (List ℕ) → List ℕ → Option ℕ
place_in patterns pattern = position (λ (known : List ℕ). bytes_eq known pattern) patterns

-- its number is its place, or the next one
abbrev pub number_at : Option ℕ → List (List ℕ) → ℕ
number_at (Some place) patterns = place
number_at None patterns = length patterns

abbrev pub number_of : List (List ℕ) → List ℕ → ℕ
number_of patterns pattern = number_at (place_in patterns pattern) patterns

-- it comes last, if it is not there yet
abbrev pub with_at : Option ℕ → List (List ℕ) → List ℕ → List (List ℕ)
with_at (Some place) patterns pattern = patterns
with_at None patterns pattern = patterns ++ pattern ∷ []

abbrev pub with_pattern : List (List ℕ) → List ℕ → List (List ℕ)
with_pattern patterns pattern = with_at (place_in patterns pattern) patterns pattern

-- it is well formed, and conflicts with none of the rows
abbrev pub IsNew : RowsOf (RouteOf ℕ) → List ℕ → Type 0
IsNew rows pattern = (scan : Scan) × (parse_route pattern ≡ Ok scan) × (nearest scan.pattern rows ≡ None)

-- so is each that is not there yet
abbrev pub IsFitAt : Option ℕ → List (List ℕ) → List ℕ → Type 0
IsFitAt (Some place) patterns pattern = ⊤
IsFitAt None patterns pattern = IsNew (rows_of patterns) pattern

abbrev pub IsFit : List (List ℕ) → List ℕ → Type 0
IsFit patterns pattern = IsFitAt (place_in patterns pattern) patterns pattern

-- ---- why a route is not added

-- the reason, by the error of the router
abbrev pub why_of : InsertError → RouteError
why_of (refused.Conflict with) = Conflict
why_of refused.InvalidParamSegment = TwoParameters
why_of refused.InvalidParam = BadParameter
why_of refused.InvalidCatchAll = BadCatchAll
why_of refused.OutOfMemory = NoMemory alloc_error

-- when each error comes
abbrev pub IsWhyIn : (taken : Type 0) → RowsOf (RouteOf ℕ) → List ℕ → RouteError → Type 0
IsWhyIn taken rows pattern BadParameter = parse_route pattern ≡ Err refused.InvalidParam
IsWhyIn taken rows pattern TwoParameters = parse_route pattern ≡ Err refused.InvalidParamSegment
IsWhyIn taken rows pattern BadCatchAll = parse_route pattern ≡ Err refused.InvalidCatchAll
IsWhyIn taken rows pattern Conflict = (scan : Scan) × (parse_route pattern ≡ Ok scan) × (nearest scan.pattern rows ≢ None)
IsWhyIn taken rows pattern Taken = taken
IsWhyIn taken rows pattern (NoMemory error) = ⊤

abbrev pub IsWhy : (taken : Type 0) → List (List ℕ) → List ℕ → RouteError → Type 0
IsWhy taken patterns pattern why = IsWhyIn taken (rows_of patterns) pattern why

-- memory was refused
abbrev pub IsNoMemory : RouteError → Type 0
IsNoMemory (NoMemory error) = ⊤
IsNoMemory BadParameter = ⊥
IsNoMemory TwoParameters = ⊥
IsNoMemory BadCatchAll = ⊥
IsNoMemory Conflict = ⊥
IsNoMemory Taken = ⊥
