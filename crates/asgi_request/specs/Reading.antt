-- What a reader stands for, and what a call does to it.
use Rattle.std.specs.Prelude.{◌≡◌, ℕ, ◌⊎◌, List, [], ◌∷◌, ◌++◌}
use Rattle.std.specs.List.{flat_map}
use Rattle.asgi_request.specs.Results.{AreRequests, ReadsHandshake, GivesResults}
use Rattle.asgi_types.specs.declared.limits.Limits.{Limits}
use Rattle.asgi_request.specs.declared.place.Place.{Place}
use Rattle.asgi_request.specs.declared.place.Place.TheVariants.{Start, Stopped}
use Rattle.asgi_request.specs.declared.next.Next.{Next}
use Rattle.asgi_request.specs.declared.next.Next.TheVariants.{Whole}
use Rattle.asgi_request.specs.declared.refusal.Refusal.{Refusal}
use Rattle.asgi_request.specs.Refusals.{status_of}
use Rattle.asgi_request.specs.Fronts.{unfinished}
use Rattle.asgi_request.specs.Places.{front, Reaches}

-- what a reader is: its limits, what is due next, the bytes after the last text, and the capacity for them
pub record Reading : Type 0 where
  pub limits : Limits
  pub place : Place
  pub held : List ℕ
  pub capacity : ℕ

-- the reader was fed these bytes and gave these results
abbrev pub StandsFor : Reading → List ℕ → List Next → Type 0
StandsFor r bytes given = Reaches r.limits bytes given r.place r.held

-- the last result given ended a request, or none was given
abbrev pub EndsWhole : List Next → Type 0
EndsWhole given = (given ≡ []) ⊎ ((before : List Next) × (given ≡ before ++ Whole ∷ []))

-- these are all the results of the bytes
abbrev pub AllGiven : Reading → List ℕ → List Next → Type 0
AllGiven r bytes given = (rest : List ℕ) × GivesResults r.limits bytes given rest

-- what was given are the results of whole requests, and perhaps of an opening handshake after them, and rest stands after all of
-- these
pub record WholeGiven (r : Reading) (bytes : List ℕ) (given : List Next) (rest : List ℕ) : Type 0 where
  pub requests : List (List Next)
  pub after : List ℕ
  pub last : List Next
  pub whole : AreRequests r.limits bytes requests after
  pub goes_on : ((last ≡ []) × (after ≡ rest)) ⊎ ReadsHandshake r.limits after last rest
  pub given_are : given ≡ flat_map (λ request. request) requests ++ last

-- no result is there
abbrev pub IsWaiting : Reading → Type 0
IsWaiting r = front r.limits r.place r.held ≡ unfinished

-- a head is due
abbrev pub AwaitsHead : Reading → Type 0
AwaitsHead r = r.place ≡ Start

-- a refusal was given
abbrev pub IsRefused : Reading → ℕ → Type 0
IsRefused r status = (why : Refusal) × (r.place ≡ Stopped why) × (status ≡ status_of why)

-- no result was given
abbrev pub Keeps : Reading → Reading → Type 0
Keeps old new = (bytes : List ℕ) (given : List Next) → StandsFor old bytes given → StandsFor new bytes given

-- this result was given
abbrev pub GoesOn : Reading → Reading → Next → Type 0
GoesOn old new item = (bytes : List ℕ) (given : List Next) → StandsFor old bytes given → StandsFor new bytes (given ++ item ∷ [])

-- this result was given, if what was given before ended in no whole request
abbrev pub GoesOnInside : Reading → Reading → Next → Type 0
GoesOnInside old new item = (bytes : List ℕ) (given : List Next) → StandsFor old bytes given → (EndsWhole given → ⊥) → StandsFor new bytes (given ++ item ∷ [])
