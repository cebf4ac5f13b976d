-- What the promise of a table comes to: a law of its parameters, and the words of an example.
use Rattle.std.specs.Prelude.{◌≡◌, ℕ, List, [], ◌∷◌, Option, option_map, codes}
use Rattle.matchit.specs.Params.{AllText}
use Rattle.matchit.specs.Router.{RouteOf}
use Rattle.asgi_handlers.specs.Params.{Param}
use Rattle.asgi_routes.specs.Patterns.{AreShown, matched, parts_of}

-- if all parts are valid UTF-8, the texts of the parameters are the parts
abbrev pub TextsAreParts : Type 0
TextsAreParts = (parts texts : List Param) → AllText parts → AreShown parts texts → texts ≡ parts

-- `/items/{n}`, and `/items/new` after it
abbrev pub two_patterns : List (List ℕ)
two_patterns = codes "/items/{n}" ∷ codes "/items/new" ∷ []

-- the number of the one that a path matches, and what its parameters took
abbrev pub found : List (List ℕ) → List ℕ → Option (ℕ × List Param)
found patterns path = option_map (λ (route : RouteOf ℕ). (route.value, parts_of route path)) (matched patterns path)
