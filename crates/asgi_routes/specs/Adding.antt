-- One more route.
use Rattle.std.specs.Prelude.{◌≡◌, ℕ, true, false, List}
use Rattle.asgi_routes.specs.declared.chain.Chain.{Chain}
use Rattle.asgi_routes.specs.declared.error.RouteError.{RouteError}
use Rattle.asgi_routes.specs.declared.method.Method.{Method}
use Rattle.asgi_routes.specs.Methods.{has_method, name_of}
use Rattle.asgi_routes.specs.Patterns.{IsFit, IsWhy, number_of, with_pattern}

-- The endpoint was added to the rest, for this method at this pattern.
pub record IsAdded {E R : Type 0} (methods : R → ℕ → List Method) (patterns : List (List ℕ)) (rest : R) (method : Method) (pattern : List ℕ)
    (endpoint : E) (after : List (List ℕ)) (chain : Chain E R) : Type 0 where
  pub patterns_are : after ≡ with_pattern patterns pattern
  pub number_is : chain.pattern ≡ number_of patterns pattern
  pub method_is : chain.method ≡ method
  pub endpoint_is : chain.endpoint ≡ endpoint
  pub rest_is : chain.rest ≡ rest
  -- the pattern was there already, or it is well formed and conflicts with none
  pub fit : IsFit patterns pattern
  -- it had no endpoint for the method
  pub free : has_method (methods rest (number_of patterns pattern)) (name_of method) ≡ false

-- why it is not added; it is taken if the pattern has an endpoint for the method
abbrev pub IsRefused : {R : Type 0} → (R → ℕ → List Method) → List (List ℕ) → R → Method → List ℕ → RouteError → Type 0
IsRefused methods patterns rest method pattern why = IsWhy (has_method (methods rest (number_of patterns pattern)) (name_of method) ≡ true) patterns pattern why
