-- Where results stand among the bytes that gave them: after whole requests, or after a head.
use Rattle.std.specs.Prelude.{◌≡◌, ◌≢◌, ℕ, List, [], ◌∷◌, ◌++◌}
use Rattle.std.specs.List.{flat_map}
use Rattle.httparse.specs.Grammar.{RequestHead}
use Rattle.asgi_types.specs.declared.facts.Facts.{Facts}
use Rattle.asgi_types.specs.declared.facts.Framing.{Framing}
use Rattle.asgi_types.specs.declared.facts.Framing.TheVariants.{Upgrade}
use Rattle.asgi_types.specs.declared.limits.Limits.{Limits}
use Rattle.asgi_types.specs.declared.scope.Scope.{Scope}
use Rattle.asgi_request.specs.declared.next.Next.{Next}
use Rattle.asgi_request.specs.declared.next.Next.TheVariants.{Head}
use Rattle.asgi_request.specs.Head.{record_of}
use Rattle.asgi_request.specs.Results.{ReadsHead, AreRequests}
use Rattle.asgi_request.specs.Scopes.{scope_of, facts_of}

-- The bytes begin with the head of a request that gives this scope and these facts, and `arrived` stands after it. The request
-- is no opening handshake.
pub record BeginsWith (limits : Limits) (bytes : List ℕ) (scope : Scope) (facts : Facts) (arrived : List ℕ) : Type 0 where
  pub head : RequestHead
  pub reads : ReadsHead limits bytes head facts.framing arrived
  pub plain : facts.framing ≢ Upgrade
  pub scope_is : scope ≡ scope_of (record_of head) facts.framing
  pub facts_are : facts ≡ facts_of (record_of head) facts.framing

-- The results are those of whole requests, or none, and `after` stands after them.
abbrev pub HasClosed : Limits → List ℕ → List Next → List ℕ → Type 0
HasClosed limits bytes closed after = (requests : List (List Next)) × AreRequests limits bytes requests after × (closed ≡ flat_map (λ request. request) requests)

-- The results are those of whole requests and then a head with a body framed that way, and `arrived` stands after it.
pub record HasOpened (limits : Limits) (bytes : List ℕ) (opened : List Next) (framing : Framing) (arrived : List ℕ) : Type 0 where
  pub closed : List Next
  pub after : List ℕ
  pub scope : Scope
  pub facts : Facts
  pub before : HasClosed limits bytes closed after
  pub head : BeginsWith limits after scope facts arrived
  pub framing_is : framing ≡ facts.framing
  pub opened_is : opened ≡ closed ++ Head scope facts ∷ []

-- The bytes begin with an opening handshake that gives this scope and these facts, and `frames` stands after it.
pub record BeginsWithHandshake (limits : Limits) (bytes : List ℕ) (scope : Scope) (facts : Facts) (frames : List ℕ) : Type 0 where
  pub head : RequestHead
  pub reads : ReadsHead limits bytes head Upgrade frames
  pub scope_is : scope ≡ scope_of (record_of head) Upgrade
  pub facts_are : facts ≡ facts_of (record_of head) Upgrade
