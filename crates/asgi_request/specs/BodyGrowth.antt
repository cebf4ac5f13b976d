-- What more bytes make of a body, and what its events are.
use Rattle.std.specs.Prelude.{◌≡◌, ℕ, Bool, List, ◌++◌}
use mathlib.Core.List.{IsPrefix}
use Rattle.asgi_types.specs.declared.incoming.Incoming.{Incoming}
use Rattle.asgi_types.specs.declared.incoming.Incoming.TheVariants.{HttpRequest}
use Rattle.asgi_request.specs.ChunkedBody.{BodyState, partial, complete, faulty}

-- A body that is whole or faulty stays so, and nothing more is due: the bytes that follow a whole one stand after it.
abbrev pub StaysAs : BodyState → List ℕ → List Incoming → List Incoming → BodyState → Type 0
StaysAs partial more events others other = Unit {0}
StaysAs (complete after) more events others other = (others ≡ events) × (other ≡ complete (after ++ more))
StaysAs (faulty why) more events others other = (others ≡ events) × (other ≡ faulty why)

-- What was due of the body (events, state) stays due and comes first if more bytes follow (others, other).
pub record Grows (more : List ℕ) (events : List Incoming) (state : BodyState) (others : List Incoming) (other : BodyState) : Type 0 where
  pub first : IsPrefix events others
  pub stays : StaysAs state more events others other

-- "Request" (ASGI HTTP message format 2.4): a part of a body, and no disconnect
abbrev pub IsRequestEvent : Incoming → Type 0
IsRequestEvent event = (bytes : List ℕ) × (more_body : Bool) × (event ≡ HttpRequest bytes more_body)
