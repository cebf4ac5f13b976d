-- The calls of the application, counted.
use Rattle.std.proofs.Common.{◌≡◌, ◌+◌, refl, List, [], ◌∷◌, length, length-append, arith, ap, ◌∙◌}
use Rattle.asgi_types.specs.declared.scope.Scope.{Scope}
use Rattle.asgi_conn.specs.{declared.connection.Connection.Connection, Places.Place, Places.place_of, Standing.begun_at, Standing.exchanges_of}
use Rattle.asgi_conn.specs.Places as place
use Rattle.asgi_conn.specs.private.Loop.{CallsWith, IsFree}

-- one more call for one more exchange
pub calls_more : {X : Type 0} (scope : Scope) (at : Place X) (old new : List Scope) → CallsWith scope at old new → length new ≡ length old + begun_at at
calls_more scope (place.Http half exchange) old new called = ap length called ∙ length-append old (scope ∷ [])
calls_more scope (place.Session half exchange) old new called = ap length called ∙ length-append old (scope ∷ [])
calls_more scope _ old new called = let same : length new ≡ length old = ap length called in omega (arith, same)

none_begun : {X : Type 0} (at : Place X) → IsFree at → begun_at at ≡ 0
none_begun (place.Between wire) free = refl
none_begun (place.Ended outcome) free = refl
none_begun _ free = absurd free

-- with no exchange before and after, none was begun
pub counts_at_rest : {X : Type 0} (old new : Connection X) → IsFree (place_of old) → IsFree (place_of new) → new.tally ≡ old.tally → exchanges_of new ≡ exchanges_of old
counts_at_rest old new was is same = rw (none_begun (place_of old) was, none_begun (place_of new) is, same) refl
