-- The turns that a lifespan task took, one after the other.
use Rattle.std.proofs.Common.{◌≡◌, false, List, [], ◌∷◌, ◌++◌, Option, None, refl, sym, ap, ◌∙◌, subst}
use Rattle.asgi_io.specs.declared.turns.Turn.{Turn}
use Rattle.asgi_types.specs.declared.end_kind.EndKind.{EndKind}
use Rattle.asgi_pipes.specs.declared.plain_app.PlainApp.{PlainApp}
use Rattle.asgi_pipes.specs.contracts.plain_app.PlainAppAppEnd.TheImpl as app_end
use Rattle.asgi_apps.specs.Ends.{GoesOn, IsStill, IsTurn, turn_after}
use Rattle.asgi_lifespan.specs.declared.hosted.Hosted.{Hosted}
use Rattle.asgi_lifespan.specs.Turning.{HasTurned, Turned}

-- a turn of a task that never ends its end
pub polled_turn : (is : Turn) (ended : Option EndKind) (a polled b : PlainApp) → GoesOn app_end.ghosts None a polled → is ≡ turn_after ended (app_end.ghosts.has_moved polled)
    → IsStill app_end.ghosts polled b → (ended ≡ None → app_end.ghosts.has_moved b ≡ false) → IsTurn app_end.ghosts is ended a polled b
polled_turn is ended a polled b goes is_turn still asked = record {
  poll = subst (λ (e : Option EndKind). GoesOn app_end.ghosts e a polled) (sym goes.ended_is) goes;
  is_turn = is_turn;
  still = still;
  asked = asked;
}

-- a turn after which all was carried to the other end
pub carried_turn : (is : Turn) (ended : Option EndKind) (a polled b c : PlainApp) → IsTurn app_end.ghosts is ended a polled b → IsStill app_end.ghosts b c
    → app_end.ghosts.has_moved c ≡ app_end.ghosts.has_moved b → IsTurn app_end.ghosts is ended a polled c
carried_turn is ended a polled b c turn still same = record {
  poll = turn.poll;
  is_turn = turn.is_turn;
  still = (still.0 ∙ turn.still.0, still.1 ∙ turn.still.1, still.2 ∙ turn.still.2);
  asked = λ none. same ∙ turn.asked none;
}

module _ {T : Type 0} where
  -- no turn followed, and one more
  pub turned_same : (turned : List Turn) (a b c : Hosted T) → HasTurned turned a b → HasTurned [] b c → HasTurned turned a c
  turned_same [] a b c x y = (y.0 ∙ x.0, y.1 ∙ x.1, y.2 ∙ x.2)
  turned_same (is ∷ more) a b c x y = (x.0, x.1, turned_same more x.0 b c x.2 y)

  pub turned_then : (turned : List Turn) (t : Turn) (a b c : Hosted T) → HasTurned turned a b → Turned t b c → HasTurned (turned ++ t ∷ []) a c
  turned_then [] t a b c x turn = (c, turned_from turn, (refl, refl, refl))
    where
      turned_from : Turned t b c → Turned t a c
      turned_from turn = record {
        polled = turn.polled;
        did = turn.did ∙ ap (λ (l : List Turn). l ++ t ∷ []) x.1;
        left = turn.left ∙ ap (λ (l : List PlainApp). l ++ turn.polled ∷ []) x.2;
        turn = subst (λ (e : PlainApp). IsTurn app_end.ghosts t c.ended e turn.polled c.app_end) x.0 turn.turn;
      }
  turned_then (is ∷ more) t a b c x turn = (x.0, x.1, turned_then more t x.0 b c x.2 turn)
