-- What the turns of a task that is driven did to its end.
use Rattle.std.proofs.Common.{◌≡◌, ℕ, List, [], ◌∷◌, ◌++◌, Option, Some, None, IsSomeAnd, refl, sym, subst}
use Rattle.asgi_io.specs.declared.turns.Turn.{Turn}
use Rattle.asgi_io.specs.Turns.{CountsTurns, idle_in_a_row}
use Rattle.asgi_types.specs.declared.scope.Kind.{Kind}
use Rattle.asgi_types.specs.declared.incoming.Incoming.{Incoming}
use Rattle.asgi_types.specs.declared.outgoing.Outgoing.{Outgoing}
use Rattle.asgi_types.specs.declared.end_kind.EndKind.{EndKind}
use Rattle.asgi_pipes.specs.declared.ends.AppEnd.{Ghosts}
use Rattle.asgi_apps.specs.declared.running.Driven.{Driven}
use Rattle.asgi_apps.specs.declared.running.Lent.{Lent}
use Rattle.asgi_apps.specs.Ends.{GoesOn, IsStill, IsTurn, IsWithin, MayGoOn, TakeTurns}
use Rattle.asgi_apps.specs.private.Driven.{RunsOn, Turned}
use Rattle.asgi_apps.proofs.EndLemmas.{Polled, goes_further}

-- the count of the idle turns in a row is that of the list
pub counts_row : (turn_limit idle_limit : ℕ) (turned : List Turn) (before after turns idle : ℕ) → CountsTurns turn_limit idle_limit turned before after turns idle
    → CountsTurns turn_limit idle_limit turned before after turns (idle_in_a_row turned)
counts_row turn_limit idle_limit turned before after turns idle counts =
    subst (λ (n : ℕ). CountsTurns turn_limit idle_limit turned before after turns n) counts.idle_is counts

module _ {E : Type 0} (ends : Ghosts E) where
  pub takes_one : (turned : List Turn) (left : List E) (t : Turn) (a b polled c : E) → TakeTurns ends turned left a b → IsTurn ends t (ends.ended c) b polled c
      → TakeTurns ends (turned ++ t ∷ []) (left ++ polled ∷ []) a c
  takes_one [] [] t a b polled c x y = (c, subst (λ (e : E). IsTurn ends t (ends.ended c) e polled c) x y, refl)
  takes_one (is ∷ more) (e ∷ left) t a b polled c x y = (x.0, x.1, takes_one more left t x.0 b polled c x.2 y)
  takes_one [] (e ∷ left) t a b polled c x y = absurd x
  takes_one (is ∷ more) [] t a b polled c x y = absurd x

  module _ {T : Type 0} where
    -- what its turns so far did to the end that was given
    abbrev pub HasTaken : Option (Lent T E) → Driven T E → Type 0
    HasTaken lent driven = IsSomeAnd lent (λ was. TakeTurns ends driven.did.items driven.left.items was.app_end driven.lent.app_end)

    pub starts : (lent : Option (Lent T E)) (now : Driven T E) → lent ≡ Some now.lent → (now.did.items ≡ []) × (now.left.items ≡ []) → HasTaken lent now
    starts lent now is none = rw (is, none.0, none.1) refl

    pub goes_on : (lent : Option (Lent T E)) (t : Turn) (b c : Driven T E) → Turned ends t b c → HasTaken lent b → HasTaken lent c
    goes_on (Some was) t b c turn x =
        rw (turn.did, turn.left) (takes_one b.did.items b.left.items t was.app_end b.lent.app_end turn.polled c.lent.app_end x turn.turn)
    goes_on None t b c turn x = absurd x

    pub took : (lent : Option (Lent T E)) (driven : Driven T E) (end : E) → IsStill ends driven.lent.app_end end → HasTaken lent driven
        → IsSomeAnd lent (λ was. (last : E) × TakeTurns ends driven.did.items driven.left.items was.app_end last × IsStill ends last end)
    took (Some was) driven end still x = (driven.lent.app_end, x, still)
    took None driven end still x = absurd x

    module _ (stands : T → Kind → List Incoming → List Outgoing → Type 0) (answers : T → List Incoming → List Outgoing → Option EndKind → Type 0) where
      pub polled_on : (a b : Lent T E) → RunsOn stands answers ends a b → Polled ends stands answers (Some a) (Some b)
      polled_on a b on = record { may = on.may; follows = on.follows; within = on.within }

      -- a poll, and then the end was asked
      pub runs_on : (a b c d : Lent T E) → GoesOn ends None a.app_end b.app_end → IsWithin answers b.task a.task → (c.task ≡ b.task) × GoesOn ends None b.app_end c.app_end
          → MayGoOn stands ends c.task c.app_end → d ≡ c → RunsOn stands answers ends a d
      runs_on a b c d goes within same may is = subst (λ (l : Lent T E). RunsOn stands answers ends a l) (sym is) (record {
        may = may;
        follows = goes_further ends None None a.app_end b.app_end c.app_end goes same.1;
        within = λ heard said ended h. within heard said ended (subst (λ (t : T). answers t heard said ended) same.0 h);
      })
