-- Turn after turn, the connection's half keeps its invariant, and the application's side goes on.
use Rattle.std.proofs.Common.{◌≡◌, List, Option, Some, None, IsSomeAnd, refl, sym, ap, ◌∙◌, subst}
use Rattle.asgi_types.specs.declared.{end_kind.EndKind.EndKind, incoming.Incoming.Incoming, outgoing.Outgoing.Outgoing, scope.Kind.Kind}
use Rattle.asgi_pipes.specs.{declared.ends.AppEnd.Ghosts, Items.items_of}
use Rattle.asgi_apps.specs.{declared.running.Lent.Lent, Ends.MayGoOn, Ends.IsWithin, Ends.own_end}
use Rattle.asgi_exchange.specs.{Calls.IsExchangeOf, Calls.view_of, Exchange.Exchange, Items.events_of, Items.end_of}
use Rattle.asgi_exchange.proofs.EventLemmas.{events_are, end_is}
use Rattle.asgi_run.specs.{declared.runner.AppSide.AppSide, declared.runner.AppSide.TheVariants.Runs, declared.runner.AppSide.TheVariants.HasEnded, Running.OfEnd, Running.MayRun, Running.Answers}
use Rattle.asgi_run.specs.Running.{IsOfRequest, GoesOnAs}

-- ---- what holds of a borrowed end

on_some : {A : Type 0} (o : Option A) (P : A → Type 0) (R : Option A → Type 0) → ((x : A) → P x → R (Some x)) → IsSomeAnd o P → R o
on_some (Some x) P R f p = f x p
on_some None P R f p = absurd p

-- what holds of a lent thing holds of the one before it
from_next : {A : Type 0} (a b : Option A) (P : A → A → Type 0) (Q R : A → Type 0) → ((x y : A) → P x y → Q y → R x) → IsSomeAnd a (λ x. IsSomeAnd b (P x)) → IsSomeAnd b Q → IsSomeAnd a R
from_next (Some x) (Some y) P Q R f p q = f x y p q
from_next (Some x) None P Q R f p q = absurd q
from_next None b P Q R f p q = absurd p

pub of_end_gives : {T E : Type 0} (side : AppSide T E) (P Q : E → Type 0) (R : Type 0) → OfEnd side P → OfEnd side Q → ((e : E) → P e → Q e → R) → R
of_end_gives (Runs running) P Q R p q f = on_some running.lent (λ l. P l.app_end) (λ o. IsSomeAnd o (λ l. Q l.app_end) → R) (λ l p q. f l.app_end p q) p q
of_end_gives (HasEnded app_end kind) P Q R p q f = f app_end p q

-- ---- the application's side

module _ {T E : Type 0} (stands : T → Kind → List Incoming → List Outgoing → Type 0) (answers : T → List Incoming → List Outgoing → Option EndKind → Type 0) (ends : Ghosts E) where
  -- a running task may be polled, by another one before
  abbrev RunsOn : Lent T E → Lent T E → Type 0
  RunsOn was is = MayGoOn stands ends is.task is.app_end × IsWithin answers is.task was.task × IsOfRequest ends was.app_end is.app_end

  abbrev EndsAs : E → EndKind → Lent T E → Type 0
  EndsAs app_end kind was = (ends.ended app_end ≡ Some kind) × answers was.task (ends.heard app_end) (ends.said app_end) (own_end kind) × IsOfRequest ends was.app_end app_end

  same_request : (a b c : E) → IsOfRequest ends a b → IsOfRequest ends b c → IsOfRequest ends a c
  same_request a b c x y = (y.0 ∙ x.0, y.1 ∙ x.1)

  pub goes_further : (a b c : AppSide T E) → GoesOnAs stands answers ends a b → GoesOnAs stands answers ends b c → GoesOnAs stands answers ends a c
  goes_further (Runs a) (Runs b) (Runs c) x y =
      from_next a.lent b.lent RunsOn (λ mid. IsSomeAnd c.lent (RunsOn mid)) (λ was. IsSomeAnd c.lent (RunsOn was)) (λ was mid m. on_some c.lent (RunsOn mid) (λ o. IsSomeAnd o (RunsOn was))
      (λ is n. (n.0, (λ heard said ended h. m.1 heard said ended (n.1 heard said ended h)), same_request was.app_end mid.app_end is.app_end m.2 n.2))) x y
  goes_further (Runs a) (Runs b) (HasEnded app_end kind) x y =
      from_next a.lent b.lent RunsOn (EndsAs app_end kind) (EndsAs app_end kind)
      (λ was mid m n. (n.0, m.1 (ends.heard app_end) (ends.said app_end) (own_end kind) n.1, same_request was.app_end mid.app_end app_end m.2 n.2)) x y
  goes_further (Runs a) (HasEnded b kind) (HasEnded c last) x y =
      on_some a.lent (EndsAs b kind) (λ o. IsSomeAnd o (EndsAs c last)) (λ was x. let lists : answers was.task (ends.heard c) (ends.said c) (own_end kind) = rw (y.2.1, y.2.2) x.1 in
      (y.0, subst (λ (k : EndKind). answers was.task (ends.heard c) (ends.said c) (own_end k)) (sym y.1) lists, same_request was.app_end b c x.2 y.3)) x
  goes_further (HasEnded a before) (Runs b) c x y = absurd x
  goes_further _ (HasEnded b kind) (Runs c) x y = absurd y
  goes_further (HasEnded a before) (HasEnded b kind) (HasEnded c last) x y = (y.0, y.1 ∙ x.1, (y.2.0 ∙ x.2.0, y.2.1 ∙ x.2.1, y.2.2 ∙ x.2.2), same_request a b c x.3 y.3)

  -- ---- in the end

  -- what holds of the end by its request holds in the end
  pub of_request : {A W : Type 0} (x : Exchange A W) (side : AppSide T E) (app_end : E) (kind : EndKind) → GoesOnAs stands answers ends side (HasEnded app_end kind)
      → OfEnd side (λ app. IsExchangeOf ends app x) → IsExchangeOf ends app_end x
  of_request x (Runs running) app_end kind on is =
      on_some running.lent (EndsAs app_end kind) (λ o. IsSomeAnd o (λ was. IsExchangeOf ends was.app_end x) → IsExchangeOf ends app_end x) (λ was y is. (is.0 ∙ sym y.2.0, is.1 ∙ sym y.2.1)) on is
  of_request x (HasEnded was before) app_end kind on is = (is.0 ∙ sym on.3.0, is.1 ∙ sym on.3.1)

  pub answered : (side : AppSide T E) (app_end : E) (kind : EndKind) → MayRun stands ends side
      → GoesOnAs stands answers ends side (HasEnded app_end kind) → Answers answers ends side (view_of ends app_end) kind
  answered (Runs running) app_end kind may on =
      on_some running.lent (EndsAs app_end kind) (λ o. IsSomeAnd o (λ was. answers was.task (ends.heard app_end) (events_of (items_of (ends.said app_end) (ends.ended app_end))) (own_end kind)))
      (λ was x. subst (λ (said : List Outgoing). answers was.task (ends.heard app_end) said (own_end kind)) (sym (events_are (ends.said app_end) (ends.ended app_end))) x.1) on
  answered (HasEnded was before) app_end kind may on = let ended : ends.ended app_end ≡ ends.ended was = on.0 ∙ ap (λ (k : EndKind). Some k) on.1 ∙ sym may in rw (on.2.0, on.2.1, on.2.2, ended) refl

  pub ended_as : (side : AppSide T E) (app_end : E) (kind : EndKind)
      → GoesOnAs stands answers ends side (HasEnded app_end kind) → end_of (items_of (ends.said app_end) (ends.ended app_end)) ≡ Some kind
  ended_as (Runs running) app_end kind on = end_is (ends.said app_end) (ends.ended app_end) ∙ on_some running.lent (EndsAs app_end kind) (λ o. ends.ended app_end ≡ Some kind) (λ was x. x.0) on
  ended_as (HasEnded was before) app_end kind on = end_is (ends.said app_end) (ends.ended app_end) ∙ on.0
