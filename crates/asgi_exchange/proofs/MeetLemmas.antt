-- What the ends of a pair record when they meet, and what the connection kept, make an exchange.
use Rattle.std.proofs.Common.{◌≡◌, ℕ, List, Option, Some, None, sym, subst}
use Rattle.std.specs.Prelude.{IsSome, IfSome}
use Rattle.asgi_types.specs.declared.incoming.Incoming.{Incoming}
use Rattle.asgi_types.specs.declared.outgoing.Outgoing.{Outgoing}
use Rattle.asgi_types.specs.declared.scope.Kind.{Kind}
use Rattle.asgi_protocol.specs.Lawful.{IsLawful}
use Rattle.asgi_types.specs.declared.end_kind.EndKind.{EndKind}
use Rattle.asgi_pipes.specs.declared.items.OutItem.{OutItem}
use Rattle.asgi_pipes.specs.Disconnects.{Hears}
use Rattle.asgi_pipes.specs.Items.{items_of}
use Rattle.asgi_pipes.specs.Queues.{KeepsOrder}
use Rattle.asgi_exchange.specs.Exchange.{Exchange, IsSteady}
use Rattle.asgi_exchange.specs.Halves.{ConnKeeps}
use Rattle.asgi_exchange.specs.Keeps.{IsExchange}
use Rattle.asgi_exchange.specs.Views.{ConnView}
use Rattle.asgi_exchange.proofs.ScheduleLemmas.{met_makes}

module _ {A W M : Type 0} (x : Exchange A W) (s : IsSteady x) (left_in left_out : M → ℕ) where
  pub ends_make : (r : Option M) (kind : Kind) (view : ConnView A W) (said : List Outgoing) (ended : Option EndKind) (offered pulled heard : List Incoming) (got : List OutItem) (places_in places_out : ℕ)
      → IsSome r → IfSome r (λ m. KeepsOrder places_in offered pulled (left_in m)) → IfSome r (λ m. KeepsOrder places_out (items_of said ended) got (left_out m))
      → Hears kind said pulled heard → IsLawful kind x.facts said → kind ≡ x.kind
      → ConnKeeps x view → view.offered ≡ offered → view.got ≡ got
      → IsExchange x (record { conn = view; app = record { pulled = pulled; heard = heard; put = items_of said ended } })
  ends_make None kind view said ended offered pulled heard got places_in places_out some_ inward outward h lawful is kept o g = cc
  ends_make (Some m) kind view said ended offered pulled heard got places_in places_out some_ inward outward h lawful is kept o g =
      met_makes x s view said ended pulled heard places_in places_out (left_in m) (left_out m) kept
      (subst (λ (l : List Incoming). KeepsOrder places_in l pulled (left_in m)) (sym o) inward)
      (subst (λ (l : List OutItem). KeepsOrder places_out (items_of said ended) l (left_out m)) (sym g) outward)
      (subst (λ (k : Kind). Hears k said pulled heard) is h) (subst (λ (k : Kind). IsLawful k x.facts said) is lawful)
