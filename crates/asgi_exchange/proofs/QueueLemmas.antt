-- Each step keeps both queues in order.
use Rattle.std.proofs.Common.{◌≡◌, ℕ, Bool, List, [], ◌∷◌, ◌++◌, length, take, drop, Option, Some, None}
use Rattle.std.specs.Prelude.{is_none, if◌then◌else◌, nat_lt}
use mathlib.Core.List.{IsPrefix}
use Rattle.asgi_types.specs.declared.incoming.Incoming.{Incoming}
use Rattle.asgi_types.specs.declared.outgoing.Outgoing.{Outgoing}
use Rattle.asgi_protocol.specs.Verdicts.{verdict_on}
use Rattle.asgi_protocol.specs.Passing.{is_pass}
use Rattle.asgi_types.specs.declared.end_kind.EndKind.{EndKind}
use Rattle.asgi_pipes.specs.declared.items.OutItem.{OutItem}
use Rattle.asgi_pipes.specs.declared.items.OutItem.TheVariants.{Event, Ended}
use Rattle.asgi_pipes.specs.Disconnects.{has_disconnect, answer_at_once}
use Rattle.asgi_exchange.specs.Exchange.{Exchange, cut_disconnect}
use Rattle.asgi_exchange.specs.Halves.{AreJoined}
use Rattle.asgi_exchange.specs.Items.{end_of}
use Rattle.asgi_exchange.specs.Steps.{next_of, is_by_input, is_by_cut, arrive, offer_this, offer, break_this, break_off, take_this, take_next, write, hear_this, hear, say, finish}
use Rattle.asgi_exchange.specs.Views.{Break, ByInput, ByCut, ConnView, AppView, said_of, output}
use Rattle.asgi_exchange.proofs.ListLemmas.{if_holds, prefix_front, prefix_next}
use Rattle.asgi_pipes.proofs.PrefixLemmas.{prefix_trans}

module _ {A W : Type 0} (x : Exchange A W) (conn : ConnView A W) (app : AppView) where
  more_in : (d : Incoming) → AreJoined conn app → IsPrefix app.pulled (conn.offered ++ d ∷ [])
  more_in d j = prefix_trans app.pulled conn.offered (conn.offered ++ d ∷ []) j.inward (prefix_front conn.offered (d ∷ []))

  more_out : (i : OutItem) → AreJoined conn app → IsPrefix conn.got (app.put ++ i ∷ [])
  more_out i j = prefix_trans conn.got app.put (app.put ++ i ∷ []) j.outward (prefix_front app.put (i ∷ []))

  pub arrive_joined : (piece : List A) → AreJoined conn app → AreJoined (arrive x conn piece) app
  arrive_joined piece j =
      if_holds (λ c. AreJoined c app) (is_by_input conn.broken)
      (if x.is_over conn.arrived then record conn { arrived = conn.arrived ++ piece } else conn) (record conn { arrived = conn.arrived ++ piece })
      (λ b. if_holds (λ c. AreJoined c app) (x.is_over conn.arrived) (record conn { arrived = conn.arrived ++ piece }) conn
      (λ h. record { inward = j.inward; outward = j.outward }) (λ h. j))
      (λ b. record { inward = j.inward; outward = j.outward })

  offered_joined : (next : Option Incoming) → AreJoined conn app → AreJoined (offer_this conn next) app
  offered_joined None j = j
  offered_joined (Some i) j = record { inward = more_in i j; outward = j.outward }

  pub offer_joined : (has_place : Bool) → AreJoined conn app → AreJoined (offer x conn has_place) app
  offer_joined has_place j =
      if_holds (λ c. AreJoined c app) (is_none conn.broken)
      (if has_place then offer_this conn (next_of (x.due conn.arrived) conn.offered) else conn) conn
      (λ b. if_holds (λ c. AreJoined c app) has_place (offer_this conn (next_of (x.due conn.arrived) conn.offered)) conn
      (λ h. offered_joined (next_of (x.due conn.arrived) conn.offered) j) (λ h. j))
      (λ b. j)

  broken_joined : (cause : Break) → AreJoined conn app → AreJoined (break_this x conn cause) app
  broken_joined ByInput j =
      if_holds (λ c. AreJoined c app) (nat_lt (length conn.offered) (length (x.due conn.arrived)))
      conn (if is_none (end_of conn.got) then record conn { offered = conn.offered ++ x.input_disconnect conn.arrived ∷ []; broken = Some ByInput } else conn)
      (λ h. j)
      (λ h. if_holds (λ c. AreJoined c app) (is_none (end_of conn.got)) (record conn { offered = conn.offered ++ x.input_disconnect conn.arrived ∷ []; broken = Some ByInput }) conn
      (λ g. record { inward = more_in (x.input_disconnect conn.arrived) j; outward = j.outward }) (λ g. j))
  broken_joined ByCut j = record { inward = more_in (cut_disconnect x.kind) j; outward = j.outward }

  pub break_joined : (cause : Break) → AreJoined conn app → AreJoined (break_off x conn cause) app
  break_joined cause j = if_holds (λ c. AreJoined c app) (is_none conn.broken) (break_this x conn cause) conn (λ b. broken_joined cause j) (λ b. j)

  taken_joined : (next : Option OutItem) → next_of app.put conn.got ≡ next → AreJoined conn app → AreJoined (take_this conn next) app
  taken_joined None e j = j
  taken_joined (Some (Event i)) e j = record { inward = j.inward; outward = prefix_next conn.got app.put (Event i) j.outward e }
  taken_joined (Some (Ended kind)) e j = record { inward = j.inward; outward = prefix_next conn.got app.put (Ended kind) j.outward e }

  pub take_joined : (next : Option OutItem) → next_of app.put conn.got ≡ next → AreJoined conn app → AreJoined (take_next conn next) app
  take_joined next e j = if_holds (λ c. AreJoined c app) (is_none (end_of conn.got)) (take_this conn next) conn (λ b. taken_joined next e j) (λ b. j)

  pub write_joined : (n : ℕ) → AreJoined conn app → AreJoined (write x conn n) app
  write_joined n j =
      if_holds (λ c. AreJoined c app) (is_by_cut conn.broken) conn (record conn { written = conn.written ++ take n (drop (length conn.written) (output x conn)) })
      (λ b. j) (λ b. record { inward = j.inward; outward = j.outward })

  hears_joined : (again next : Option Incoming) → next_of conn.offered app.pulled ≡ next → AreJoined conn app → AreJoined conn (hear_this app again next)
  hears_joined (Some d) next e j = record { inward = j.inward; outward = j.outward }
  hears_joined None None e j = j
  hears_joined None (Some i) e j = record { inward = prefix_next app.pulled conn.offered i j.inward e; outward = j.outward }

  pub hear_joined : (next : Option Incoming) → next_of conn.offered app.pulled ≡ next → AreJoined conn app → AreJoined conn (hear x app next)
  hear_joined next e j = hears_joined (answer_at_once x.kind (said_of app) app.heard) next e j

  pub say_joined : (e : Outgoing) (has_place : Bool) → AreJoined conn app → AreJoined conn (say x app e has_place)
  say_joined e has_place j =
      let passes : Bool = is_pass (verdict_on x.kind x.facts (said_of app) (has_disconnect app.heard) e) in
      if_holds (λ a. AreJoined conn a) (is_none (end_of app.put))
      (if has_place then (if passes then record app { put = app.put ++ Event e ∷ [] } else app) else app) app
      (λ b. if_holds (λ a. AreJoined conn a) has_place (if passes then record app { put = app.put ++ Event e ∷ [] } else app) app
      (λ c. if_holds (λ a. AreJoined conn a) passes (record app { put = app.put ++ Event e ∷ [] }) app
      (λ d. record { inward = j.inward; outward = more_out (Event e) j }) (λ d. j))
      (λ c. j))
      (λ b. j)

  pub finish_joined : (kind : EndKind) → AreJoined conn app → AreJoined conn (finish app kind)
  finish_joined kind j =
      if_holds (λ a. AreJoined conn a) (is_none (end_of app.put)) (record app { put = app.put ++ Ended kind ∷ [] }) app
      (λ b. record { inward = j.inward; outward = more_out (Ended kind) j }) (λ b. j)
