-- What both halves keep, and the queues between them, make an exchange; so every schedule does.
use Rattle.std.proofs.Common.{◌≡◌, ℕ, ◌-◌, Bool, List, [], ◌∷◌, length, Option, refl, ap, sym, ◌∙◌, subst, append-nil}
use Rattle.std.specs.Prelude.{nat_lt}
use mathlib.Core.List.{IsPrefix}
use Rattle.asgi_types.specs.declared.incoming.Incoming.{Incoming}
use Rattle.asgi_types.specs.declared.outgoing.Outgoing.{Outgoing}
use Rattle.asgi_protocol.specs.Lawful.{IsLawful, IsClosed}
use Rattle.asgi_protocol.proofs.LawLemmas.{closed_is_last}
use Rattle.asgi_types.specs.declared.end_kind.EndKind.{EndKind}
use Rattle.asgi_pipes.specs.Disconnects.{Hears}
use Rattle.asgi_pipes.specs.Items.{items_of}
use Rattle.asgi_pipes.specs.Queues.{KeepsOrder}
use Rattle.asgi_exchange.specs.Exchange.{Exchange, IsSteady}
use Rattle.asgi_exchange.specs.Halves.{ConnKeeps, AppKeeps, AreJoined}
use Rattle.asgi_exchange.specs.Items.{events_of, end_of}
use Rattle.asgi_exchange.specs.Keeps.{IsExchange}
use Rattle.asgi_exchange.specs.Schedules.{Step, Arrive, Offer, BreakOff, Take, Write, Hear, Say, End, after, run, ConnStep, conn_run, AppStep, app_run, ConnGoesOn}
use Rattle.asgi_exchange.specs.Steps.{next_of}
use Rattle.asgi_exchange.specs.Views.{ConnView, World, empty_conn, empty_app, AppView, empty_world, taken_of, said_of}
use Rattle.asgi_exchange.proofs.AppLemmas.{hear_keeps, say_keeps, finish_keeps, app_run_keeps, empty_app_keeps}
use Rattle.asgi_exchange.proofs.ConnLemmas.{arrive_keeps, offer_keeps, break_keeps, take_keeps, write_keeps, conn_run_keeps, empty_conn_keeps}
use Rattle.asgi_exchange.proofs.EventLemmas.{events_prefix, all_taken, events_are, items_in_order}
use Rattle.asgi_exchange.proofs.HeardLemmas.{heard_is_due}
use Rattle.asgi_exchange.proofs.QueueLemmas.{arrive_joined, offer_joined, break_joined, take_joined, write_joined, hear_joined, say_joined, finish_joined}

front_of : {B : Type 0} (places : ℕ) (put got : List B) (count : ℕ) → KeepsOrder places put got count → IsPrefix got put
front_of places put got count k = (k.0, sym k.1)

module _ {A W : Type 0} (x : Exchange A W) (s : IsSteady x) where
  -- once a closing event was taken, all that was sent was taken
  closed_taken : (events said : List Outgoing) → IsPrefix events said → IsLawful x.kind x.facts said → IsClosed x.kind events → events ≡ said
  closed_taken events said ([], e) lawful closed = sym (append-nil events) ∙ e
  closed_taken events said (i ∷ more, e) lawful closed =
      absurd (closed_is_last x.kind x.facts events more i closed (subst (λ (l : List Outgoing). IsLawful x.kind x.facts l) (sym e) lawful))

  -- what the halves keep, and the queues between them
  pub both_make : (w : World A W) → ConnKeeps x w.conn → AppKeeps x w.app → AreJoined w.conn w.app → IsExchange x w
  both_make w c a j = record {
    heard = heard_is_due x s w w.app.pulled a.heard c.offered j.inward;
    lawful = a.lawful;
    taken = events_prefix w.conn.got w.app.put j.outward;
    closed = closed_taken (taken_of w.conn) (said_of w.app) (events_prefix w.conn.got w.app.put j.outward) a.lawful;
    ended = λ h. ap events_of (all_taken w.conn.got w.app.put a.ordered j.outward h);
    end_is = λ h. ap end_of (all_taken w.conn.got w.app.put a.ordered j.outward h);
    written = c.written;
  }

  -- any run of each half alone, with queues between them that keep their order
  pub both_runs_make : (conn_steps : List (ConnStep A)) (app_steps : List AppStep) (places_in places_out left_in left_out : ℕ)
      → KeepsOrder places_in (conn_run x conn_steps empty_conn).offered (app_run x app_steps empty_app).pulled left_in
      → KeepsOrder places_out (app_run x app_steps empty_app).put (conn_run x conn_steps empty_conn).got left_out
      → IsExchange x (record { conn = conn_run x conn_steps empty_conn; app = app_run x app_steps empty_app })
  both_runs_make conn_steps app_steps places_in places_out left_in left_out inward outward =
      let conn : ConnView A W = conn_run x conn_steps empty_conn in
      let app : AppView = app_run x app_steps empty_app in
      both_make (record { conn = conn; app = app }) (conn_run_keeps x s conn_steps empty_conn (empty_conn_keeps x s))
      (app_run_keeps x app_steps empty_app (empty_app_keeps x))
      (record { inward = front_of places_in conn.offered app.pulled left_in inward; outward = front_of places_out app.put conn.got left_out outward })

  -- what the ends of a pair record when they meet is all that is needed of the application's half
  pub met_makes : (conn : ConnView A W) (said : List Outgoing) (ended : Option EndKind) (pulled heard : List Incoming) (places_in places_out left_in left_out : ℕ)
      → ConnKeeps x conn → KeepsOrder places_in conn.offered pulled left_in → KeepsOrder places_out (items_of said ended) conn.got left_out
      → Hears x.kind said pulled heard → IsLawful x.kind x.facts said
      → IsExchange x (record { conn = conn; app = record { pulled = pulled; heard = heard; put = items_of said ended } })
  met_makes conn said ended pulled heard places_in places_out left_in left_out kept inward outward h lawful =
      let app : AppView = record { pulled = pulled; heard = heard; put = items_of said ended } in
      let same : said ≡ events_of (items_of said ended) = sym (events_are said ended) in
      both_make (record { conn = conn; app = app }) kept
      (record {
        heard = subst (λ (l : List Outgoing). Hears x.kind l pulled heard) same h;
        lawful = subst (λ (l : List Outgoing). IsLawful x.kind x.facts l) same lawful;
        ordered = items_in_order said ended;
      })
      (record { inward = front_of places_in conn.offered pulled left_in inward; outward = front_of places_out app.put conn.got left_out outward })

  pub goes_on_keeps : (old new : ConnView A W) → ConnKeeps x old → ConnGoesOn x old new → ConnKeeps x new
  goes_on_keeps old new k goes = subst (ConnKeeps x) (sym goes.1) (conn_run_keeps x s goes.0 old k)

  pub run_keeps : (steps : List (ConnStep A)) → ConnKeeps x (conn_run x steps empty_conn)
  run_keeps steps = conn_run_keeps x s steps empty_conn (empty_conn_keeps x s)

  pub run_makes : (steps : List (Step A)) (w : World A W) → ConnKeeps x w.conn → AppKeeps x w.app → AreJoined w.conn w.app → IsExchange x (run x steps w)
  run_makes [] w c a j = both_make w c a j
  run_makes (Arrive piece ∷ steps) w c a j = run_makes steps (after x w (Arrive piece)) (arrive_keeps x s w.conn piece c) a (arrive_joined x w.conn w.app piece j)
  run_makes (Offer ∷ steps) w c a j =
      let place : Bool = nat_lt (length w.conn.offered - length w.app.pulled) x.ring in
      run_makes steps (after x w Offer) (offer_keeps x s w.conn place c) a (offer_joined x w.conn w.app place j)
  run_makes (BreakOff cause ∷ steps) w c a j = run_makes steps (after x w (BreakOff cause)) (break_keeps x s w.conn cause c) a (break_joined x w.conn w.app cause j)
  run_makes (Take ∷ steps) w c a j =
      run_makes steps (after x w Take) (take_keeps x s w.conn (next_of w.app.put w.conn.got) c) a (take_joined x w.conn w.app (next_of w.app.put w.conn.got) refl j)
  run_makes (Write n ∷ steps) w c a j = run_makes steps (after x w (Write n)) (write_keeps x s w.conn n c) a (write_joined x w.conn w.app n j)
  run_makes (Hear ∷ steps) w c a j =
      run_makes steps (after x w Hear) c (hear_keeps x w.app (next_of w.conn.offered w.app.pulled) a) (hear_joined x w.conn w.app (next_of w.conn.offered w.app.pulled) refl j)
  run_makes (Say e ∷ steps) w c a j =
      let place : Bool = nat_lt (length w.app.put - length w.conn.got) x.ring in
      run_makes steps (after x w (Say e)) c (say_keeps x w.app e place a) (say_joined x w.conn w.app e place j)
  run_makes (End kind ∷ steps) w c a j = run_makes steps (after x w (End kind)) c (finish_keeps x w.app kind a) (finish_joined x w.conn w.app kind j)

  pub every_run : (steps : List (Step A)) → IsExchange x (run x steps empty_world)
  every_run steps = run_makes steps empty_world (empty_conn_keeps x s) (empty_app_keeps x) (record { inward = ([], refl); outward = ([], refl) })
