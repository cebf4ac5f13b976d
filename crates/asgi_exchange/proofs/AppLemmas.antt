-- Each step of the application keeps what its half keeps.
use Rattle.std.proofs.Common.{◌≡◌, Bool, false, List, [], ◌∷◌, ◌++◌, Option, Some, None, refl, sym, ◌∙◌, subst, append-nil}
use Rattle.std.specs.Prelude.{is_none, is_some, if◌then◌else◌}
use Rattle.asgi_types.specs.declared.incoming.Incoming.{Incoming}
use Rattle.asgi_types.specs.declared.outgoing.Outgoing.{Outgoing}
use Rattle.asgi_protocol.specs.declared.verdict.Verdict.{Verdict}
use Rattle.asgi_protocol.specs.declared.verdict.Verdict.TheVariants.{Pass}
use Rattle.asgi_protocol.specs.Lawful.{IsLawful}
use Rattle.asgi_protocol.specs.Verdicts.{lines_on, verdict_on}
use Rattle.asgi_protocol.proofs.PassingLemmas.{is_passed, lawful_from_test}
use Rattle.asgi_protocol.proofs.PassLemmas.{no_line, passes, lawful_more}
use Rattle.asgi_protocol.specs.Passing.{is_pass}
use Rattle.asgi_types.specs.declared.end_kind.EndKind.{EndKind}
use Rattle.asgi_pipes.specs.declared.items.OutItem.TheVariants.{Event, Ended}
use Rattle.asgi_pipes.specs.Disconnects as pipes
use Rattle.asgi_pipes.specs.Disconnects.{first_disconnect, has_disconnect, answer_at_once}
use Rattle.asgi_pipes.proofs.DisconnectLemmas.{hears_again, hears_next, hears_said}
use Rattle.asgi_pipes.proofs.StartLemmas.{hears_nothing}
use Rattle.asgi_exchange.specs.Exchange.{Exchange}
use Rattle.asgi_exchange.specs.Halves.{AppKeeps}
use Rattle.asgi_exchange.specs.Items.{events_of, end_of}
use Rattle.asgi_exchange.specs.Schedules.{AppStep, Hears, Says, Ends, app_after, app_run}
use Rattle.asgi_exchange.specs.Steps.{hear_this, hear, say, finish}
use Rattle.asgi_exchange.specs.Views.{AppView, said_of, empty_app}
use Rattle.asgi_exchange.proofs.ListLemmas.{if_holds}
use Rattle.asgi_exchange.proofs.EventLemmas.{none_is, events_append, ordered_event, ordered_ended}

not_some : (o : Option Incoming) → is_some o ≡ false → o ≡ None
not_some None h = refl
not_some (Some e) h = absurd (cc)

module _ {A W : Type 0} (x : Exchange A W) where
  -- ---- Hear
  hear_next : (app : AppView) (at_once next : Option Incoming) → answer_at_once x.kind (said_of app) app.heard ≡ at_once → AppKeeps x app → AppKeeps x (hear_this app at_once next)
  hear_next app (Some d) next is k =
      record { heard = hears_again x.kind (said_of app) app.pulled app.heard d is k.heard; lawful = k.lawful; ordered = k.ordered }
  hear_next app None None is k = k
  hear_next app None (Some i) is k =
      record { heard = hears_next x.kind (said_of app) app.pulled app.heard i is k.heard; lawful = k.lawful; ordered = k.ordered }

  pub hear_keeps : (app : AppView) (next : Option Incoming) → AppKeeps x app → AppKeeps x (hear x app next)
  hear_keeps app next k = hear_next app (answer_at_once x.kind (said_of app) app.heard) next refl k

  -- ---- Say
  said_keeps : (app : AppView) (e : Outgoing) → end_of app.put ≡ None → verdict_on x.kind x.facts (said_of app) (has_disconnect app.heard) e ≡ Pass
      → AppKeeps x app → AppKeeps x (record app { put = app.put ++ Event e ∷ [] })
  said_keeps app e no_end is k =
      let none = no_line x.kind (lines_on x.kind x.facts (said_of app) (has_disconnect app.heard) e) is in
      let more : events_of (app.put ++ Event e ∷ []) ≡ events_of app.put ++ e ∷ [] = events_append app.put (Event e ∷ []) in
      record {
        heard = hears_said x.kind (said_of app) (events_of (app.put ++ Event e ∷ [])) app.pulled app.heard none.closed (not_some (first_disconnect app.heard) none.disconnected) k.heard;
        lawful = subst (λ (l : List Outgoing). IsLawful x.kind x.facts l) (sym more)
            (lawful_more x.kind x.facts (said_of app) e k.lawful (passes x.kind x.facts (said_of app) (has_disconnect app.heard) e is));
        ordered = ordered_event app.put e no_end k.ordered;
      }

  pub say_keeps : (app : AppView) (e : Outgoing) (has_place : Bool) → AppKeeps x app → AppKeeps x (say x app e has_place)
  say_keeps app e has_place k =
      let verdict : Verdict = verdict_on x.kind x.facts (said_of app) (has_disconnect app.heard) e in
      if_holds (λ a. AppKeeps x a) (is_none (end_of app.put))
      (if has_place then (if is_pass verdict then record app { put = app.put ++ Event e ∷ [] } else app) else app) app
      (λ b. if_holds (λ a. AppKeeps x a) has_place (if is_pass verdict then record app { put = app.put ++ Event e ∷ [] } else app) app
      (λ c. if_holds (λ a. AppKeeps x a) (is_pass verdict) (record app { put = app.put ++ Event e ∷ [] }) app
      (λ d. said_keeps app e (none_is (end_of app.put) b) (is_passed verdict d) k) (λ d. k))
      (λ c. k))
      (λ b. k)

  -- ---- End
  pub finish_keeps : (app : AppView) (kind : EndKind) → AppKeeps x app → AppKeeps x (finish app kind)
  finish_keeps app kind k =
      if_holds (λ a. AppKeeps x a) (is_none (end_of app.put)) (record app { put = app.put ++ Ended kind ∷ [] }) app
      (λ b.
      let same : events_of app.put ≡ events_of (app.put ++ Ended kind ∷ []) = sym (events_append app.put (Ended kind ∷ []) ∙ append-nil (events_of app.put)) in
      record {
        heard = subst (λ (l : List Outgoing). pipes.Hears x.kind l app.pulled app.heard) same k.heard;
        lawful = subst (λ (l : List Outgoing). IsLawful x.kind x.facts l) same k.lawful;
        ordered = ordered_ended app.put kind (none_is (end_of app.put) b) k.ordered;
      })
      (λ b. k)

  pub app_keeps : (app : AppView) (step : AppStep) → AppKeeps x app → AppKeeps x (app_after x app step)
  app_keeps app (Hears next) k = hear_keeps app next k
  app_keeps app (Says e has_place) k = say_keeps app e has_place k
  app_keeps app (Ends kind) k = finish_keeps app kind k

  pub app_run_keeps : (steps : List AppStep) (app : AppView) → AppKeeps x app → AppKeeps x (app_run x steps app)
  app_run_keeps [] app k = k
  app_run_keeps (step ∷ steps) app k = app_run_keeps steps (app_after x app step) (app_keeps app step k)

  pub empty_app_keeps : AppKeeps x empty_app
  empty_app_keeps = record { heard = hears_nothing x.kind; lawful = lawful_from_test x.kind x.facts [] refl; ordered = tt }
