-- How a stop is answered, by what the task sent after "Startup Complete".
use Rattle.std.proofs.Common.{◌≡◌, ℕ, List, [], ◌∷◌, ◌++◌, Option, None, sym, ap, ◌∙◌, subst}
use mathlib.Core.List.{IsPrefix}
use Rattle.asgi_types.specs.declared.end_kind.EndKind.{EndKind}
use Rattle.asgi_types.specs.declared.incoming.Incoming.{Incoming}
use Rattle.asgi_types.specs.declared.incoming.Incoming.TheVariants.{LifespanShutdown}
use Rattle.asgi_types.specs.declared.limits.Limits.{Limits}
use Rattle.asgi_types.specs.declared.outgoing.Outgoing.{Outgoing}
use Rattle.asgi_types.specs.declared.outgoing.Outgoing.TheVariants.{StartupComplete}
use Rattle.asgi_types.specs.declared.scope.Kind.{Kind}
use Rattle.asgi_pipes.specs.declared.items.OutItem.{OutItem}
use Rattle.asgi_pipes.specs.declared.items.OutItem.TheVariants.{Event}
use Rattle.asgi_pipes.specs.Items.{items_of}
use Rattle.asgi_pipes.specs.contracts.plain_conn.PlainConnConnEnd.TheImpl as conn_end
use Rattle.asgi_apps.specs.declared.task.AppTask.{Ghosts}
use Rattle.asgi_pipes.proofs.PrefixLemmas.{prefix_same, prefix_trans}
use Rattle.asgi_lifespan.specs.declared.hosted.Hosted.{Hosted}
use Rattle.asgi_lifespan.specs.declared.lifespan.Lifespan.{Lifespan}
use Rattle.asgi_lifespan.specs.declared.stop.Stop.{Stop}
use Rattle.asgi_lifespan.specs.Facts.{no_request}
use Rattle.asgi_lifespan.specs.Hosting.{Follows, IsHosted, IsLeft, IsStarted, Promises, got_of, heard_by, offered_to, said_by}
use Rattle.asgi_lifespan.specs.Lifespan.{IsStartAnswer, IsStopAnswer, stop_answer}
use Rattle.asgi_lifespan.specs.Starting.{StandsFor, PromiseOf}
use Rattle.asgi_lifespan.specs.Stopping.{Stops, answer_in, turns_in}
use Rattle.asgi_lifespan.specs.Turning.{TakesTurns}
use Rattle.asgi_lifespan.proofs.HostLemmas.{hears, keeps_promise, lawful, left_within}
use Rattle.asgi_lifespan.proofs.WordLemmas.{first_said, said_none, start_event, stop_event}

-- all that was sent begins with what was taken
outward : {T : Type 0} (stands : _) (hosted : Hosted T) → IsHosted stands hosted → items_of (said_by hosted) None ≡ got_of hosted ++ conn_end.ghosts.seen hosted.conn
outward stands hosted is = subst (λ (e : Option EndKind). items_of (said_by hosted) e ≡ got_of hosted ++ conn_end.ghosts.seen hosted.conn) is.0.open_app is.1.outward

pub said_one : {T : Type 0} (stands : _) (hosted : Hosted T) (event : Outgoing) → IsHosted stands hosted → got_of hosted ≡ Event event ∷ [] → (more : List Outgoing) × (said_by hosted ≡ event ∷ more)
said_one stands hosted event is got =
    let first = first_said (said_by hosted) event (conn_end.ghosts.seen hosted.conn) (outward stands hosted is ∙ ap (λ (l : List OutItem). l ++ conn_end.ghosts.seen hosted.conn) got) in
    (first.0, first.1)

pub said_two : {T : Type 0} (stands : _) (hosted : Hosted T) (a b : Outgoing) → IsHosted stands hosted → got_of hosted ≡ Event a ∷ Event b ∷ [] → (more : List Outgoing) × (said_by hosted ≡ a ∷ b ∷ more)
said_two stands hosted a b is got =
    let first = first_said (said_by hosted) a (Event b ∷ conn_end.ghosts.seen hosted.conn) (outward stands hosted is ∙ ap (λ (l : List OutItem). l ++ conn_end.ghosts.seen hosted.conn) got) in
    let second = first_said first.0 b (conn_end.ghosts.seen hosted.conn) first.2 in
    (second.0, first.1 ∙ ap (λ (l : List Outgoing). a ∷ l) second.1)

-- what was taken is all that was sent
pub said_just : (said : List Outgoing) (event : Outgoing) → items_of said None ≡ Event event ∷ [] → said ≡ event ∷ []
said_just said event is = let first = first_said said event [] is in first.1 ∙ ap (λ (l : List Outgoing). event ∷ l) (said_none first.0 first.2)

module _ {T : Type 0} (stands : T → Kind → List Incoming → List Outgoing → Type 0) (answers : T → List Incoming → List Outgoing → Option EndKind → Type 0) where
  -- the first event answers "Startup"
  pub answers_startup : (hosted : Hosted T) (event : Outgoing) → IsHosted stands hosted → got_of hosted ≡ Event event ∷ [] → IsStartAnswer event
  answers_startup hosted event is got =
      let said = said_one stands hosted event is got in
      start_event no_request (said_by hosted) event said.0 (lawful stands answers hosted is.0) said.1

  -- the second event answers "Shutdown"
  pub answers_shutdown : (hosted : Hosted T) (state : _) (event : Outgoing) → IsHosted stands hosted → got_of hosted ≡ Event (StartupComplete state) ∷ Event event ∷ [] → IsStopAnswer event
  answers_shutdown hosted state event is got =
      let said = said_two stands hosted (StartupComplete state) event is got in
      stop_event no_request (said_by hosted) state event said.0 (lawful stands answers hosted is.0) said.1

module _ {T : Type 0} {g : Ghosts T} where
  pub stops : (keeps : (task : T) (kind : Kind) (heard : List Incoming) (said : List Outgoing) → g.stands task kind heard said → g.answers task heard said None)
      → (life : Lifespan T g) (first offered last : Hosted T) (before after : ℕ) (result : Stop)
      → IsStarted g.stands first → first ≡ life.hosted
      → IsLeft first offered → offered_to offered ≡ offered_to first ++ LifespanShutdown ∷ []
      → Follows g.stands g.answers offered last
      → answer_in result ≡ stop_answer (said_by last) last.ended
      → TakesTurns life.turns life.idle_turns before after (turns_in result)
      → (limits : Limits) (heard : List Incoming) (said : List Outgoing) (ended : Option EndKind) → StandsFor limits life heard said ended
      → Stops (PromiseOf life) limits heard said before after result
  stops keeps life first offered last before after result is same left puts follows answered turns limits heard said ended stands = record {
    heard = heard_by last;
    said = said_by last;
    ended = last.ended;
    heard_on = prefix_trans heard (heard_by offered) (heard_by last) (prefix_same heard (heard_by offered) (sym (left.heard ∙ ap heard_by same ∙ sym stands.heard_is))) follows.heard;
    said_on = prefix_trans said (said_by offered) (said_by last) (prefix_same said (said_by offered) (sym (left.said ∙ ap said_by same ∙ sym stands.said_is))) follows.said;
    hears = subst (λ (l : List Incoming). IsPrefix (heard_by last) l) (follows.offered ∙ puts ∙ ap (λ (l : List Incoming). l ++ LifespanShutdown ∷ []) is.offered)
        (hears g.stands g.answers last follows.hosted);
    lawful = lawful g.stands g.answers last follows.hosted.0;
    promised = subst (λ (h : Hosted T). Promises g.answers h (heard_by last) (said_by last) last.ended) same
        (left_within g.stands g.answers first offered left _ _ _ (follows.within _ _ _ (keeps_promise g.stands g.answers keeps last follows.hosted.0)));
    answered = answered;
    turns = subst (λ (n : ℕ). TakesTurns n limits.idle_turns before after (turns_in result)) stands.turn_limit
        (subst (λ (n : ℕ). TakesTurns life.turns n before after (turns_in result)) stands.idle_limit turns);
  }
