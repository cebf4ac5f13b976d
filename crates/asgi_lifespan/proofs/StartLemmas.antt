-- How a start is answered, by what the task sent.
use Rattle.std.proofs.Common.{◌≡◌, ℕ, List, [], ◌∷◌, ◌++◌, Option, Some, None, refl, sym, ap, ◌∙◌, subst, arith}
use mathlib.Core.List.{IsPrefix}
use Rattle.asgi_types.specs.declared.end_kind.EndKind.{EndKind}
use Rattle.asgi_types.specs.declared.end_kind.EndKind.TheVariants.{Faulted}
use Rattle.asgi_types.specs.declared.facts.Facts.{Facts}
use Rattle.asgi_types.specs.declared.incoming.Incoming.{Incoming}
use Rattle.asgi_types.specs.declared.incoming.Incoming.TheVariants.{LifespanStartup}
use Rattle.asgi_types.specs.declared.limits.Limits.{Limits}
use Rattle.asgi_types.specs.declared.outgoing.Outgoing.{Outgoing}
use Rattle.asgi_types.specs.declared.scope.Kind.{Kind}
use Rattle.asgi_types.specs.declared.scope.Kind.TheVariants as kind
use Rattle.asgi_protocol.specs.Lawful.{IsLawful}
use Rattle.asgi_protocol.proofs.WordLemmas.{word_from_beginning}
use Rattle.asgi_apps.specs.declared.task.AppTask.{Ghosts}
use Rattle.asgi_lifespan.specs.declared.hosted.Hosted.{Hosted}
use Rattle.asgi_lifespan.specs.declared.lifespan.Lifespan.{Lifespan}
use Rattle.asgi_lifespan.specs.declared.lifespan.Start.{Start}
use Rattle.asgi_lifespan.specs.declared.lifespan.Start.TheVariants as start
use Rattle.asgi_lifespan.specs.Facts.{lifespan_scope, no_request}
use Rattle.asgi_lifespan.specs.Hosting.{Follows, IsHosted, IsLeft, Promises, heard_by, offered_to, said_by}
use Rattle.asgi_lifespan.specs.Lifespan.{StartAnswer, start_answer}
use Rattle.asgi_lifespan.specs.Starting.{Starts, IfStarted, IsAnswer, scopes_of, turns_in}
use Rattle.asgi_lifespan.specs.Turning.{TakesTurns}
use Rattle.asgi_lifespan.proofs.HostLemmas.{hears, keeps_promise, lawful, left_within}

nothing_lies : (before after : List Outgoing) (event : Outgoing) → [] ≡ before ++ event ∷ after → ⊥
nothing_lies [] after event is = cc
nothing_lies (x ∷ before) after event is = cc

pub silence_is_lawful : (facts : Facts) → IsLawful kind.Lifespan facts []
silence_is_lawful facts = record {
  begins = word_from_beginning kind.Lifespan [] refl;
  each = λ before after event is. absurd (nothing_lies before after event is);
}

pub no_turns : (turn_limit idle_limit pauses : ℕ) → TakesTurns turn_limit idle_limit pauses pauses None
no_turns turn_limit idle_limit pauses = record {
  turned = [];
  turns = 0;
  idle = 0;
  counts = record {
    turns_is = refl;
    idle_is = refl;
    pauses = omega arith;
    in_turns = omega arith;
    in_idle = omega arith;
    stops = λ k less. absurd (omega (arith, less));
  };
  at_limit = λ told is. absurd (cc);
}

module _ {T : Type 0} {g : Ghosts T} where
  pub started_then : (result : Start T g) (P Q : Lifespan T g → Type 0) → IfStarted result P → ((life : Lifespan T g) → P life → Q life) → IfStarted result Q
  started_then (start.Started life state) P Q p f = f life p
  started_then (start.Failed message) P Q p f = tt
  started_then start.Unsupported P Q p f = tt
  started_then (start.Idle turns) P Q p f = tt
  started_then start.NoMemory P Q p f = tt

  -- whatever is answered, the application was called with the one scope
  pub called_once : (result : Start T g) (answer : Option StartAnswer) → IsAnswer result answer → scopes_of result ≡ lifespan_scope ∷ []
  called_once (start.Started life state) answer is = refl
  called_once (start.Failed message) answer is = refl
  called_once start.Unsupported answer is = refl
  called_once (start.Idle turns) answer is = refl
  called_once start.NoMemory answer is = absurd is

  -- a call that faulted
  pub refused : (promise : List Incoming → List Outgoing → Option EndKind → Type 0) (limits : Limits) (pauses : ℕ) → promise [] [] (Some Faulted)
      → Starts {T = T} {g = g} promise limits pauses pauses start.Unsupported
  refused promise limits pauses kept = record {
    heard = [];
    said = [];
    ended = Some Faulted;
    hears = (LifespanStartup ∷ [], refl);
    lawful = silence_is_lawful no_request;
    promised = kept;
    answered = refl;
    turns = no_turns limits.turns limits.idle_turns pauses;
    stands = tt;
  }

  -- a task that was called
  pub starts : (keeps : (task : T) (kind : Kind) (heard : List Incoming) (said : List Outgoing) → g.stands task kind heard said → g.answers task heard said None)
      → (promise : List Incoming → List Outgoing → Option EndKind → Type 0) (limits : Limits) (before after : ℕ) (hosted : Hosted T) (result : Start T g)
      → IsHosted g.stands hosted → offered_to hosted ≡ LifespanStartup ∷ []
      → ((heard : List Incoming) (said : List Outgoing) (ended : Option EndKind) → Promises g.answers hosted heard said ended → promise heard said ended)
      → IsAnswer result (start_answer (said_by hosted) hosted.ended)
      → TakesTurns limits.turns limits.idle_turns before after (turns_in result)
      → IfStarted result (λ life. (life.hosted ≡ hosted) × (life.turns ≡ limits.turns) × (life.idle_turns ≡ limits.idle_turns))
      → Starts promise limits before after result
  starts keeps promise limits before after hosted result is offered within answered turns started = record {
    heard = heard_by hosted;
    said = said_by hosted;
    ended = hosted.ended;
    hears = subst (λ (l : List Incoming). IsPrefix (heard_by hosted) l) offered (hears g.stands g.answers hosted is);
    lawful = lawful g.stands g.answers hosted is.0;
    promised = within _ _ _ (keeps_promise g.stands g.answers keeps hosted is.0);
    answered = answered;
    turns = turns;
    stands = started_then result _ _ started (λ life x. (
      record {
        heard_is = ap heard_by (sym x.0);
        said_is = ap said_by (sym x.0);
        ended_is = ap (λ (h : Hosted T). h.ended) (sym x.0);
        turn_limit = x.1;
        idle_limit = x.2;
      },
      λ heard said ended p. within heard said ended (subst (λ (h : Hosted T). Promises g.answers h heard said ended) x.0 p),
    ));
  }

  -- what is promised within a promise
  pub starts_within : (p q : List Incoming → List Outgoing → Option EndKind → Type 0) (limits : Limits) (before after : ℕ) (result : Start T g)
      → ((heard : List Incoming) (said : List Outgoing) (ended : Option EndKind) → p heard said ended → q heard said ended)
      → Starts p limits before after result → Starts q limits before after result
  starts_within p q limits before after result within s = record {
    heard = s.heard;
    said = s.said;
    ended = s.ended;
    hears = s.hears;
    lawful = s.lawful;
    promised = within _ _ _ s.promised;
    answered = s.answered;
    turns = s.turns;
    stands = started_then result _ _ s.stands (λ life x. (x.0, λ heard said ended h. within heard said ended (x.1 heard said ended h)));
  }

  -- after "Startup" the task was polled
  pub begun : (keeps : (task : T) (kind : Kind) (heard : List Incoming) (said : List Outgoing) → g.stands task kind heard said → g.answers task heard said None)
      → (limits : Limits) (before after : ℕ) (first offered last : Hosted T) (result : Start T g)
      → IsLeft first offered → offered_to offered ≡ offered_to first ++ LifespanStartup ∷ [] → offered_to first ≡ [] → Follows g.stands g.answers offered last
      → IsAnswer result (start_answer (said_by last) last.ended)
      → TakesTurns limits.turns limits.idle_turns before after (turns_in result)
      → IfStarted result (λ life. (life.hosted ≡ last) × (life.turns ≡ limits.turns) × (life.idle_turns ≡ limits.idle_turns))
      → Starts (Promises g.answers first) limits before after result
  begun keeps limits before after first offered last result left puts none follows answered turns started =
      starts keeps (Promises g.answers first) limits before after last result follows.hosted
      (follows.offered ∙ puts ∙ ap (λ (l : List Incoming). l ++ LifespanStartup ∷ []) none)
      (λ heard said ended p. left_within g.stands g.answers first offered left heard said ended (follows.within heard said ended p))
      answered turns started
