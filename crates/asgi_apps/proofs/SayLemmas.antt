-- What a task has sent of its list.
use Rattle.std.proofs.Common.{◌≡◌, ℕ, Bool, false, List, [], ◌∷◌, ◌++◌, Option, Some, None, Result, Ok, Err, IfOk, OnOk, OnErr, refl, sym, ap, ◌∙◌, subst}
use Rattle.std.specs.Result.{IsErrOf}
use Rattle.futures.specs.Poll.{IfReady, OnPending}
use Rattle.futures.specs.declared.task.Poll.{Poll}
use Rattle.futures.specs.declared.task.Poll.TheVariants.{Ready, Pending}
use Rattle.asgi_types.specs.declared.scope.Kind.{Kind}
use Rattle.asgi_types.specs.declared.facts.Facts.{Facts}
use Rattle.asgi_types.specs.declared.incoming.Incoming.{Incoming}
use Rattle.asgi_types.specs.declared.outgoing.Outgoing.{Outgoing}
use Rattle.asgi_protocol.specs.declared.verdict.Verdict.{Verdict}
use Rattle.asgi_protocol.specs.declared.verdict.Verdict.TheVariants.{Pass, Ignored, Refused}
use Rattle.asgi_protocol.specs.Lawful.{IsLawful}
use Rattle.asgi_protocol.specs.Verdicts.{verdict_on}
use Rattle.asgi_protocol.proofs.LawLemmas.{lawful_where_each_passes}
use Rattle.asgi_pipes.specs.Disconnects.{has_disconnect}
use Rattle.asgi_types.specs.declared.end_kind.EndKind.{EndKind}
use Rattle.asgi_types.specs.declared.end_kind.EndKind.TheVariants.{Returned, Faulted, Idle}
use Rattle.asgi_apps.specs.Answers.{Answers}
use Rattle.asgi_apps.specs.declared.says.Says.{Says}
use Rattle.asgi_apps.specs.declared.task.AppFault.{AppFault}
use Rattle.asgi_apps.specs.declared.task.AppFault.TheVariants.{Failed}
use Rattle.asgi_apps.specs.Ends.{end_of}
use Rattle.asgi_apps.specs.Saying.{Gives, HasSaid, IsToSay, IsTurnedAway, SaysList, left_of, script}

-- an event that is ignored or refused does not pass
pub ignored_is_no_pass : (verdict : Verdict) → verdict ≡ Ignored → ¬ (verdict ≡ Pass)
ignored_is_no_pass verdict is pass = cc

pub refused_is_no_pass : (verdict : Verdict) (number : ℕ) → verdict ≡ Refused number → ¬ (verdict ≡ Pass)
refused_is_no_pass verdict number is pass = cc

-- the event that comes next in a lawful list passes, if no disconnect was received
pub next_passes : (kind : Kind) (facts : Facts) (events said rest : List Outgoing) (heard : List Incoming) (event : Outgoing)
    → has_disconnect heard ≡ false → events ≡ said ++ event ∷ rest → IsLawful kind facts events → verdict_on kind facts said (has_disconnect heard) event ≡ Pass
next_passes kind facts events said rest heard event connected split lawful =
    subst (λ (gone : Bool). verdict_on kind facts said gone event ≡ Pass) (sym connected)
    ((lawful_where_each_passes kind facts events).0 lawful said rest event split)

-- so a list with an event that does not pass is not lawful
pub not_lawful : (says : Says) (kind : Kind) (facts : Facts) (heard : List Incoming) (said : List Outgoing)
    → HasSaid says kind heard said → IsTurnedAway says kind facts heard said → ((facts : Facts) → IsLawful says.kind facts (script says)) → ⊥
not_lawful says kind facts heard said stands turned lawful =
    turned.not_passed (next_passes kind facts (script says) said turned.rest heard turned.event stands.connected
    (sym stands.in_order ∙ ap (λ l. said ++ l) turned.is_next)
    (subst (λ (k : Kind). IsLawful k facts (script says)) stands.kind_is (lawful facts)))

-- what was sent after a poll is as the list says
pub sent_as_listed : (says : Says) (kind : Kind) (facts : Facts) (heard : List Incoming) (before after left : List Outgoing) (result : Poll (Result (Unit {0}) AppFault))
    → HasSaid says kind heard before → OnPending result (after ++ left ≡ before ++ left_of says)
    → IfReady result (λ done. OnOk done ((after ≡ before ++ left_of says) × (left ≡ [])))
    → IfReady result (λ done. OnErr done (IsErrOf done Failed × (after ≡ before) × IsTurnedAway says kind facts heard before))
    → SaysList says.kind (script says) after (end_of result)
sent_as_listed says kind facts heard before after left Pending stands pending ok failed = (left, pending ∙ stands.in_order)
sent_as_listed says kind facts heard before after left (Ready (Ok done)) stands pending ok failed = ok.0 ∙ stands.in_order
sent_as_listed says kind facts heard before after left (Ready (Err fault)) stands pending ok failed =
    not_lawful says kind facts heard before stands failed.2

-- the task stands for what is left, if the poll is pending
pub still_stands : {A : Type 0} (old new : Says) (kind kind_after : Kind) (heard heard_after : List Incoming) (before after : List Outgoing) (result : Poll A)
    → HasSaid old kind heard before → new.kind ≡ old.kind → script new ≡ script old → kind_after ≡ kind → heard_after ≡ heard
    → OnPending result (after ++ left_of new ≡ before ++ left_of old) → OnPending result (HasSaid new kind_after heard_after after)
still_stands old new kind kind_after heard heard_after before after Pending stands same scripts kinds hears pending = record {
  kind_is = same ∙ stands.kind_is ∙ sym kinds;
  connected = ap (λ l. has_disconnect l) hears ∙ stands.connected;
  in_order = pending ∙ stands.in_order ∙ sym scripts;
}
still_stands old new kind kind_after heard heard_after before after (Ready done) stands same scripts kinds hears pending = tt

-- and promises the same list
pub same_list : {A : Type 0} (old new : Says) (result : Poll A) → new.kind ≡ old.kind → script new ≡ script old
    → OnPending result ((heard : List Incoming) (said : List Outgoing) (ended : Option EndKind) → SaysList new.kind (script new) said ended → SaysList old.kind (script old) said ended)
same_list old new Pending same scripts = λ heard said ended h.
    subst (λ (kind : Kind). SaysList kind (script old) said ended) same (subst (λ (l : List Outgoing). SaysList new.kind l said ended) scripts h)
same_list old new (Ready done) same scripts = tt

-- A task that sends the list of a lawful answer gives that answer.
pub gives_answer : (kind : Kind) (events answer : List Outgoing) → events ≡ answer → ((facts : Facts) → IsLawful kind facts answer)
    → (heard : List Incoming) (said : List Outgoing) (ended : Option EndKind) → SaysList kind events said ended → Answers (Some answer) heard said ended
gives_answer kind events answer is lawful heard said None h = (h.0, h.1 ∙ is)
gives_answer kind events answer is lawful heard said (Some Returned) h = h ∙ is
gives_answer kind events answer is lawful heard said (Some Faulted) h =
    absurd (h (λ facts. subst (λ (l : List Outgoing). IsLawful kind facts l) (sym is) (lawful facts)))
gives_answer kind events answer is lawful heard said (Some Idle) h = (h.0, h.1 ∙ is)

pub gives : (says : Says) (kind : Kind) (events : List Outgoing) → IsToSay says kind events → ((facts : Facts) → IsLawful kind facts events) → Gives says kind events
gives says kind events to_say lawful = record {
  stands = record { kind_is = to_say.kind_is; connected = refl; in_order = to_say.left ∙ sym to_say.all };
  answers = gives_answer says.kind (script says) events to_say.all (λ facts. subst (λ (k : Kind). IsLawful k facts events) (sym to_say.kind_is) (lawful facts));
}

-- what was granted gives its answer
pub granted_gives : {E F : Type 0} (made : Result Says E) (result : Result Says F) (kind : Kind) (events : List Outgoing)
    → IfOk result (λ says. made ≡ Ok says) → IfOk made (λ says. IsToSay says kind events) → ((facts : Facts) → IsLawful kind facts events)
    → IfOk result (λ says. Gives says kind events)
granted_gives made (Ok says) kind events same to_say lawful =
    gives says kind events (subst (λ (r : Result Says _). IfOk r (λ s. IsToSay s kind events)) same to_say) lawful
granted_gives made (Err fault) kind events same to_say lawful = tt

pub given_answers : {F : Type 0} (result : Result Says F) (kind : Kind) (events : List Outgoing) → IfOk result (λ says. Gives says kind events)
    → IfOk result (λ says. (heard : List Incoming) (said : List Outgoing) (ended : Option EndKind) → SaysList says.kind (script says) said ended → Answers (Some events) heard said ended)
given_answers (Ok says) kind events h = h.answers
given_answers (Err fault) kind events h = tt
