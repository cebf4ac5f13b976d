-- A server of nomtsage whose reports were printed is what the program promises.
use Rattle.std.proofs.Common.{◌≡◌, ◌⊎◌, ◌∙◌, ◌&&◌, not, inl, inr, ap, refl, ℕ, Bool, true, false, List, [], Option, Some, None, subst}
use Rattle.asgi_types.specs.declared.incoming.Incoming.{Incoming}
use Rattle.asgi_types.specs.declared.limits.Limits.{Limits}
use Rattle.asgi_types.specs.declared.outgoing.Outgoing.{Outgoing}
use Rattle.asgi_types.specs.declared.state.StateValue.{StateValue}
use Rattle.asgi_ws.specs.Lines.{LineState}
use Rattle.asgi_apps.specs.Promises.{Promise}
use Rattle.asgi_conversation.specs.declared.report.Report.{Report}
use Rattle.asgi_crew.specs.declared.give.End.{End}
use Rattle.asgi_crew.specs.declared.give.End.TheVariants as end
use Rattle.asgi_lifespan.specs.declared.stop.Stop.{Stop}
use Rattle.asgi_lifespan.specs.declared.stop.Stop.TheVariants as stop
use Rattle.asgi_lifespan.specs.Lifespan.{StartAnswer, started, failed, unsupported, start_answer}
use Rattle.asgi_server.specs.Connections.{Given}
use Rattle.nomtsage.specs.declared.ending.Ending.{Ending as Ended}
use Rattle.nomtsage.specs.declared.ending.Ending.TheVariants as ended
use Rattle.nomtsage.specs.declared.ending.Served.{Served}
use Rattle.nomtsage.specs.Serving as lib
use Rattle.asgi_command.specs.declared.ending.Ending.{Ending}
use Rattle.asgi_command.specs.declared.ending.Ending.TheVariants.{DeviceFault}
use Rattle.asgi_command.specs.Serving.{Around, around, gave_all, ending_of, ServesEach, Follows, LivesOrNot, ServesOn, of_ending, status_of}
use Rattle.asgi_command.specs.Telling.{Writer, PutsNext, TellsOf, report_line}
use Rattle.asgi_command.specs.private.Ended.{LivesOn, ending_with}
use Rattle.asgi_command.proofs.PutLemmas.{printed, stays}

-- the end by why no more connections were asked for, and by whether the lines went out
ends_so : (e : End) (lost told : Bool) (answer : Stop) → ending_with told (lib.ending_of (lib.served_of e lost) answer) ≡ ending_of (gave_all e && told && not lost) answer
ends_so end.Given true true answer = refl
ends_so end.Given true false answer = refl
ends_so end.Given false true stop.Stopped = refl
ends_so end.Given false true (stop.Failed message) = refl
ends_so end.Given false true (stop.Idle turns) = refl
ends_so end.Given false false answer = refl
ends_so end.NoMemory lost true answer = refl
ends_so end.NoMemory lost false answer = refl
ends_so end.NoThread lost true answer = refl
ends_so end.NoThread lost false answer = refl

no_memory : (told : Bool) → ending_with told ended.NoMemory ≡ DeviceFault
no_memory true = refl
no_memory false = refl

no_thread : (told : Bool) → ending_with told ended.NoThread ≡ DeviceFault
no_thread true = refl
no_thread false = refl

module _ {L P : Type 0} (line_state : L → LineState) (answers : Promise) (limits : Limits) (workers : ℕ) (has_failed : Bool)
    (tells : P → P → ℕ → Report → Type 0) (told : P → Bool) (at : P → Writer)
    (prints : (was is : P) (n : ℕ) (r : Report) → tells was is n r → PutsNext (told was) (report_line (n, r)) (at was) (at is) (told is))
    (asked more : List (Option (Given L))) (p q : P) (begins : told p ≡ true) where
  -- whether all went well with the connections and their reports
  abbrev well_of : {state : List (List ℕ × StateValue)} {how : Served} → lib.ServesEach line_state tells answers limits workers has_failed state (lib.around asked p) (lib.around more q) how → Bool
  well_of x = gave_all x.ended && told q && not has_failed

  each_of : (state : List (List ℕ × StateValue)) (how : Served) (x : lib.ServesEach line_state tells answers limits workers has_failed state (lib.around asked p) (lib.around more q) how)
      → ServesEach line_state answers limits workers has_failed state (around asked (at p)) (around more (at q)) (well_of x)
  each_of state how x = record {
    ended = x.ended;
    pauses = x.pauses;
    reports = x.reports;
    shared = x.shared;
    told = told q;
    tells = printed tells told at prints p q x.reports x.told begins;
    well_is = refl;
  }

  -- the end of an application that was served, and stopped
  ended_by : (state : List (List ℕ × StateValue)) (how : Served) (x : lib.ServesEach line_state tells answers limits workers has_failed state (lib.around asked p) (lib.around more q) how)
      (answer : Stop) (ends : Ended) (ending : Ending) → ends ≡ lib.ending_of how answer → ending ≡ ending_with (told q) ends → ending ≡ ending_of (well_of x) answer
  ended_by state how x answer ends ending is same =
      same ∙ ap (ending_with (told q)) is ∙ ap (λ (h : Served). ending_with (told q) (lib.ending_of h answer)) x.how_is ∙ ends_so x.ended has_failed (told q) answer

  -- nothing was asked for, and nothing printed
  kept_of : lib.around more q ≡ lib.around asked p → around more (at q) ≡ around asked (at p)
  kept_of same = ap (λ (o : lib.Around (Option (Given L)) P). around o.asked (at o.teller)) same

  unsaid : lib.around more q ≡ lib.around asked p → told q ≡ true
  unsaid same = ap (λ (o : lib.Around (Option (Given L)) P). told o.teller) same ∙ begins

  -- the end of one that was not served
  unserved : (ends : Ended) (ending : Ending) (named : Ended) → lib.around more q ≡ lib.around asked p → ends ≡ named → ending ≡ ending_with (told q) ends → ending ≡ ending_with true named
  unserved ends ending named same is of = of ∙ ap (ending_with (told q)) is ∙ ap (λ (b : Bool). ending_with b named) (unsaid same)

  follows_of : (answer : Option StartAnswer) (heard : List Incoming) (said : List Outgoing) (before after : ℕ) (ends : Ended) (ending : Ending) → ending ≡ ending_with (told q) ends
      → lib.Follows (lib.ServesEach line_state tells answers limits workers has_failed) answers limits answer heard said (lib.around asked p) (lib.around more q) before after ends
      → Follows line_state answers limits workers has_failed answer heard said (around asked (at p)) (around more (at q)) before after ending
  follows_of (Some (started state)) heard said before after ends ending of (how, answer, x, stops, is) =
      (well_of x, answer, each_of state how x, stops, ended_by state how x answer ends ending is of)
  follows_of (Some unsupported) heard said before after ends ending of (how, x, rests, is) =
      (well_of x, each_of [] how x, rests, ended_by [] how x stop.Stopped ends ending is of)
  follows_of (Some (failed message)) heard said before after ends ending of (same, rests, is) =
      (kept_of same, rests, unserved ends ending (ended.StartupFailed message) same is of)
  follows_of None heard said before after ends ending of (same, rests, is) = (kept_of same, rests, unserved ends ending ended.NoStartup same is of)

  lives_of : (before after : ℕ) (ends : Ended) (ending : Ending) → ending ≡ ending_with (told q) ends
      → lib.LivesOrNot (lib.ServesEach line_state tells answers limits workers has_failed) answers limits (lib.around asked p) (lib.around more q) before after ends
      → LivesOrNot line_state answers limits workers has_failed (around asked (at p)) (around more (at q)) before after ending
  lives_of before after ends ending of (inl x) = inl record {
    heard = x.heard;
    said = x.said;
    ended = x.ended;
    hears = x.hears;
    lawful = x.lawful;
    promised = x.promised;
    gave_up = x.gave_up;
    between = x.between;
    turns = x.turns;
    follows = follows_of (start_answer x.said x.ended) x.heard x.said x.between after ends ending of x.follows;
  }
  lives_of before after ends ending of (inr (same, rests, is)) = inr (kept_of same, rests, of ∙ ap (ending_with (told q)) is ∙ no_memory (told q))

  pub serves_of : (ends : Ended) (ending : Ending) → ending ≡ ending_with (told q) ends
      → lib.ServesOn line_state tells answers limits workers has_failed (lib.around asked p) (lib.around more q) ends
      → LivesOn line_state answers limits workers has_failed (around asked (at p)) (around more (at q)) ending
  serves_of ends ending of (inl (pauses, lives)) = inl (pauses, lives_of 0 pauses ends ending of lives)
  serves_of ends ending of (inr (same, inl is)) = inr (kept_of same, of ∙ ap (ending_with (told q)) is ∙ no_memory (told q))
  serves_of ends ending of (inr (same, inr is)) = inr (kept_of same, of ∙ ap (ending_with (told q)) is ∙ no_thread (told q))

-- what each report leaves of a teller as it is is so after the server
module _ {L P X : Type 0} (line_state : L → LineState) (answers : Promise) (limits : Limits) (workers : ℕ) (has_failed : Bool)
    (tells : P → P → ℕ → Report → Type 0) (part : P → X) (keeps : (was is : P) (n : ℕ) (r : Report) → tells was is n r → part is ≡ part was) (old new : lib.Around (Option (Given L)) P) where
  kept_in : (answer : Option StartAnswer) (heard : List Incoming) (said : List Outgoing) (before after : ℕ) (ends : Ended)
      → lib.Follows (lib.ServesEach line_state tells answers limits workers has_failed) answers limits answer heard said old new before after ends → part new.teller ≡ part old.teller
  kept_in (Some (started state)) heard said before after ends (how, answer, x, stops, is) = stays tells part keeps old.teller new.teller x.reports x.told
  kept_in (Some unsupported) heard said before after ends (how, x, rests, is) = stays tells part keeps old.teller new.teller x.reports x.told
  kept_in (Some (failed message)) heard said before after ends (same, rests, is) = ap (λ (o : lib.Around (Option (Given L)) P). part o.teller) same
  kept_in None heard said before after ends (same, rests, is) = ap (λ (o : lib.Around (Option (Given L)) P). part o.teller) same

  pub part_stays : (ends : Ended) → lib.ServesOn line_state tells answers limits workers has_failed old new ends → part new.teller ≡ part old.teller
  part_stays ends (inl (pauses, inl x)) = kept_in (start_answer x.said x.ended) x.heard x.said x.between pauses ends x.follows
  part_stays ends (inl (pauses, inr (same, rests, is))) = ap (λ (o : lib.Around (Option (Given L)) P). part o.teller) same
  part_stays ends (inr (same, is)) = ap (λ (o : lib.Around (Option (Given L)) P). part o.teller) same

-- and what went wrong was written
pub served_on : {L : Type 0} (line_state : L → LineState) (answers : Promise) (limits : Limits) (workers : ℕ) (has_failed : Bool) (old new : Around L) (errors_old errors_new : Writer)
    (ending : Ending) (status : ℕ) → LivesOn line_state answers limits workers has_failed old new ending → TellsOf (of_ending ending) errors_old errors_new → status ≡ status_of ending
    → ServesOn line_state answers limits workers has_failed old new errors_old errors_new status
served_on line_state answers limits workers has_failed old new errors_old errors_new ending status (inl (pauses, lives)) tells is =
    inl (pauses, record { ending = ending; lives = lives; tells = tells; status_is = is })
served_on line_state answers limits workers has_failed old new errors_old errors_new ending status (inr (same, fault)) tells is =
    inr (same, subst (λ (e : Ending). TellsOf (of_ending e) errors_old errors_new) fault tells, is ∙ ap status_of fault)
