-- What `Life` sends in a lifespan scope is lawful, and each poll keeps to it.
use Rattle.std.proofs.Common.{◌≡◌, true, false, List, [], ◌∷◌, ◌++◌, Option, Some, None, refl, ap, sym, ◌∙◌, subst, append-nil, append_assoc, inl, inr, ◌⊎◌}
use Rattle.std.specs.Option.{option_to_list}
use Rattle.asgi_types.specs.declared.scope.Kind.{Kind}
use Rattle.asgi_types.specs.declared.scope.Kind.TheVariants.{Lifespan}
use Rattle.asgi_types.specs.declared.facts.Facts.{Facts}
use Rattle.asgi_types.specs.declared.incoming.Incoming.{Incoming}
use Rattle.asgi_types.specs.declared.incoming.Incoming.TheVariants.{HttpRequest, HttpDisconnect, WsConnect, WsReceive, WsDisconnect, LifespanStartup, LifespanShutdown}
use Rattle.asgi_types.specs.declared.outgoing.Outgoing.{Outgoing}
use Rattle.asgi_types.specs.declared.end_kind.EndKind.TheVariants.{Returned}
use Rattle.asgi_protocol.specs.declared.verdict.Verdict.TheVariants.{Pass}
use Rattle.asgi_protocol.specs.Lawful.{IsLawful}
use Rattle.asgi_protocol.specs.Laws.{EachPasses}
use Rattle.asgi_protocol.specs.Verdicts.{verdict_on}
use Rattle.asgi_protocol.proofs.LawLemmas.{lawful_where_each_passes}
use Rattle.asgi_pipes.specs.Disconnects.{has_disconnect}
use Rattle.asgi_apps.specs.declared.life.Life.{Life}
use Rattle.asgi_apps.specs.declared.life.Life.TheVariants.{Works, NoStart, NoStop}
use Rattle.asgi_apps.specs.declared.life.Service.{Service}
use Rattle.asgi_apps.specs.Life.{HeardLast, ServiceAnswers, at_shutdown, last_answer, last_event, lifespan_events, shutdown_event, startup_event}
use Rattle.asgi_apps.specs.Living.{Begins, IsLeft, ServiceStands, is_last, later, reply, shutdown_after, startup_after}
use Rattle.asgi_apps.proofs.AnswerLemmas.{one_passes, two_pass}
use Rattle.asgi_apps.proofs.EchoLemmas.{connected-append}

-- what is lawful in a lifespan scope
none_passes : (facts : Facts) → EachPasses Lifespan facts []
none_passes facts [] after event split = absurd (cc)
none_passes facts (x ∷ before) after event split = absurd (cc)

nothing_is_lawful : (facts : Facts) → IsLawful Lifespan facts []
nothing_is_lawful facts = (lawful_where_each_passes Lifespan facts []).1 (none_passes facts)

start_is_lawful : (life : Life) (facts : Facts) → IsLawful Lifespan facts (startup_event life ∷ [])
start_is_lawful Works facts = (lawful_where_each_passes Lifespan facts _).1 (one_passes Lifespan facts _ refl)
start_is_lawful NoStart facts = (lawful_where_each_passes Lifespan facts _).1 (one_passes Lifespan facts _ refl)
start_is_lawful NoStop facts = (lawful_where_each_passes Lifespan facts _).1 (one_passes Lifespan facts _ refl)

whole_is_lawful : (life : Life) (facts : Facts) → IsLawful Lifespan facts (startup_event life ∷ option_to_list (shutdown_event life))
whole_is_lawful Works facts = (lawful_where_each_passes Lifespan facts _).1 (two_pass Lifespan facts _ _ refl refl)
whole_is_lawful NoStart facts = (lawful_where_each_passes Lifespan facts _).1 (one_passes Lifespan facts _ refl)
whole_is_lawful NoStop facts = (lawful_where_each_passes Lifespan facts _).1 (two_pass Lifespan facts _ _ refl refl)

started_is_lawful : (life : Life) (facts : Facts) (heard : List Incoming) → IsLawful Lifespan facts (startup_event life ∷ at_shutdown life heard)
started_is_lawful life facts [] = start_is_lawful life facts
started_is_lawful life facts (HttpRequest b m ∷ heard) = started_is_lawful life facts heard
started_is_lawful life facts (HttpDisconnect ∷ heard) = start_is_lawful life facts
started_is_lawful life facts (WsConnect ∷ heard) = started_is_lawful life facts heard
started_is_lawful life facts (WsReceive p ∷ heard) = started_is_lawful life facts heard
started_is_lawful life facts (WsDisconnect c r ∷ heard) = start_is_lawful life facts
started_is_lawful life facts (LifespanStartup ∷ heard) = started_is_lawful life facts heard
started_is_lawful life facts (LifespanShutdown ∷ heard) = whole_is_lawful life facts

-- The answer is lawful, whatever was received.
pub service_is_lawful : (life : Life) (facts : Facts) (heard : List Incoming) → IsLawful Lifespan facts (lifespan_events life heard)
service_is_lawful life facts [] = nothing_is_lawful facts
service_is_lawful life facts (HttpRequest b m ∷ heard) = service_is_lawful life facts heard
service_is_lawful life facts (HttpDisconnect ∷ heard) = nothing_is_lawful facts
service_is_lawful life facts (WsConnect ∷ heard) = service_is_lawful life facts heard
service_is_lawful life facts (WsReceive p ∷ heard) = service_is_lawful life facts heard
service_is_lawful life facts (WsDisconnect c r ∷ heard) = nothing_is_lawful facts
service_is_lawful life facts (LifespanStartup ∷ heard) = started_is_lawful life facts heard
service_is_lawful life facts (LifespanShutdown ∷ heard) = service_is_lawful life facts heard

-- nothing is sent if nothing is left
nothing_later : (more : List Incoming) → later None None more ≡ []
nothing_later [] = refl
nothing_later (HttpRequest b m ∷ more) = nothing_later more
nothing_later (HttpDisconnect ∷ more) = nothing_later more
nothing_later (WsConnect ∷ more) = nothing_later more
nothing_later (WsReceive p ∷ more) = nothing_later more
nothing_later (WsDisconnect c r ∷ more) = nothing_later more
nothing_later (LifespanStartup ∷ more) = nothing_later more
nothing_later (LifespanShutdown ∷ more) = nothing_later more

-- what is left answers as the definition has it
started_later : (life : Life) (more : List Incoming) → at_shutdown life more ≡ later None (shutdown_event life) more
started_later life [] = refl
started_later life (HttpRequest b m ∷ more) = started_later life more
started_later life (HttpDisconnect ∷ more) = sym (nothing_later more)
started_later life (WsConnect ∷ more) = started_later life more
started_later life (WsReceive p ∷ more) = started_later life more
started_later life (WsDisconnect c r ∷ more) = sym (nothing_later more)
started_later life (LifespanStartup ∷ more) = started_later life more
started_later life (LifespanShutdown ∷ more) =
    sym (append-nil (option_to_list (shutdown_event life))) ∙ ap (λ l. option_to_list (shutdown_event life) ++ l) (sym (nothing_later more))

begun_later : (life : Life) (more : List Incoming) → lifespan_events life more ≡ later (Some (startup_event life)) (shutdown_event life) more
begun_later life [] = refl
begun_later life (HttpRequest b m ∷ more) = begun_later life more
begun_later life (HttpDisconnect ∷ more) = sym (nothing_later more)
begun_later life (WsConnect ∷ more) = begun_later life more
begun_later life (WsReceive p ∷ more) = begun_later life more
begun_later life (WsDisconnect c r ∷ more) = sym (nothing_later more)
begun_later life (LifespanStartup ∷ more) = ap (λ l. startup_event life ∷ l) (started_later life more)
begun_later life (LifespanShutdown ∷ more) = begun_later life more

-- the invariant holds of a task that has received nothing
pub begun_stands : (life : Life) (service : Service) (kind : Kind) → kind ≡ Lifespan → Begins life service → ServiceStands service kind [] []
begun_stands life service kind is begins = record {
  kind_is = is;
  in_order = λ more. rw (begins.life_is, begins.waiting, begins.startup, begins.shutdown) (begun_later life more);
  left = rw (begins.life_is, begins.startup, begins.shutdown) (refl, refl);
  connected = inl refl;
  over = λ e. absurd (cc (begins.is_over));
}

left_after : (life : Life) (event : Incoming) (startup shutdown : Option Outgoing) → IsLeft life startup shutdown
    → IsLeft life (startup_after event startup) (shutdown_after event startup shutdown)
left_after life LifespanStartup (Some s) (Some t) h = h.1
left_after life LifespanStartup (Some s) None h = tt
left_after life LifespanStartup None shutdown h = h
left_after life LifespanShutdown (Some s) shutdown h = h
left_after life LifespanShutdown None shutdown h = tt
left_after life HttpDisconnect startup shutdown h = tt
left_after life (WsDisconnect c r) startup shutdown h = tt
left_after life (HttpRequest b m) startup shutdown h = h
left_after life WsConnect startup shutdown h = h
left_after life (WsReceive p) startup shutdown h = h

-- the last event is answered with the last answer
last_is : (life : Life) (event : Incoming) (startup shutdown : Option Outgoing) → IsLeft life startup shutdown → is_last event startup shutdown ≡ true
    → (event ≡ last_event life) × (reply event startup shutdown ≡ last_answer life ∷ [])
last_is Works LifespanStartup (Some s) None h e = absurd (cc (h.1))
last_is NoStart LifespanStartup (Some s) None h e = (refl, ap (λ x. x ∷ []) h.0)
last_is NoStop LifespanStartup (Some s) None h e = absurd (cc (h.1))
last_is life LifespanStartup (Some s) (Some t) h e = absurd (cc)
last_is life LifespanStartup None shutdown h e = absurd (cc)
last_is life LifespanShutdown (Some s) shutdown h e = absurd (cc)
last_is life LifespanShutdown None None h e = absurd (cc)
last_is Works LifespanShutdown None (Some t) h e = (refl, ap option_to_list h)
last_is NoStart LifespanShutdown None (Some t) h e = absurd (cc h)
last_is NoStop LifespanShutdown None (Some t) h e = (refl, ap option_to_list h)
last_is life HttpDisconnect startup shutdown h e = absurd (cc)
last_is life (WsDisconnect c r) startup shutdown h e = absurd (cc)
last_is life (HttpRequest b m) startup shutdown h e = absurd (cc)
last_is life WsConnect startup shutdown h e = absurd (cc)
last_is life (WsReceive p) startup shutdown h e = absurd (cc)

abbrev IsSilent : Option Outgoing → Option Outgoing → Option Outgoing → Type 0
IsSilent waiting startup shutdown = (waiting ≡ None) × (startup ≡ None) × (shutdown ≡ None)

none_left : (waiting : Option Outgoing) → option_to_list waiting ≡ [] → waiting ≡ None
none_left None h = refl
none_left (Some event) h = absurd (cc)

-- if nothing is left, nothing will be
silent_after : (event : Incoming) → (reply event None None ≡ []) × (startup_after event None ≡ None) × (shutdown_after event None None ≡ None)
silent_after LifespanStartup = (refl, refl, refl)
silent_after LifespanShutdown = (refl, refl, refl)
silent_after HttpDisconnect = (refl, refl, refl)
silent_after (WsDisconnect c r) = (refl, refl, refl)
silent_after (HttpRequest b m) = (refl, refl, refl)
silent_after WsConnect = (refl, refl, refl)
silent_after (WsReceive p) = (refl, refl, refl)

-- and once a disconnect was received, nothing is
connected_after : (heard : List Incoming) (event : Incoming) (startup shutdown : Option Outgoing) → has_disconnect heard ≡ false
    → (has_disconnect (heard ++ event ∷ []) ≡ false)
    ⊎ ((reply event startup shutdown ≡ []) × (startup_after event startup ≡ None) × (shutdown_after event startup shutdown ≡ None))
connected_after heard HttpDisconnect startup shutdown h = inr (refl, refl, refl)
connected_after heard (WsDisconnect c r) startup shutdown h = inr (refl, refl, refl)
connected_after heard LifespanStartup startup shutdown h = inl (connected-append heard LifespanStartup h refl)
connected_after heard LifespanShutdown startup shutdown h = inl (connected-append heard LifespanShutdown h refl)
connected_after heard (HttpRequest b m) startup shutdown h = inl (connected-append heard (HttpRequest b m) h refl)
connected_after heard WsConnect startup shutdown h = inl (connected-append heard WsConnect h refl)
connected_after heard (WsReceive p) startup shutdown h = inl (connected-append heard (WsReceive p) h refl)

module _ (service : Service) (kind : Kind) (heard : List Incoming) (said : List Outgoing) (stands : ServiceStands service kind heard said) where
  so_far : said ++ option_to_list service.waiting ≡ lifespan_events service.life heard
  so_far = sym (append-nil (said ++ option_to_list service.waiting)) ∙ sym (stands.in_order []) ∙ ap (λ l. lifespan_events service.life l) (append-nil heard)

  -- what waits passes
  pub waiting_passes : (facts : Facts) (event : Outgoing) → service.waiting ≡ Some event → verdict_on kind facts said (has_disconnect heard) event ≡ Pass
  waiting_passes facts event is =
      let connected : has_disconnect heard ≡ false = elim stands.connected [ inl c ↦ c | inr silent ↦ absurd (cc (silent.0)) ] in
      let in_order : said ++ event ∷ [] ≡ lifespan_events service.life heard = ap (λ w. said ++ option_to_list w) (sym is) ∙ so_far in
      rw (stands.kind_is, connected)
      ((lawful_where_each_passes Lifespan facts (said ++ event ∷ [])).0
      (subst (λ (l : List Outgoing). IsLawful Lifespan facts l) (sym in_order) (service_is_lawful service.life facts heard)) said [] event refl)

  -- it was sent, or waits on
  pub said_it : (event : Outgoing) (new : Service) (kind2 : Kind) (heard2 : List Incoming) (said2 : List Outgoing) → service.waiting ≡ Some event
      → new.life ≡ service.life → new.startup ≡ service.startup → new.shutdown ≡ service.shutdown → new.is_over ≡ service.is_over
      → kind2 ≡ kind → heard2 ≡ heard → said2 ++ option_to_list new.waiting ≡ said ++ event ∷ [] → ServiceStands new kind2 heard2 said2
  said_it event new kind2 heard2 said2 is l s t o k h put = record {
    kind_is = k ∙ stands.kind_is;
    in_order = λ more. rw (l, s, t, h, put, ap (λ w. said ++ option_to_list w) (sym is)) (stands.in_order more);
    left = rw (l, s, t) stands.left;
    connected = inl (rw h (elim stands.connected [ inl c ↦ c | inr silent ↦ absurd (cc (silent.0)) ]));
    over = λ e. rw (l, h) (stands.over (sym o ∙ e));
  }

  pub said_answers : (event : Outgoing) (left : Option Outgoing) (heard2 : List Incoming) (said2 : List Outgoing) → service.waiting ≡ Some event → heard2 ≡ heard
      → said2 ++ option_to_list left ≡ said ++ event ∷ [] → ServiceAnswers service.life heard2 said2 None
  said_answers event left heard2 said2 is h put = (
    (
      option_to_list left,
      put ∙ ap (λ w. said ++ option_to_list w) (sym is) ∙ so_far ∙ ap (λ l. lifespan_events service.life l) (sym h),
    ),
    tt,
  )

  -- all was sent
  pub said_all : (said2 : List Outgoing) → said2 ≡ said → service.waiting ≡ None → service.is_over ≡ true → ServiceAnswers service.life heard said2 (Some Returned)
  said_all said2 same nothing over =
      (same ∙ sym (append-nil said) ∙ ap (λ w. said ++ option_to_list w) (sym nothing) ∙ so_far, stands.over over)

  -- an event was received while nothing waited
  module _ (event : Incoming) (hears : List Incoming) (says : List Outgoing) (nothing : service.waiting ≡ None) (came : hears ≡ heard ++ event ∷ []) (same : says ≡ said) where
    grown : (more : List Incoming) → lifespan_events service.life (hears ++ more)
        ≡ (says ++ reply event service.startup service.shutdown) ++ later (startup_after event service.startup) (shutdown_after event service.startup service.shutdown) more
    grown more =
        let as_was : said ++ option_to_list service.waiting ≡ says = ap (λ w. said ++ option_to_list w) nothing ∙ append-nil said ∙ sym same in
        ap (λ l. lifespan_events service.life (l ++ more)) came ∙ ap (λ l. lifespan_events service.life l) (append_assoc heard (event ∷ []) more)
        ∙ stands.in_order (event ∷ more)
        ∙ ap (λ l. l ++ (reply event service.startup service.shutdown ++ later (startup_after event service.startup) (shutdown_after event service.startup service.shutdown) more)) as_was
        ∙ sym (append_assoc says (reply event service.startup service.shutdown) _)

    heard_last : is_last event service.startup service.shutdown ≡ true → HeardLast service.life hears
    heard_last last =
        let both = last_is service.life event service.startup service.shutdown stands.left last in
        record {
          before = heard;
          in_order = came ∙ ap (λ e. heard ++ e ∷ []) both.0;
          answered = ap (λ l. lifespan_events service.life l) (sym (append-nil hears)) ∙ grown [] ∙ append-nil (says ++ reply event service.startup service.shutdown)
              ∙ ap (λ l. says ++ l) both.1 ∙ ap (λ l. l ++ last_answer service.life ∷ [])
              (same ∙ sym (append-nil said) ∙ ap (λ w. said ++ option_to_list w) (sym nothing) ∙ so_far);
        }

    -- it goes on
    pub heard_more : (new : Service) (kind2 : Kind) → kind2 ≡ kind → option_to_list new.waiting ≡ reply event service.startup service.shutdown
        → new.startup ≡ startup_after event service.startup → new.shutdown ≡ shutdown_after event service.startup service.shutdown
        → new.is_over ≡ is_last event service.startup service.shutdown → new.life ≡ service.life → ServiceStands new kind2 hears says
    heard_more new kind2 k w s t o l = record {
      kind_is = k ∙ stands.kind_is;
      in_order = λ more. rw (l, w, s, t) (grown more);
      left = rw (l, s, t) (left_after service.life event service.startup service.shutdown stands.left);
      connected = elim stands.connected [
        | inl c ↦ elim (connected_after heard event service.startup service.shutdown c) [
          | inl d ↦ inl (rw came d)
          | inr silent ↦ inr (none_left new.waiting (w ∙ silent.0), s ∙ silent.1, t ∙ silent.2)
        ]
        | inr silent ↦
            let after = silent_after event in
            inr (
              none_left new.waiting (w ∙ ap (λ x. reply event x service.shutdown) silent.1 ∙ ap (λ x. reply event None x) silent.2 ∙ after.0),
              s ∙ ap (λ x. startup_after event x) silent.1 ∙ after.1,
              t ∙ ap (λ x. shutdown_after event x service.shutdown) silent.1 ∙ ap (λ x. shutdown_after event None x) silent.2 ∙ after.2,
            )
      ];
      over = λ e. rw l (heard_last (sym o ∙ e));
    }
