-- What a session is after each event.
use Rattle.std.proofs.Common.{◌≡◌, true, false, List, [], ◌∷◌, ◌++◌, Option, Some, None, refl, ap, sym, ◌∙◌, subst, inl, inr, append-nil}
use Rattle.std.specs.List.{list_any}
use mathlib.Core.List.{IsPrefix}
use Rattle.asgi_types.specs.declared.scope.Kind.{Kind}
use Rattle.asgi_types.specs.declared.incoming.Payload.{Payload}
use Rattle.asgi_types.specs.declared.incoming.Incoming.{Incoming}
use Rattle.asgi_types.specs.declared.incoming.Incoming.TheVariants.{WsConnect, WsReceive}
use Rattle.asgi_types.specs.declared.outgoing.Outgoing.{Outgoing}
use Rattle.asgi_types.specs.declared.end_kind.EndKind.TheVariants.{Returned, Faulted}
use Rattle.asgi_protocol.specs.Verdicts.{is_disconnect}
use Rattle.asgi_pipes.specs.Disconnects.{has_disconnect}
use Rattle.asgi_apps.specs.WsEcho.{HeardDisconnect}
use Rattle.asgi_apps.specs.WsEchoing.{is_connect}
use Rattle.asgi_apps.proofs.EchoLemmas.{connected-append}
use Rattle.asgi_talks.specs.declared.answer.Answer.{Answer}
use Rattle.asgi_talks.specs.declared.opened.Opened.{Opened}
use Rattle.asgi_talks.specs.declared.talking.Heard.TheVariants.{Passed, Turn, Gone, Failed}
use Rattle.asgi_talks.specs.declared.talking.Stage.{Stage}
use Rattle.asgi_talks.specs.declared.talking.Stage.TheVariants.{Waiting, Listening, Saying, Ending}
use Rattle.asgi_talks.specs.Answering.{answer_events, opening_events, session_after, session_of}
use Rattle.asgi_talks.specs.Sessions.{Answered, AnswersSession, Given, HasAnswered, HasFailed, HasFallenSilent, HasSaidAll, HasTalked, IsUnopened, Replied, Unasked, due, due_before, messages_of, payloads_of}
use Rattle.asgi_talks.specs.Talking.{IsInTurn, IsWaiting, StandsAt, left_of}
use Rattle.asgi_talks.specs.private.Steps.{Hears, Speaks, TakesTurn, Waits}
use Rattle.asgi_talks.proofs.ListLemmas.{answered-append, due-append, due_before-append, messages-append, messages-opens, open-append, opens-append, told-append, unconnected-append}

module _ {S : Type 0} (opens : Opened S → Type 0) (answers : S → Payload → S → Answer → Type 0) (tells : S → S → Answer → Type 0) (fails : S → Type 0) where
  -- a turn that is to be sent
  turn_stands : (stage : Stage S) (session : Option S) (events : List Outgoing) (called : List (Opened S)) (kind : Kind) (heard : List Incoming) (said : List Outgoing)
      → TakesTurn stage session events → IsInTurn opens answers tells session events called kind heard said → StandsAt opens answers tells called stage kind heard said
  turn_stands Waiting session events called kind heard said is stands = absurd is
  turn_stands (Listening next) session events called kind heard said is stands =
      subst (λ (l : List Outgoing). IsInTurn opens answers tells (Some next) l called kind heard said) is.1
      (subst (λ (s : Option S). IsInTurn opens answers tells s events called kind heard said) is.0 stands)
  turn_stands (Saying next sending) session events called kind heard said is stands =
      subst (λ (l : List Outgoing). IsInTurn opens answers tells (Some next) l called kind heard said) (sym is.1)
      (subst (λ (s : Option S). IsInTurn opens answers tells s events called kind heard said) is.0 stands)
  turn_stands (Ending sending) session events called kind heard said is stands =
      subst (λ (l : List Outgoing). IsInTurn opens answers tells None l called kind heard said) (sym is.1)
      (subst (λ (s : Option S). IsInTurn opens answers tells s events called kind heard said) is.0 stands)

  -- ---- before "Connect"

  -- nothing was received
  pub waits_on : (called : List (Opened S)) (stage : Stage S) (kind kind2 : Kind) (heard hears : List Incoming) (said says : List Outgoing) → stage ≡ Waiting → kind2 ≡ kind → hears ≡ heard
      → says ≡ said → IsWaiting called kind heard said → StandsAt opens answers tells called stage kind2 hears says
  waits_on called stage kind kind2 heard hears said says is k h s stands =
      let unopened : IsUnopened heard says = record { unconnected = stands.unopened.unconnected; silent = s ∙ stands.unopened.silent } in
      let on : IsWaiting called kind2 heard says = record { kind_is = k ∙ stands.kind_is; gone = stands.gone; unopened = unopened; uncalled = stands.uncalled } in
      subst (λ (g : Stage S). StandsAt opens answers tells called g kind2 hears says) (sym is)
      (subst (λ (l : List Incoming). IsWaiting called kind2 l says) (sym h) on)

  module _ (called called_after : List (Opened S)) (kind kind2 : Kind) (heard hears : List Incoming) (said says : List Outgoing) (event : Incoming) (k : kind2 ≡ kind) (s : says ≡ said)
      (came : hears ≡ heard ++ event ∷ []) (stands : IsWaiting called kind heard said) where
    unopened_by : is_connect event ≡ false → IsUnopened hears says
    unopened_by other = record {
      unconnected = subst (λ (l : List Incoming). list_any is_connect l ≡ false) (sym came) (unconnected-append heard event stands.unopened.unconnected other);
      silent = s ∙ stands.unopened.silent;
    }

    -- the event is no part of a session
    pub waits_more : (stage : Stage S) → Waits opens event called called_after (Passed stage) → StandsAt opens answers tells called_after stage kind2 hears says
    waits_more stage is =
        let on : IsWaiting called_after kind2 hears says = record {
          kind_is = k ∙ stands.kind_is;
          gone = subst (λ (l : List Incoming). has_disconnect l ≡ false) (sym came) (connected-append heard event stands.gone is.1);
          unopened = unopened_by is.0;
          uncalled = is.3 ∙ stands.uncalled;
        } in
        subst (λ (g : Stage S). StandsAt opens answers tells called_after g kind2 hears says) (sym is.2) on

    -- the session was opened
    pub waited : (stage : Stage S) → Waits opens event called called_after (Turn stage) → StandsAt opens answers tells called_after stage kind2 hears says
    waited stage is =
        let opened = is.1.0 in
        let now : List Incoming = heard ++ WsConnect ∷ [] in
        let each : Answered answers tells [] (messages_of now) (session_of opened) (session_of opened) = (messages-opens heard stands.unopened.unconnected, refl) in
        let answered : HasAnswered opens answers tells now (session_of opened) = record {
          connected = opens-append heard;
          opened = opened;
          allowed = is.1.1;
          given = [];
          each = each;
        } in
        let on : IsInTurn opens answers tells (session_of opened) (opening_events opened) called_after kind2 now says = record {
          kind_is = k ∙ stands.kind_is;
          gone = connected-append heard WsConnect stands.gone refl;
          answered = answered;
          once = is.1.2 ∙ ap (λ (l : List (Opened S)). l ++ opened ∷ []) stands.uncalled;
          in_order = ap (λ (l : List Outgoing). l ++ opening_events opened) (s ∙ stands.unopened.silent) ∙ sym (append-nil (opening_events opened));
          in_turn = (says, refl);
        } in
        let same : hears ≡ now = came ∙ ap (λ (e : Incoming). heard ++ e ∷ []) is.0 in
        subst (λ (l : List Incoming). StandsAt opens answers tells called_after stage kind2 l says) (sym same)
        (turn_stands stage (session_of opened) (opening_events opened) called_after kind2 now says is.1.3 on)

    -- the client is gone
    pub waited_end : Waits opens event called called_after Gone → AnswersSession opens answers tells fails hears says (Some Returned)
    waited_end is =
        let gone : HeardDisconnect hears = record { before = heard; last = event; in_order = came; ends = is.1; first = stands.gone } in
        inl (unopened_by is.0, gone)

    -- the talker has failed
    pub waited_fault : AnswersSession opens answers tells fails hears says (Some Faulted)
    waited_fault =
        let unopened : IsUnopened heard says = record { unconnected = stands.unopened.unconnected; silent = s ∙ stands.unopened.silent } in
        let failed : HasFailed opens answers tells hears says = record { before = heard; last = event; in_order = came; so_far = inl unopened } in
        inr (inl failed)

  -- ---- an open session

  -- nothing was received
  pub listens_on : (session : S) (called : List (Opened S)) (kind kind2 : Kind) (heard hears : List Incoming) (said says : List Outgoing) → kind2 ≡ kind → hears ≡ heard → says ≡ said
      → IsInTurn opens answers tells (Some session) [] called kind heard said → IsInTurn opens answers tells (Some session) [] called kind2 hears says
  listens_on session called kind kind2 heard hears said says k h s stands =
      subst (λ (x : Kind). IsInTurn opens answers tells (Some session) [] called x hears says) (sym k)
      (subst (λ (l : List Incoming). IsInTurn opens answers tells (Some session) [] called kind l says) (sym h)
      (subst (λ (l : List Outgoing). IsInTurn opens answers tells (Some session) [] called kind heard l) (sym s) stands))

  module _ (session : S) (called : List (Opened S)) (kind kind2 : Kind) (heard hears : List Incoming) (said says : List Outgoing) (event : Incoming) (k : kind2 ≡ kind) (s : says ≡ said)
      (came : hears ≡ heard ++ event ∷ []) (stands : IsInTurn opens answers tells (Some session) [] called kind heard said) where
    all_said : says ≡ due stands.answered.opened stands.answered.given
    all_said = s ∙ sym (append-nil said) ∙ stands.in_order

    -- an event that is no message changes no answer
    unanswered : payloads_of (event ∷ []) ≡ [] → Answered answers tells stands.answered.given (messages_of (heard ++ event ∷ [])) (session_of stands.answered.opened) (Some session)
    unanswered none =
        let same : messages_of (heard ++ event ∷ []) ≡ messages_of heard =
        messages-append heard event stands.answered.connected ∙ ap (λ (l : List Payload). messages_of heard ++ l) none ∙ append-nil (messages_of heard) in
        subst (λ (l : List Payload). Answered answers tells stands.answered.given l (session_of stands.answered.opened) (Some session)) (sym same) stands.answered.each

    pub listens_more : (stage : Stage S) → Hears answers session event (Passed stage) → StandsAt opens answers tells called stage kind2 hears says
    listens_more stage is =
        let answered : HasAnswered opens answers tells (heard ++ event ∷ []) (Some session) = record {
          connected = open-append heard event stands.answered.connected;
          opened = stands.answered.opened;
          allowed = stands.answered.allowed;
          given = stands.answered.given;
          each = unanswered is.0;
        } in
        let on : IsInTurn opens answers tells (Some session) [] called kind2 (heard ++ event ∷ []) says = record {
          kind_is = k ∙ stands.kind_is;
          gone = connected-append heard event stands.gone is.1;
          answered = answered;
          once = stands.once;
          in_order = append-nil says ∙ all_said;
          in_turn = subst (λ (l : List Outgoing). IsPrefix (due_before stands.answered.opened stands.answered.given) l) (sym s) stands.in_turn;
        } in
        subst (λ (g : Stage S). StandsAt opens answers tells called g kind2 hears says) (sym is.2)
        (subst (λ (l : List Incoming). IsInTurn opens answers tells (Some session) [] called kind2 l says) (sym came) on)

    -- a message was answered
    pub listened : (stage : Stage S) → Hears answers session event (Turn stage) → StandsAt opens answers tells called stage kind2 hears says
    listened stage is =
        let message = is.0 in
        let next = is.2.0 in
        let answer = is.2.1 in
        let opened = stands.answered.opened in
        let given = stands.answered.given in
        let now : List Incoming = heard ++ WsReceive message ∷ [] in
        let more : List Given = given ++ Replied answer ∷ [] in
        let each : Answered answers tells more (messages_of now) (session_of opened) (session_after answer next) =
        subst (λ (l : List Payload). Answered answers tells more l (session_of opened) (session_after answer next))
        (sym (messages-append heard (WsReceive message) stands.answered.connected))
        (answered-append answers tells session next answer given (messages_of heard) (session_of opened) message stands.answered.each is.2.2) in
        let answered : HasAnswered opens answers tells now (session_after answer next) = record {
          connected = open-append heard (WsReceive message) stands.answered.connected;
          opened = opened;
          allowed = stands.answered.allowed;
          given = more;
          each = each;
        } in
        let on : IsInTurn opens answers tells (session_after answer next) (answer_events answer) called kind2 now says = record {
          kind_is = k ∙ stands.kind_is;
          gone = connected-append heard (WsReceive message) stands.gone refl;
          answered = answered;
          once = stands.once;
          in_order = ap (λ (l : List Outgoing). l ++ answer_events answer) all_said ∙ sym (due-append opened given (Replied answer));
          in_turn = ([], append-nil (due_before opened more) ∙ due_before-append opened given (Replied answer) ∙ sym all_said);
        } in
        let same : hears ≡ now = came ∙ ap (λ (e : Incoming). heard ++ e ∷ []) is.1 in
        subst (λ (l : List Incoming). StandsAt opens answers tells called stage kind2 l says) (sym same)
        (turn_stands stage (session_after answer next) (answer_events answer) called kind2 now says is.2.3 on)

    -- the client is gone
    pub listened_end : Hears answers session event Gone → AnswersSession opens answers tells fails hears says (Some Returned)
    listened_end is =
        let answered : HasAnswered opens answers tells (heard ++ event ∷ []) (Some session) = record {
          connected = open-append heard event stands.answered.connected;
          opened = stands.answered.opened;
          allowed = stands.answered.allowed;
          given = stands.answered.given;
          each = unanswered is.0;
        } in
        let all : HasSaidAll opens answers tells (heard ++ event ∷ []) says (Some session) = record { answered = answered; all = all_said } in
        let gone : HeardDisconnect (heard ++ event ∷ []) = record { before = heard; last = event; in_order = refl; ends = is.1; first = stands.gone } in
        let talked : HasTalked opens answers tells (heard ++ event ∷ []) says = record { session = Some session; said_all = all; over = inr gone } in
        inr (subst (λ (l : List Incoming). HasTalked opens answers tells l says) (sym came) talked)

    -- the session has failed
    pub listened_fault : AnswersSession opens answers tells fails hears says (Some Faulted)
    listened_fault =
        let all : HasSaidAll opens answers tells heard says (Some session) = record { answered = stands.answered; all = all_said } in
        let failed : HasFailed opens answers tells hears says = record { before = heard; last = event; in_order = came; so_far = inr (session, all) } in
        inr (inl failed)

  -- nothing was received, and the session was asked
  module _ (session : S) (called : List (Opened S)) (kind kind2 : Kind) (heard hears : List Incoming) (said says : List Outgoing) (k : kind2 ≡ kind) (h : hears ≡ heard) (s : says ≡ said)
      (stands : IsInTurn opens answers tells (Some session) [] called kind heard said) where
    asked : IsInTurn opens answers tells (Some session) [] called kind2 hears says
    asked = listens_on session called kind kind2 heard hears said says k h s stands

    still_said : says ≡ due asked.answered.opened asked.answered.given
    still_said = sym (append-nil says) ∙ asked.in_order

    -- what it says is sent next
    pub told : (stage : Stage S) → Speaks tells session stage → StandsAt opens answers tells called stage kind2 hears says
    told stage is =
        let next = is.0 in
        let answer = is.1 in
        let opened = asked.answered.opened in
        let given = asked.answered.given in
        let more : List Given = given ++ Unasked answer ∷ [] in
        let answered : HasAnswered opens answers tells hears (session_after answer next) = record {
          connected = asked.answered.connected;
          opened = opened;
          allowed = asked.answered.allowed;
          given = more;
          each = told-append answers tells session next answer given (messages_of hears) (session_of opened) asked.answered.each is.2;
        } in
        let on : IsInTurn opens answers tells (session_after answer next) (answer_events answer) called kind2 hears says = record {
          kind_is = asked.kind_is;
          gone = asked.gone;
          answered = answered;
          once = asked.once;
          in_order = ap (λ (l : List Outgoing). l ++ answer_events answer) still_said ∙ sym (due-append opened given (Unasked answer));
          in_turn = ([], append-nil (due_before opened more) ∙ due_before-append opened given (Unasked answer) ∙ sym still_said);
        } in
        turn_stands stage (session_after answer next) (answer_events answer) called kind2 hears says is.3 on

    -- the session has failed
    pub told_fault : fails session → AnswersSession opens answers tells fails hears says (Some Faulted)
    told_fault failed =
        let all : HasSaidAll opens answers tells hears says (Some session) = record { answered = asked.answered; all = still_said } in
        let silent : HasFallenSilent opens answers tells fails hears says = record { session = session; said_all = all; failed = failed } in
        inr (inr (inr silent))
