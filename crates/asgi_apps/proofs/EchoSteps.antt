-- What each poll makes of a task that echoes.
use Rattle.std.proofs.Common.{◌≡◌, Bool, true, false, List, [], ◌∷◌, ◌++◌, Option, Some, None, refl, ap, sym, ◌∙◌, subst, append-nil}
use Rattle.std.specs.Prelude.{not, codes}
use Rattle.std.specs.Option.{option_to_list}
use Rattle.http_header.specs.FieldValue.{IsFieldValue}
use Rattle.http_header.specs.Token.{is_value_byte}
use Rattle.std.proofs.lemmas.List.Sums.{AllPass-from_list_all}
use Rattle.asgi_types.specs.declared.scope.Kind.{Kind}
use Rattle.asgi_types.specs.declared.scope.Kind.TheVariants.{Http, WebSocket}
use Rattle.asgi_types.specs.declared.facts.Facts.{Facts}
use Rattle.asgi_types.specs.declared.incoming.Incoming.{Incoming}
use Rattle.asgi_types.specs.declared.outgoing.Outgoing.{Outgoing}
use Rattle.asgi_protocol.specs.declared.verdict.Verdict.TheVariants.{Pass}
use Rattle.asgi_protocol.specs.Lawful.{IsLawful}
use Rattle.asgi_protocol.specs.Verdicts.{verdict_on}
use Rattle.asgi_protocol.proofs.LawLemmas.{lawful_where_each_passes}
use Rattle.asgi_pipes.specs.Disconnects.{has_disconnect}
use Rattle.asgi_types.specs.declared.end_kind.EndKind.TheVariants.{Returned}
use Rattle.asgi_apps.specs.declared.echo.Reaction.TheVariants.{Says, Returns, Listens}
use Rattle.asgi_apps.specs.Answers.{Answers, close_events, start_of}
use Rattle.asgi_apps.specs.Echo.{echo_answer, echo_events, EchoAnswers}
use Rattle.asgi_apps.specs.Echoing.{ReactsTo, StandsAt}
use Rattle.asgi_apps.proofs.AnswerLemmas.{close_is_lawful, one_passes}
use Rattle.asgi_apps.proofs.EchoLemmas.{bodies-append, connected-append, echo_is_lawful, unended-append}

pub octet_stream_is_a_value : IsFieldValue (codes "application/octet-stream")
octet_stream_is_a_value = AllPass-from_list_all is_value_byte (codes "application/octet-stream") refl

pub stays : (own kind kind2 : Kind) (waiting : Option Outgoing) (listens : Bool) (heard heard2 : List Incoming) (said said2 : List Outgoing)
    → kind2 ≡ kind → heard2 ≡ heard → said2 ≡ said → StandsAt own waiting listens kind heard said → StandsAt own waiting listens kind2 heard2 said2
stays own kind kind2 waiting listens heard heard2 said said2 k h s stands =
    subst (λ (x : Kind). StandsAt own waiting listens x heard2 said2) (sym k)
    (subst (λ (x : List Incoming). StandsAt own waiting listens kind x said2) (sym h)
    (subst (λ (x : List Outgoing). StandsAt own waiting listens kind heard x) (sym s) stands))

module _ (own kind : Kind) (heard : List Incoming) (said : List Outgoing) where
  pub begun_http : own ≡ Http → kind ≡ Http → heard ≡ [] → said ≡ [] → StandsAt own (Some (start_of 200 (codes "content-type") (codes "application/octet-stream"))) true kind heard said
  begun_http o k h s = rw (o, k, h, s) (record {
    kind_is = refl;
    connected = refl;
    in_order = refl;
    lawful = λ facts. (lawful_where_each_passes Http facts _).1 (one_passes Http facts _ refl);
    goes_on = λ e. (refl, refl);
    heard_all = λ e. absurd (cc);
  })

  pub begun_session : own ≡ WebSocket → kind ≡ WebSocket → heard ≡ [] → said ≡ [] → (event : Outgoing) → close_events ≡ event ∷ [] → StandsAt own (Some event) false kind heard said
  begun_session o k h s event is = rw (o, k, h, s) (record {
    kind_is = refl;
    connected = refl;
    in_order = ap (λ l. Some l) is;
    lawful = λ facts. subst (λ (l : List Outgoing). IsLawful WebSocket facts l) is (close_is_lawful facts);
    goes_on = λ e. absurd (cc);
    heard_all = λ e http. absurd (cc);
  })

  -- what waits passes
  pub waiting_passes : (waiting : Option Outgoing) (event : Outgoing) (listens : Bool) (facts : Facts) → waiting ≡ Some event → StandsAt own waiting listens kind heard said
      → verdict_on kind facts said (has_disconnect heard) event ≡ Pass
  waiting_passes waiting event listens facts is stands =
      let lawful = subst (λ (k : Kind). IsLawful k facts (said ++ event ∷ [])) stands.kind_is (subst (λ (w : Option Outgoing). IsLawful own facts (said ++ option_to_list w)) is (stands.lawful facts)) in
      rw stands.connected ((lawful_where_each_passes kind facts (said ++ event ∷ [])).0 lawful said [] event refl)

  -- it was sent, or waits on
  pub said_it : (waiting left : Option Outgoing) (event : Outgoing) (listens : Bool) (after : List Outgoing) → waiting ≡ Some event
      → after ++ option_to_list left ≡ said ++ event ∷ [] → StandsAt own waiting listens kind heard said → StandsAt own left listens kind heard after
  said_it waiting left event listens after is put stands =
      let same : said ++ option_to_list waiting ≡ after ++ option_to_list left = ap (λ w. said ++ option_to_list w) is ∙ sym put in
      record {
        kind_is = stands.kind_is;
        connected = stands.connected;
        in_order = stands.in_order ∙ ap (λ l. Some l) same;
        lawful = λ facts. subst (λ (l : List Outgoing). IsLawful own facts l) same (stands.lawful facts);
        goes_on = stands.goes_on;
        heard_all = stands.heard_all;
      }

  -- a body was received, and is to be sent
  pub heard_body : (event : Incoming) (answer : Outgoing) (listens : Bool) (hears : List Incoming) → hears ≡ heard ++ event ∷ [] → ReactsTo event (Says answer listens)
      → StandsAt own None true kind heard said → StandsAt own (Some answer) listens kind hears said
  heard_body event answer listens hears came reacts stands =
      let on = stands.goes_on refl in
      let begun : Some (echo_events heard) ≡ Some (said ++ []) = subst (λ (k : Kind). echo_answer k heard ≡ Some (said ++ [])) on.0 stands.in_order in
      let so_far : echo_events heard ≡ said = cc (begun, append-nil said) in
      let grown : echo_events hears ≡ said ++ answer ∷ [] =
      ap echo_events came ∙ ap (λ l. start_of 200 (codes "content-type") (codes "application/octet-stream") ∷ l) (bodies-append heard (event ∷ []))
      ∙ ap (λ l. echo_events heard ++ l) reacts.2 ∙ ap (λ l. l ++ answer ∷ []) so_far in
      record {
        kind_is = stands.kind_is;
        connected = rw came (connected-append heard event stands.connected reacts.3);
        in_order = rw on.0 (ap (λ l. Some l) grown);
        lawful = λ facts. rw (on.0, sym so_far, reacts.1) (echo_is_lawful facts heard reacts.0 listens on.1);
        goes_on = λ e. (on.0, rw came (unended-append heard event on.1 (reacts.4 ∙ ap not e)));
        heard_all = λ e http. record { before = heard; last = event; in_order = came; ends = reacts.4 ∙ ap not e };
      }

  -- another event was received
  pub heard_other : (event : Incoming) (hears : List Incoming) → hears ≡ heard ++ event ∷ [] → ReactsTo event Listens
      → StandsAt own None true kind heard said → StandsAt own None true kind hears said
  heard_other event hears came reacts stands =
      let on = stands.goes_on refl in
      let begun : Some (echo_events heard) ≡ Some (said ++ []) = subst (λ (k : Kind). echo_answer k heard ≡ Some (said ++ [])) on.0 stands.in_order in
      let grown : echo_events hears ≡ said ++ [] =
      ap echo_events came ∙ ap (λ l. start_of 200 (codes "content-type") (codes "application/octet-stream") ∷ l) (bodies-append heard (event ∷ []))
      ∙ ap (λ l. echo_events heard ++ l) reacts.0 ∙ append-nil (echo_events heard) ∙ (cc begun) in
      record {
        kind_is = stands.kind_is;
        connected = rw came (connected-append heard event stands.connected reacts.1);
        in_order = rw on.0 (ap (λ l. Some l) grown);
        lawful = stands.lawful;
        goes_on = λ e. (on.0, rw came (unended-append heard event on.1 reacts.2));
        heard_all = λ e. absurd (cc);
      }

  -- the request ended
  pub heard_end : (event : Incoming) (hears : List Incoming) → hears ≡ heard ++ event ∷ [] → ReactsTo event Returns
      → StandsAt own None true kind heard said → EchoAnswers own hears said (Some Returned)
  heard_end event hears came reacts stands =
      let on = stands.goes_on refl in
      let begun : Some (echo_events heard) ≡ Some (said ++ []) = subst (λ (k : Kind). echo_answer k heard ≡ Some (said ++ [])) on.0 stands.in_order in
      let grown : echo_events hears ≡ said =
      ap echo_events came ∙ ap (λ l. start_of 200 (codes "content-type") (codes "application/octet-stream") ∷ l) (bodies-append heard (event ∷ []))
      ∙ ap (λ l. echo_events heard ++ l) reacts.0 ∙ append-nil (echo_events heard) ∙ cc (begun, append-nil said) in
      (rw on.0 (sym grown), λ http. record { before = heard; last = event; in_order = came; ends = reacts.1 })

  -- all was sent
  pub said_all : StandsAt own None false kind heard said → EchoAnswers own heard said (Some Returned)
  said_all stands =
      (subst (λ answer. Answers answer heard said (Some Returned)) (sym stands.in_order) (sym (append-nil said)), stands.heard_all refl)

  pub so_far : (waiting : Option Outgoing) (listens : Bool) → StandsAt own waiting listens kind heard said → EchoAnswers own heard said None
  so_far waiting listens stands =
      (subst (λ answer. Answers answer heard said None) (sym stands.in_order) (option_to_list waiting, refl), tt)

-- it listens, and nothing waits
pub listening : (own kind kind2 : Kind) (waiting : Option Outgoing) (listens : Bool) (heard : List Incoming) (said said2 : List Outgoing)
    → waiting ≡ None → listens ≡ true → kind2 ≡ kind → said2 ≡ said → StandsAt own waiting listens kind heard said → StandsAt own None true kind2 heard said2
listening own kind kind2 waiting listens heard said said2 w l k s stands =
    stays own kind kind2 None true heard heard said said2 k refl s
    (subst (λ (x : Bool). StandsAt own None x kind heard said) l (subst (λ (x : Option Outgoing). StandsAt own x listens kind heard said) w stands))
