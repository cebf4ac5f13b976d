-- What each poll makes of a session that echoes.
use Rattle.std.proofs.Common.{◌≡◌, Bool, true, false, List, [], ◌∷◌, ◌++◌, Some, None, refl, ap, sym, ◌∙◌, append-nil}
use Rattle.std.specs.Prelude.{not, ◌||◌}
use Rattle.std.specs.List.{list_any}
use Rattle.std.specs.Option.{option_to_list}
use Rattle.asgi_types.specs.declared.scope.Kind.{Kind}
use Rattle.asgi_types.specs.declared.facts.Facts.{Facts}
use Rattle.asgi_types.specs.declared.incoming.Incoming.{Incoming}
use Rattle.asgi_types.specs.declared.outgoing.Outgoing.{Outgoing}
use Rattle.asgi_types.specs.declared.end_kind.EndKind.TheVariants.{Returned}
use Rattle.asgi_protocol.specs.declared.verdict.Verdict.TheVariants.{Pass}
use Rattle.asgi_protocol.specs.Verdicts.{is_disconnect, verdict_on}
use Rattle.asgi_pipes.specs.Disconnects.{has_disconnect}
use Rattle.asgi_apps.specs.declared.ws_echo.Session.{Session}
use Rattle.asgi_apps.specs.WsEcho.{SessionAnswers, session_echo}
use Rattle.asgi_apps.specs.WsEchoing.{SessionStands, is_connect, reply}
use Rattle.asgi_apps.proofs.EchoLemmas.{connected-append}
use Rattle.asgi_apps.proofs.WsEchoLemmas.{connect-append, disconnect_is_silent, next_passes, session-append}

other_way : (a b : Bool) → a ≡ not b → b ≡ not a
other_way true true is = absurd (cc)
other_way true false is = refl
other_way false true is = refl
other_way false false is = absurd (cc)

module _ (session : Session) (kind : Kind) (heard : List Incoming) (said : List Outgoing) (stands : SessionStands session kind heard said) where
  -- what waits passes
  pub waiting_passes : (facts : Facts) (event : Outgoing) → session.waiting ≡ Some event → verdict_on kind facts said (has_disconnect heard) event ≡ Pass
  waiting_passes facts event is =
      next_passes kind facts heard said event stands.kind_is stands.connected (ap (λ w. said ++ option_to_list w) (sym is) ∙ stands.in_order)

  -- an event was received while nothing waited
  module _ (event : Incoming) (hears : List Incoming) (says : List Outgoing) (goes_on : Bool) (nothing : session.waiting ≡ None) (came : hears ≡ heard ++ event ∷ [])
      (same : says ≡ said) (goes : goes_on ≡ not (is_disconnect event)) where
    echoed : says ≡ session_echo heard
    echoed = same ∙ sym (append-nil said) ∙ ap (λ w. said ++ option_to_list w) (sym nothing) ∙ stands.in_order

    grown : session_echo hears ≡ session_echo heard ++ reply session.is_connected event
    grown = ap session_echo came ∙ session-append heard event stands.connected ∙ ap (λ was. session_echo heard ++ reply was event) (sym stands.is_connected)

    -- the session goes on
    pub heard_more : (new : Session) (kind2 : Kind) → goes_on ≡ true → kind2 ≡ kind
        → option_to_list new.waiting ≡ reply session.is_connected event → new.is_connected ≡ (session.is_connected || is_connect event)
        → SessionStands new kind2 hears says
    heard_more new kind2 on k replies connects = record {
      kind_is = k ∙ stands.kind_is;
      connected = rw came (connected-append heard event stands.connected (other_way goes_on (is_disconnect event) goes ∙ ap not on));
      is_connected = connects ∙ ap (λ was. was || is_connect event) stands.is_connected ∙ sym (connect-append heard event) ∙ ap (λ l. list_any is_connect l) (sym came);
      in_order = ap (λ l. says ++ l) replies ∙ ap (λ l. l ++ reply session.is_connected event) echoed ∙ sym grown;
    }

    -- it is over
    pub heard_end : goes_on ≡ false → SessionAnswers hears says (Some Returned)
    heard_end over =
        let ends : is_disconnect event ≡ true = other_way goes_on (is_disconnect event) goes ∙ ap not over in (
          echoed ∙ sym (append-nil (session_echo heard)) ∙ ap (λ l. session_echo heard ++ l) (sym (disconnect_is_silent session.is_connected event ends)) ∙ sym grown,
          record { before = heard; last = event; in_order = came; ends = ends; first = stands.connected },
        )
