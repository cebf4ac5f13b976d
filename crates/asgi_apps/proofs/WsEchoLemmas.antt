-- What `WsEcho` sends in a session is lawful, and grows with what it receives.
use Rattle.std.proofs.Common.{◌≡◌, Bool, true, false, List, [], ◌∷◌, ◌++◌, None, refl, ap, sym, subst, inl}
use Rattle.std.specs.Prelude.{map, ◌||◌}
use Rattle.std.specs.List.{list_any}
use Rattle.asgi_types.specs.declared.scope.Kind.{Kind}
use Rattle.asgi_types.specs.declared.scope.Kind.TheVariants.{WebSocket}
use Rattle.asgi_types.specs.declared.facts.Facts.{Facts}
use Rattle.asgi_types.specs.declared.incoming.Payload.{Payload}
use Rattle.asgi_types.specs.declared.incoming.Incoming.{Incoming}
use Rattle.asgi_types.specs.declared.incoming.Incoming.TheVariants.{HttpRequest, HttpDisconnect, WsConnect, WsReceive, WsDisconnect, LifespanStartup, LifespanShutdown}
use Rattle.asgi_types.specs.declared.outgoing.Outgoing.{Outgoing}
use Rattle.asgi_types.specs.declared.outgoing.Outgoing.TheVariants.{WsAccept, WsClose, WsSend}
use Rattle.asgi_protocol.specs.declared.verdict.Verdict.TheVariants.{Pass}
use Rattle.asgi_protocol.specs.Lawful.{IsLawful}
use Rattle.asgi_protocol.specs.Rules.{MeetsRules}
use Rattle.asgi_protocol.specs.Verdicts.{is_disconnect, verdict_on}
use Rattle.asgi_protocol.proofs.LawLemmas.{lawful_where_each_passes}
use Rattle.asgi_pipes.specs.Disconnects.{has_disconnect}
use Rattle.asgi_apps.specs.WsEcho.{accept_events, messages_of, session_echo}
use Rattle.asgi_apps.specs.WsEchoing.{is_connect, reply}

-- what one more event adds, after "Connect"
messages-append : (heard : List Incoming) (event : Incoming) → has_disconnect heard ≡ false → messages_of (heard ++ event ∷ []) ≡ messages_of heard ++ reply true event
messages-append [] (HttpRequest b m) h = refl
messages-append [] HttpDisconnect h = refl
messages-append [] WsConnect h = refl
messages-append [] (WsReceive p) h = refl
messages-append [] (WsDisconnect c r) h = refl
messages-append [] LifespanStartup h = refl
messages-append [] LifespanShutdown h = refl
messages-append (HttpRequest b m ∷ heard) event h = messages-append heard event h
messages-append (HttpDisconnect ∷ heard) event h = absurd (cc)
messages-append (WsConnect ∷ heard) event h = messages-append heard event h
messages-append (WsReceive p ∷ heard) event h = ap (λ l. WsSend p ∷ l) (messages-append heard event h)
messages-append (WsDisconnect c r ∷ heard) event h = absurd (cc)
messages-append (LifespanStartup ∷ heard) event h = messages-append heard event h
messages-append (LifespanShutdown ∷ heard) event h = messages-append heard event h

-- and after any events that are no disconnect
pub session-append : (heard : List Incoming) (event : Incoming) → has_disconnect heard ≡ false
    → session_echo (heard ++ event ∷ []) ≡ session_echo heard ++ reply (list_any is_connect heard) event
session-append [] (HttpRequest b m) h = refl
session-append [] HttpDisconnect h = refl
session-append [] WsConnect h = refl
session-append [] (WsReceive p) h = refl
session-append [] (WsDisconnect c r) h = refl
session-append [] LifespanStartup h = refl
session-append [] LifespanShutdown h = refl
session-append (HttpRequest b m ∷ heard) event h = session-append heard event h
session-append (HttpDisconnect ∷ heard) event h = absurd (cc)
session-append (WsConnect ∷ heard) event h = ap (λ l. accept_events ++ l) (messages-append heard event h)
session-append (WsReceive p ∷ heard) event h = session-append heard event h
session-append (WsDisconnect c r ∷ heard) event h = absurd (cc)
session-append (LifespanStartup ∷ heard) event h = session-append heard event h
session-append (LifespanShutdown ∷ heard) event h = session-append heard event h

pub connect-append : (heard : List Incoming) (event : Incoming) → list_any is_connect (heard ++ event ∷ []) ≡ (list_any is_connect heard || is_connect event)
connect-append [] (HttpRequest b m) = refl
connect-append [] HttpDisconnect = refl
connect-append [] WsConnect = refl
connect-append [] (WsReceive p) = refl
connect-append [] (WsDisconnect c r) = refl
connect-append [] LifespanStartup = refl
connect-append [] LifespanShutdown = refl
connect-append (HttpRequest b m ∷ heard) event = connect-append heard event
connect-append (HttpDisconnect ∷ heard) event = connect-append heard event
connect-append (WsConnect ∷ heard) event = refl
connect-append (WsReceive p ∷ heard) event = connect-append heard event
connect-append (WsDisconnect c r ∷ heard) event = connect-append heard event
connect-append (LifespanStartup ∷ heard) event = connect-append heard event
connect-append (LifespanShutdown ∷ heard) event = connect-append heard event

-- a disconnect is answered with nothing
pub disconnect_is_silent : (was : Bool) (event : Incoming) → is_disconnect event ≡ true → reply was event ≡ []
disconnect_is_silent true HttpDisconnect h = refl
disconnect_is_silent false HttpDisconnect h = refl
disconnect_is_silent true (WsDisconnect c r) h = refl
disconnect_is_silent false (WsDisconnect c r) h = refl
disconnect_is_silent was (HttpRequest b m) h = absurd (cc)
disconnect_is_silent was WsConnect h = absurd (cc)
disconnect_is_silent was (WsReceive p) h = absurd (cc)
disconnect_is_silent was LifespanStartup h = absurd (cc)
disconnect_is_silent was LifespanShutdown h = absurd (cc)

payloads_of : List Incoming → List Payload
payloads_of [] = []
payloads_of (WsReceive p ∷ heard) = p ∷ payloads_of heard
payloads_of (HttpRequest b m ∷ heard) = payloads_of heard
payloads_of (HttpDisconnect ∷ heard) = []
payloads_of (WsConnect ∷ heard) = payloads_of heard
payloads_of (WsDisconnect c r ∷ heard) = []
payloads_of (LifespanStartup ∷ heard) = payloads_of heard
payloads_of (LifespanShutdown ∷ heard) = payloads_of heard

messages_are_payloads : (heard : List Incoming) → messages_of heard ≡ map WsSend (payloads_of heard)
unfolding payloads_of
messages_are_payloads [] = refl
messages_are_payloads (WsReceive p ∷ heard) = ap (λ l. WsSend p ∷ l) (messages_are_payloads heard)
messages_are_payloads (HttpRequest b m ∷ heard) = messages_are_payloads heard
messages_are_payloads (HttpDisconnect ∷ heard) = refl
messages_are_payloads (WsConnect ∷ heard) = messages_are_payloads heard
messages_are_payloads (WsDisconnect c r ∷ heard) = refl
messages_are_payloads (LifespanStartup ∷ heard) = messages_are_payloads heard
messages_are_payloads (LifespanShutdown ∷ heard) = messages_are_payloads heard

send_meets : (facts : Facts) (payloads : List Payload) (said before after : List Outgoing) (event : Outgoing) → map WsSend payloads ≡ before ++ event ∷ after → MeetsRules facts said event
send_meets facts [] said [] after event split = absurd (cc)
send_meets facts [] said (x ∷ before) after event split = absurd (cc)
send_meets facts (p ∷ payloads) said [] after event split =
    let same : WsSend p ≡ event = cc in
    subst (λ (e : Outgoing). MeetsRules facts said e) same
    (record { status = refl; header = refl; code = refl; reason = refl; subprotocol = refl; not_too_much = refl; not_too_little = refl })
send_meets facts (p ∷ payloads) said (x ∷ before) after event split =
    let rest : map WsSend payloads ≡ before ++ event ∷ after = cc in send_meets facts payloads said before after event rest

each : (facts : Facts) (payloads : List Payload) (before after : List Outgoing) (event : Outgoing)
    → WsAccept None [] ∷ map WsSend payloads ≡ before ++ event ∷ after → MeetsRules facts before event
each facts payloads [] after event split =
    let same : WsAccept None [] ≡ event = cc in
    subst (λ (e : Outgoing). MeetsRules facts [] e) same
    (record { status = refl; header = refl; code = refl; reason = refl; subprotocol = refl; not_too_much = refl; not_too_little = refl })
each facts payloads (x ∷ before) after event split =
    let rest : map WsSend payloads ≡ before ++ event ∷ after = cc in send_meets facts payloads (x ∷ before) before after event rest

accepted_is_lawful : (facts : Facts) (payloads : List Payload) → IsLawful WebSocket facts (WsAccept None [] ∷ map WsSend payloads)
accepted_is_lawful facts payloads = record {
  begins = (
    WsClose 1000 [] ∷ [],
    inl (record { subprotocol = None; headers = []; messages = payloads; code = 1000; reason = []; in_order = refl }),
  );
  each = each facts payloads;
}

nothing_is_split : (facts : Facts) (before after : List Outgoing) (event : Outgoing) → [] ≡ before ++ event ∷ after → MeetsRules facts before event
nothing_is_split facts [] after event split = absurd (cc)
nothing_is_split facts (x ∷ before) after event split = absurd (cc)

silence_is_lawful : (facts : Facts) → IsLawful WebSocket facts []
silence_is_lawful facts = record {
  begins = (
    WsAccept None [] ∷ WsClose 1000 [] ∷ [],
    inl (record { subprotocol = None; headers = []; messages = []; code = 1000; reason = []; in_order = refl }),
  );
  each = nothing_is_split facts;
}

-- The echo of a session is lawful, whatever was received.
session_is_lawful : (facts : Facts) (heard : List Incoming) → IsLawful WebSocket facts (session_echo heard)
session_is_lawful facts [] = silence_is_lawful facts
session_is_lawful facts (WsConnect ∷ heard) =
    subst (λ (l : List Outgoing). IsLawful WebSocket facts (WsAccept None [] ∷ l)) (sym (messages_are_payloads heard)) (accepted_is_lawful facts (payloads_of heard))
session_is_lawful facts (HttpRequest b m ∷ heard) = session_is_lawful facts heard
session_is_lawful facts (HttpDisconnect ∷ heard) = silence_is_lawful facts
session_is_lawful facts (WsReceive p ∷ heard) = session_is_lawful facts heard
session_is_lawful facts (WsDisconnect c r ∷ heard) = silence_is_lawful facts
session_is_lawful facts (LifespanStartup ∷ heard) = session_is_lawful facts heard
session_is_lawful facts (LifespanShutdown ∷ heard) = session_is_lawful facts heard

-- so what comes next in it passes
pub next_passes : (kind : Kind) (facts : Facts) (heard : List Incoming) (said : List Outgoing) (event : Outgoing)
    → kind ≡ WebSocket → has_disconnect heard ≡ false → said ++ event ∷ [] ≡ session_echo heard
    → verdict_on kind facts said (has_disconnect heard) event ≡ Pass
next_passes kind facts heard said event is_session connected in_order =
    rw (is_session, connected)
    ((lawful_where_each_passes WebSocket facts (said ++ event ∷ [])).0
    (subst (λ (l : List Outgoing). IsLawful WebSocket facts l) (sym in_order) (session_is_lawful facts heard)) said [] event refl)
