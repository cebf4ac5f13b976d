-- What `Echo` sends is lawful, and grows with what it receives.
use Rattle.std.proofs.Common.{◌≡◌, Bool, true, false, ℕ, None, List, [], ◌∷◌, ◌++◌, refl, ap, sym, ◌∙◌, subst, append-nil}
use Rattle.std.specs.Prelude.{map, ◌||◌, codes}
use Rattle.std.specs.List.{list_any}
use Rattle.asgi_types.specs.declared.scope.Kind.TheVariants.{Http}
use Rattle.asgi_types.specs.declared.facts.Facts.{Facts}
use Rattle.asgi_types.specs.declared.incoming.Incoming.{Incoming}
use Rattle.asgi_types.specs.declared.incoming.Incoming.TheVariants.{HttpRequest, HttpDisconnect, WsConnect, WsReceive, WsDisconnect, LifespanStartup, LifespanShutdown}
use Rattle.asgi_types.specs.declared.outgoing.Outgoing.{Outgoing}
use Rattle.asgi_types.specs.declared.outgoing.Outgoing.TheVariants.{ResponseBody}
use Rattle.asgi_protocol.specs.Lawful.{IsLawful, BeginsWord}
use Rattle.asgi_protocol.specs.Rules.{MeetsRules}
use Rattle.asgi_protocol.specs.Verdicts.{is_disconnect}
use Rattle.asgi_pipes.specs.Disconnects.{has_disconnect}
use Rattle.asgi_apps.specs.Answers.{start_of}
use Rattle.asgi_apps.specs.Echo.{bodies_of, echo_events, ends_request}

abbrev echo_start : Outgoing
echo_start = start_of 200 (codes "content-type") (codes "application/octet-stream")

pub bodies-append : (heard more : List Incoming) → bodies_of (heard ++ more) ≡ bodies_of heard ++ bodies_of more
bodies-append [] more = refl
bodies-append (HttpRequest body m ∷ heard) more = ap (λ l. ResponseBody body m ∷ l) (bodies-append heard more)
bodies-append (HttpDisconnect ∷ heard) more = bodies-append heard more
bodies-append (WsConnect ∷ heard) more = bodies-append heard more
bodies-append (WsReceive p ∷ heard) more = bodies-append heard more
bodies-append (WsDisconnect c r ∷ heard) more = bodies-append heard more
bodies-append (LifespanStartup ∷ heard) more = bodies-append heard more
bodies-append (LifespanShutdown ∷ heard) more = bodies-append heard more

pub connected-append : (heard : List Incoming) (event : Incoming) → has_disconnect heard ≡ false → is_disconnect event ≡ false → has_disconnect (heard ++ event ∷ []) ≡ false
connected-append [] (HttpRequest body m) h e = refl
connected-append [] WsConnect h e = refl
connected-append [] (WsReceive p) h e = refl
connected-append [] LifespanStartup h e = refl
connected-append [] LifespanShutdown h e = refl
connected-append [] HttpDisconnect h e = absurd (cc)
connected-append [] (WsDisconnect c r) h e = absurd (cc)
connected-append (HttpRequest body m ∷ heard) event h e = connected-append heard event h e
connected-append (WsConnect ∷ heard) event h e = connected-append heard event h e
connected-append (WsReceive p ∷ heard) event h e = connected-append heard event h e
connected-append (LifespanStartup ∷ heard) event h e = connected-append heard event h e
connected-append (LifespanShutdown ∷ heard) event h e = connected-append heard event h e
connected-append (HttpDisconnect ∷ heard) event h e = absurd (cc)
connected-append (WsDisconnect c r ∷ heard) event h e = absurd (cc)

neither : (a b : Bool) → (a || b) ≡ false → (a ≡ false) × (b ≡ false)
neither false b h = (refl, h)
neither true b h = absurd (cc)

pub unended-append : (heard : List Incoming) (event : Incoming) → list_any ends_request heard ≡ false → ends_request event ≡ false → list_any ends_request (heard ++ event ∷ []) ≡ false
unended-append [] event h e = rw e refl
unended-append (x ∷ heard) event h e =
    let both = neither (ends_request x) (list_any ends_request heard) h in
    rw (both.0) (unended-append heard event both.1 e)

-- the parts of the bodies
parts_of : List Incoming → List (List ℕ)
parts_of [] = []
parts_of (HttpRequest body m ∷ heard) = body ∷ parts_of heard
parts_of (HttpDisconnect ∷ heard) = parts_of heard
parts_of (WsConnect ∷ heard) = parts_of heard
parts_of (WsReceive p ∷ heard) = parts_of heard
parts_of (WsDisconnect c r ∷ heard) = parts_of heard
parts_of (LifespanStartup ∷ heard) = parts_of heard
parts_of (LifespanShutdown ∷ heard) = parts_of heard

abbrev more : List ℕ → Outgoing
more part = ResponseBody part true

bodies_are_parts : (heard : List Incoming) → list_any ends_request heard ≡ false → bodies_of heard ≡ map more (parts_of heard)
unfolding parts_of
bodies_are_parts [] h = refl
bodies_are_parts (HttpRequest body true ∷ heard) h = ap (λ l. ResponseBody body true ∷ l) (bodies_are_parts heard h)
bodies_are_parts (HttpRequest body false ∷ heard) h = absurd (cc)
bodies_are_parts (HttpDisconnect ∷ heard) h = absurd (cc)
bodies_are_parts (WsConnect ∷ heard) h = bodies_are_parts heard h
bodies_are_parts (WsReceive p ∷ heard) h = bodies_are_parts heard h
bodies_are_parts (WsDisconnect c r ∷ heard) h = absurd (cc)
bodies_are_parts (LifespanStartup ∷ heard) h = bodies_are_parts heard h
bodies_are_parts (LifespanShutdown ∷ heard) h = bodies_are_parts heard h

map-one : (parts : List (List ℕ)) (part : List ℕ) → map more (parts ++ part ∷ []) ≡ map more parts ++ more part ∷ []
map-one [] part = refl
map-one (x ∷ parts) part = ap (λ l. more x ∷ l) (map-one parts part)

begins : (heard : List Incoming) (body : List ℕ) (m : Bool) → list_any ends_request heard ≡ false → BeginsWord Http (echo_events heard ++ ResponseBody body m ∷ [])
begins heard body false h = (
  [],
  record {
    status = 200;
    headers = _;
    parts = parts_of heard;
    last = body;
    trailers = None;
    in_order = append-nil _ ∙ ap (λ l. echo_start ∷ l ++ ResponseBody body false ∷ []) (bodies_are_parts heard h);
  },
)
begins heard body true h = (
  ResponseBody [] false ∷ [],
  record {
    status = 200;
    headers = _;
    parts = parts_of heard ++ body ∷ [];
    last = [];
    trailers = None;
    in_order = ap (λ l. echo_start ∷ (l ++ more body ∷ []) ++ ResponseBody [] false ∷ []) (bodies_are_parts heard h)
        ∙ ap (λ l. echo_start ∷ l ++ ResponseBody [] false ∷ []) (sym (map-one (parts_of heard) body));
  },
)

is_body : Outgoing → Bool
is_body (ResponseBody body m) = true
is_body _ = false

-- after the start there are bodies alone
only_bodies : (heard : List Incoming) (body : List ℕ) (m : Bool) (before after : List Outgoing) (event : Outgoing)
    → bodies_of heard ++ ResponseBody body m ∷ [] ≡ before ++ event ∷ after → is_body event ≡ true
unfolding is_body
only_bodies [] body m [] after event split = let same : ResponseBody body m ≡ event = cc in subst (λ (e : Outgoing). is_body e ≡ true) same refl
only_bodies [] body m (x ∷ []) after event split = absurd (cc)
only_bodies [] body m (x ∷ y ∷ before) after event split = absurd (cc)
only_bodies (HttpRequest b k ∷ heard) body m [] after event split = let same : ResponseBody b k ≡ event = cc in subst (λ (e : Outgoing). is_body e ≡ true) same refl
only_bodies (HttpRequest b k ∷ heard) body m (x ∷ before) after event split =
    let rest : bodies_of heard ++ ResponseBody body m ∷ [] ≡ before ++ event ∷ after = cc in only_bodies heard body m before after event rest
only_bodies (HttpDisconnect ∷ heard) body m before after event split = only_bodies heard body m before after event split
only_bodies (WsConnect ∷ heard) body m before after event split = only_bodies heard body m before after event split
only_bodies (WsReceive p ∷ heard) body m before after event split = only_bodies heard body m before after event split
only_bodies (WsDisconnect c r ∷ heard) body m before after event split = only_bodies heard body m before after event split
only_bodies (LifespanStartup ∷ heard) body m before after event split = only_bodies heard body m before after event split
only_bodies (LifespanShutdown ∷ heard) body m before after event split = only_bodies heard body m before after event split

start_meets : (facts : Facts) → MeetsRules facts [] echo_start
start_meets facts = record { status = refl; header = refl; code = refl; reason = refl; subprotocol = refl; not_too_much = refl; not_too_little = refl }

body_meets : (facts : Facts) (head_only m : Bool) (before : List Outgoing) (body : List ℕ) → facts.head_only ≡ head_only → MeetsRules facts (echo_start ∷ before) (ResponseBody body m)
body_meets facts true true before body is = record { status = refl; header = refl; code = refl; reason = refl; subprotocol = refl; not_too_much = rw is refl; not_too_little = refl }
body_meets facts true false before body is = record { status = refl; header = refl; code = refl; reason = refl; subprotocol = refl; not_too_much = rw is refl; not_too_little = rw is refl }
body_meets facts false true before body is = record { status = refl; header = refl; code = refl; reason = refl; subprotocol = refl; not_too_much = rw is refl; not_too_little = refl }
body_meets facts false false before body is = record { status = refl; header = refl; code = refl; reason = refl; subprotocol = refl; not_too_much = rw is refl; not_too_little = rw is refl }

meets : (facts : Facts) (before : List Outgoing) (event : Outgoing) → is_body event ≡ true → MeetsRules facts (echo_start ∷ before) event
unfolding is_body
meets facts before (ResponseBody body m) h = body_meets facts facts.head_only m before body refl
meets facts before _ h = absurd (cc)

each : (facts : Facts) (heard : List Incoming) (body : List ℕ) (m : Bool) (before after : List Outgoing) (event : Outgoing)
    → echo_events heard ++ ResponseBody body m ∷ [] ≡ before ++ event ∷ after → MeetsRules facts before event
each facts heard body m [] after event split = let same : echo_start ≡ event = cc in subst (λ (e : Outgoing). MeetsRules facts [] e) same (start_meets facts)
each facts heard body m (x ∷ before) after event split =
    let first : echo_start ≡ x = cc in let rest : bodies_of heard ++ ResponseBody body m ∷ [] ≡ before ++ event ∷ after = cc in
    subst (λ (e : Outgoing). MeetsRules facts (e ∷ before) event) first (meets facts before event (only_bodies heard body m before after event rest))

-- one more body is lawful after those of a request that has not ended
pub echo_is_lawful : (facts : Facts) (heard : List Incoming) (body : List ℕ) (m : Bool) → list_any ends_request heard ≡ false
    → IsLawful Http facts (echo_events heard ++ ResponseBody body m ∷ [])
echo_is_lawful facts heard body m h = record { begins = begins heard body m h; each = each facts heard body m }
