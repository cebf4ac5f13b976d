-- What a reader returns moves the connection's view by its steps.
use Rattle.std.proofs.Common.{◌≡◌, ℕ, Bool, true, false, List, [], ◌∷◌, ◌++◌, map, length, refl, sym, ap, ◌∙◌, append_assoc, arith, Some, None}
use Rattle.std.specs.Prelude.{if◌then◌else◌, is_none, nat_lt, slice_get}
use Rattle.std.proofs.lemmas.Bool.Decides.{nat_tests}
use Rattle.asgi_types.specs.declared.facts.Facts.{Facts}
use Rattle.asgi_types.specs.declared.incoming.Incoming.{Incoming}
use Rattle.asgi_types.specs.declared.incoming.Incoming.TheVariants.{HttpDisconnect}
use Rattle.asgi_types.specs.declared.limits.Limits.{Limits}
use Rattle.asgi_request.specs.declared.next.Next.{Next}
use Rattle.asgi_request.specs.declared.next.Next.TheVariants.{Event, Whole, Bad}
use Rattle.asgi_request.specs.BodyOf.{body_events, body_state}
use Rattle.asgi_request.specs.Opened.{HasOpened}
use Rattle.asgi_request.specs.Reading.{Reading, StandsFor, AllGiven}
use Rattle.asgi_request.proofs.BodyOfLemmas.{body_is_read}
use Rattle.asgi_request.proofs.DueLemmas.{events_are_due, whole_is_complete, bad_is_faulty, need_is_partial}
use Rattle.asgi_request.proofs.OpenedLemmas.{opened_at, opened_plain, opened_stays}
use Rattle.asgi_exchange.specs.Exchange.{Exchange}
use Rattle.asgi_exchange.specs.Http.{http}
use Rattle.asgi_exchange.specs.Items.{end_of}
use Rattle.asgi_exchange.specs.Steps.{next_of, is_by_input, arrive, offer_this, offer, break_off}
use Rattle.asgi_exchange.specs.Views.{ConnView, ByInput}

pub fed_arrives : (limits : Limits) (bytes piece : List ℕ) (opened : List Next) (facts : Facts) (conn : ConnView ℕ ℕ)
    → HasOpened limits bytes opened facts.framing conn.arrived → is_by_input conn.broken ≡ false
    → let new = arrive (http limits facts) conn piece in (new ≡ record conn { arrived = conn.arrived ++ piece }) × HasOpened limits (bytes ++ piece) opened facts.framing new.arrived
fed_arrives limits bytes piece opened facts conn x b = rw b (refl, opened_stays limits bytes piece opened facts.framing conn.arrived x)

next_is : (xs : List Incoming) (e : Incoming) (more ys : List Incoming) → (xs ++ e ∷ []) ++ more ≡ ys → next_of ys xs ≡ Some e
next_is xs e more ys h = ap (λ (l : List Incoming). next_of l xs) (sym h ∙ append_assoc xs (e ∷ []) more) ∙ at xs
  where
    at : (l : List Incoming) → slice_get (l ++ e ∷ more) (length l) ≡ Some e
    at [] = refl
    at (x ∷ l) = at l

not_less : (n : ℕ) → nat_lt n n ≡ false
not_less n = grind (arith, nat_tests)

-- after all that is due the input may break
pub break_is_offered : {A W : Type 0} (x : Exchange A W) (conn : ConnView A W) → conn.broken ≡ None → end_of conn.got ≡ None → conn.offered ≡ x.due conn.arrived
    → break_off x conn ByInput ≡ record conn { offered = conn.offered ++ x.input_disconnect conn.arrived ∷ []; broken = Some ByInput }
break_is_offered {A} {W} x conn b e all =
    let due = x.due conn.arrived in
    let broken : ConnView A W = record conn { offered = conn.offered ++ x.input_disconnect conn.arrived ∷ []; broken = Some ByInput } in
    let none : is_none conn.broken ≡ true = ap is_none b in
    let open_ : is_none (end_of conn.got) ≡ true = ap is_none e in
    let less : nat_lt (length conn.offered) (length due) ≡ false = ap (λ (l : List Incoming). nat_lt (length l) (length due)) all ∙ not_less (length due) in
    ap (λ (o : Bool). if o then (if nat_lt (length conn.offered) (length due) then conn else (if is_none (end_of conn.got) then broken else conn)) else conn) none
    ∙ ap (λ (o : Bool). if o then conn else (if is_none (end_of conn.got) then broken else conn)) less ∙ ap (λ (o : Bool). if o then broken else conn) open_

-- the next event that is due is offered
pub next_is_offered : {A W : Type 0} (x : Exchange A W) (conn : ConnView A W) (event : Incoming) (more : List Incoming) → conn.broken ≡ None
    → (conn.offered ++ event ∷ []) ++ more ≡ x.due conn.arrived → offer x conn true ≡ record conn { offered = conn.offered ++ event ∷ [] }
next_is_offered x conn event more b e =
    ap (λ (o : Bool). if o then offer_this conn (next_of (x.due conn.arrived) conn.offered) else conn) (ap is_none b)
    ∙ ap (offer_this conn) (next_is conn.offered event more (x.due conn.arrived) e)

pub event_is_offered : (reader : Reading) (bytes : List ℕ) (opened : List Next) (facts : Facts) (conn : ConnView ℕ ℕ) (event : Incoming)
    → HasOpened reader.limits bytes opened facts.framing conn.arrived → StandsFor reader bytes (opened ++ map Event (conn.offered ++ event ∷ []))
    → conn.broken ≡ None → offer (http reader.limits facts) conn true ≡ record conn { offered = conn.offered ++ event ∷ [] }
event_is_offered reader bytes opened facts conn event x stands b =
    let due = body_events reader.limits facts.framing conn.arrived in
    let p = events_are_due reader.limits bytes opened facts.framing conn.arrived due (body_state reader.limits facts.framing conn.arrived) reader.place reader.held
    (opened_at reader.limits bytes opened facts.framing conn.arrived x) (opened_plain reader.limits bytes opened facts.framing conn.arrived x) (body_is_read reader.limits facts.framing conn.arrived) (conn.offered ++ event ∷ []) stands in
    next_is_offered (http reader.limits facts) conn event p.0 b p.1

pub broken_off : (reader : Reading) (bytes : List ℕ) (opened : List Next) (facts : Facts) (conn : ConnView ℕ ℕ)
    → HasOpened reader.limits bytes opened facts.framing conn.arrived → AllGiven reader bytes (opened ++ map Event conn.offered)
    → conn.broken ≡ None → end_of conn.got ≡ None
    → break_off (http reader.limits facts) conn ByInput ≡ record conn { offered = conn.offered ++ HttpDisconnect ∷ []; broken = Some ByInput }
broken_off reader bytes opened facts conn x g b e =
    break_is_offered (http reader.limits facts) conn b e
    (need_is_partial reader.limits bytes opened facts.framing conn.arrived (body_events reader.limits facts.framing conn.arrived) (body_state reader.limits facts.framing conn.arrived) conn.offered g.0
    (opened_at reader.limits bytes opened facts.framing conn.arrived x) (opened_plain reader.limits bytes opened facts.framing conn.arrived x) (body_is_read reader.limits facts.framing conn.arrived) g.1).0

pub refused_off : (reader : Reading) (bytes : List ℕ) (opened : List Next) (facts : Facts) (conn : ConnView ℕ ℕ) (status : ℕ)
    → HasOpened reader.limits bytes opened facts.framing conn.arrived → StandsFor reader bytes (opened ++ (map Event conn.offered ++ Bad status ∷ []))
    → conn.broken ≡ None → end_of conn.got ≡ None
    → break_off (http reader.limits facts) conn ByInput ≡ record conn { offered = conn.offered ++ HttpDisconnect ∷ []; broken = Some ByInput }
refused_off reader bytes opened facts conn status x stands b e =
    break_is_offered (http reader.limits facts) conn b e
    (bad_is_faulty reader.limits bytes opened facts.framing conn.arrived (body_events reader.limits facts.framing conn.arrived) (body_state reader.limits facts.framing conn.arrived) reader.place reader.held
    (opened_at reader.limits bytes opened facts.framing conn.arrived x) (opened_plain reader.limits bytes opened facts.framing conn.arrived x) (body_is_read reader.limits facts.framing conn.arrived) conn.offered status stands).0

pub whole_off : (reader : Reading) (bytes : List ℕ) (opened : List Next) (facts : Facts) (conn : ConnView ℕ ℕ)
    → HasOpened reader.limits bytes opened facts.framing conn.arrived → StandsFor reader bytes (opened ++ (map Event conn.offered ++ Whole ∷ []))
    → conn.broken ≡ None → end_of conn.got ≡ None
    → break_off (http reader.limits facts) conn ByInput ≡ record conn { offered = conn.offered ++ HttpDisconnect ∷ []; broken = Some ByInput }
whole_off reader bytes opened facts conn x stands b e =
    break_is_offered (http reader.limits facts) conn b e
    (whole_is_complete reader.limits bytes opened facts.framing conn.arrived (body_events reader.limits facts.framing conn.arrived) (body_state reader.limits facts.framing conn.arrived) reader.place reader.held
    (opened_at reader.limits bytes opened facts.framing conn.arrived x) (opened_plain reader.limits bytes opened facts.framing conn.arrived x) (body_is_read reader.limits facts.framing conn.arrived) conn.offered stands).0
