-- What is kept of a request grows with what is received.
use Rattle.std.proofs.Common.{◌≡◌, Bool, true, false, ℕ, List, [], ◌∷◌, ◌++◌, Option, Some, None, Result, Ok, Err, refl, ap, sym, ◌∙◌, subst, inl, inr, append-nil, append_assoc}
use Rattle.std.specs.Prelude.{not, ◌||◌, OnOk, OnErr}
use Rattle.std.specs.List.{list_any}
use Rattle.asgi_types.specs.declared.scope.Kind.{Kind}
use Rattle.asgi_types.specs.declared.incoming.Incoming.{Incoming}
use Rattle.asgi_types.specs.declared.incoming.Incoming.TheVariants.{HttpRequest, HttpDisconnect, WsConnect, WsReceive, WsDisconnect, LifespanStartup, LifespanShutdown}
use Rattle.asgi_types.specs.declared.outgoing.Outgoing.{Outgoing}
use Rattle.asgi_types.specs.declared.end_kind.EndKind.TheVariants.{Returned, Faulted}
use Rattle.asgi_protocol.specs.Verdicts.{is_disconnect}
use Rattle.asgi_pipes.specs.Disconnects.{has_disconnect}
use Rattle.asgi_apps.proofs.EchoLemmas.{connected-append}
use Rattle.asgi_handlers.specs.declared.handling.Heard.{Heard}
use Rattle.asgi_handlers.specs.declared.handling.Heard.TheVariants.{More, Gone, Whole, Failed}
use Rattle.asgi_handlers.specs.declared.reply.Reply.{Reply}
use Rattle.asgi_handlers.specs.declared.sending.Sending.{Sending}
use Rattle.asgi_handlers.specs.Handling.{IsHearing, IsReplying, StandsAt, left_of}
use Rattle.asgi_handlers.specs.Replies.{AnswersRequest, HeardWhole, IsLeft, RepliesTo, body_of, is_last_part, reply_events}
use Rattle.asgi_handlers.specs.private.Hearing.{Added, Hearing, IsFailed, body_after}

-- ---- the body

after-front : (front body : List ℕ) (event : Incoming) → front ++ body_after body event ≡ body_after (front ++ body) event
after-front front body (HttpRequest part m) = sym (append_assoc front body part)
after-front front body HttpDisconnect = refl
after-front front body WsConnect = refl
after-front front body (WsReceive p) = refl
after-front front body (WsDisconnect c r) = refl
after-front front body LifespanStartup = refl
after-front front body LifespanShutdown = refl

pub body-append : (heard : List Incoming) (event : Incoming) → body_of (heard ++ event ∷ []) ≡ body_after (body_of heard) event
body-append [] (HttpRequest part m) = append-nil part
body-append [] HttpDisconnect = refl
body-append [] WsConnect = refl
body-append [] (WsReceive p) = refl
body-append [] (WsDisconnect c r) = refl
body-append [] LifespanStartup = refl
body-append [] LifespanShutdown = refl
body-append (HttpRequest part m ∷ heard) event = ap (λ (body : List ℕ). part ++ body) (body-append heard event) ∙ after-front part (body_of heard) event
body-append (HttpDisconnect ∷ heard) event = body-append heard event
body-append (WsConnect ∷ heard) event = body-append heard event
body-append (WsReceive p ∷ heard) event = body-append heard event
body-append (WsDisconnect c r ∷ heard) event = body-append heard event
body-append (LifespanStartup ∷ heard) event = body-append heard event
body-append (LifespanShutdown ∷ heard) event = body-append heard event

neither : (a b : Bool) → (a || b) ≡ false → (a ≡ false) × (b ≡ false)
neither false b h = (refl, h)
neither true b h = absurd (cc)

pub not_whole-append : (heard : List Incoming) (event : Incoming) → list_any is_last_part heard ≡ false → is_last_part event ≡ false → list_any is_last_part (heard ++ event ∷ []) ≡ false
not_whole-append [] event h e = rw e refl
not_whole-append (x ∷ heard) event h e =
    let both = neither (is_last_part x) (list_any is_last_part heard) h in
    rw (both.0) (not_whole-append heard event both.1 e)

disconnect_is_no_part : (event : Incoming) → is_disconnect event ≡ true → is_last_part event ≡ false
disconnect_is_no_part (HttpRequest part m) h = absurd (cc)
disconnect_is_no_part HttpDisconnect h = refl
disconnect_is_no_part WsConnect h = refl
disconnect_is_no_part (WsReceive p) h = refl
disconnect_is_no_part (WsDisconnect c r) h = refl
disconnect_is_no_part LifespanStartup h = refl
disconnect_is_no_part LifespanShutdown h = refl

module _ (allows : List ℕ → Reply → Type 0) where
  module _ (part before after seen : List ℕ) (more_body : Bool) (given given_after : List Reply) where
    -- what the part that was added is, is what its event is
    added_is : (heard : Heard) → after ≡ before ++ part → seen ≡ after → Added (allows seen) more_body given given_after heard
        → Hearing allows (HttpRequest part more_body) before after given given_after heard
    added_is More grown same h = (refl, ap not h.0, grown, h.1)
    added_is Gone grown same h = absurd h
    added_is (Whole reply) grown same h = (
      part,
      ap (λ (m : Bool). HttpRequest part m) h.0,
      subst (λ (bytes : List ℕ). allows bytes reply) (same ∙ grown) h.1,
      h.2,
    )
    added_is (Failed fault) grown same h = tt

    -- the same, if it was added
    pub part_is : {F : Type 0} (added : Result (Unit {0}) F) (heard : Heard) → OnOk added (after ≡ before ++ part) → seen ≡ after
        → OnOk added (Added (allows seen) more_body given given_after heard) → OnErr added (IsFailed heard)
        → Hearing allows (HttpRequest part more_body) before after given given_after heard
    part_is (Ok done) heard grown same ok err = added_is heard grown same ok
    part_is (Err fault) (Failed why) grown same ok err = tt
    part_is (Err fault) More grown same ok err = absurd err
    part_is (Err fault) Gone grown same ok err = absurd err
    part_is (Err fault) (Whole reply) grown same ok err = absurd err

  -- ---- the task

  -- nothing was sent
  pub unsaid : (heard : List Incoming) (said : List Outgoing) → said ≡ [] → AnswersRequest allows heard said None
  unsaid heard said silent = record { begun = inl silent; ends = tt }

  pub failed : (heard : List Incoming) (said : List Outgoing) → said ≡ [] → AnswersRequest allows heard said (Some Faulted)
  failed heard said silent = record { begun = inl silent; ends = inl silent }

  -- nothing was received
  pub heard_none : (body : List ℕ) (given : List Reply) (sending : Option Sending) (kind kind2 : Kind) (heard heard2 : List Incoming) (said said2 : List Outgoing)
      → sending ≡ None → kind2 ≡ kind → heard2 ≡ heard → said2 ≡ said → IsHearing body given kind heard said → StandsAt allows body given sending kind2 heard2 said2
  heard_none body given sending kind kind2 heard heard2 said said2 none k h s hearing =
      let still : IsHearing body given kind2 heard2 said2 = record {
        kind_is = k ∙ hearing.kind_is;
        connected = subst (λ (l : List Incoming). has_disconnect l ≡ false) (sym h) hearing.connected;
        not_whole = subst (λ (l : List Incoming). list_any is_last_part l ≡ false) (sym h) hearing.not_whole;
        body_is = hearing.body_is ∙ ap body_of (sym h);
        uncalled = hearing.uncalled;
        silent = s ∙ hearing.silent;
      } in
      subst (λ (o : Option Sending). StandsAt allows body given o kind2 heard2 said2) (sym none) still

  module _ (body after : List ℕ) (given given_after : List Reply) (kind kind2 : Kind) (heard hears : List Incoming) (said said2 : List Outgoing) (event : Incoming) (k : kind2 ≡ kind) (s : said2 ≡ said)
      (came : hears ≡ heard ++ event ∷ []) (hearing : IsHearing body given kind heard said) where
    -- more is to be received
    pub heard_more : (sending : Option Sending) → sending ≡ None → Hearing allows event body after given given_after More → StandsAt allows after given_after sending kind2 hears said2
    heard_more sending none is =
        let on : IsHearing after given_after kind2 hears said2 = record {
          kind_is = k ∙ hearing.kind_is;
          connected = subst (λ (l : List Incoming). has_disconnect l ≡ false) (sym came) (connected-append heard event hearing.connected is.0);
          not_whole = subst (λ (l : List Incoming). list_any is_last_part l ≡ false) (sym came) (not_whole-append heard event hearing.not_whole is.1);
          body_is = is.2 ∙ ap (λ (b : List ℕ). body_after b event) hearing.body_is ∙ sym (body-append heard event) ∙ ap body_of (sym came);
          uncalled = is.3 ∙ hearing.uncalled;
          silent = s ∙ hearing.silent;
        } in
        subst (λ (o : Option Sending). StandsAt allows after given_after o kind2 hears said2) (sym none) on

    -- the client is gone
    pub heard_end : Hearing allows event body after given given_after Gone → AnswersRequest allows hears said2 (Some Returned)
    heard_end is =
        let left : IsLeft hears said2 = record {
          silent = s ∙ hearing.silent;
          gone = record { before = heard; last = event; in_order = came; ends = is; first = hearing.connected };
          not_whole = subst (λ (l : List Incoming). list_any is_last_part l ≡ false) (sym came)
              (not_whole-append heard event hearing.not_whole (disconnect_is_no_part event is));
        } in
        record { begun = inl (s ∙ hearing.silent); ends = inr left }

    -- the whole request was received, and a reply was given
    pub heard_whole : (reply : Reply) (sending : Sending) → left_of sending ≡ reply_events reply → Hearing allows event body after given given_after (Whole reply)
        → IsReplying allows (left_of sending) given_after kind2 hears said2
    heard_whole reply sending left is =
        let came_last : hears ≡ heard ++ HttpRequest is.0 false ∷ [] = came ∙ ap (λ (e : Incoming). heard ++ e ∷ []) is.1 in
        let whole_body : body ++ is.0 ≡ body_of hears =
        ap (λ (b : List ℕ). b ++ is.0) hearing.body_is ∙ sym (body-append heard (HttpRequest is.0 false)) ∙ ap body_of (sym came_last) in
        let whole : HeardWhole hears = record {
          before = heard;
          part = is.0;
          in_order = came_last;
          first = hearing.not_whole;
          connected = subst (λ (l : List Incoming). has_disconnect l ≡ false) (sym came_last)
              (connected-append heard (HttpRequest is.0 false) hearing.connected refl);
        } in
        let replies : RepliesTo allows hears reply =
        record { whole = whole; allowed = subst (λ (bytes : List ℕ). allows bytes reply) whole_body is.2 } in
        record {
          kind_is = k ∙ hearing.kind_is;
          reply = reply;
          replies = replies;
          in_order = ap (λ (l : List Outgoing). l ++ left_of sending) (s ∙ hearing.silent) ∙ left;
          once = is.3 ∙ ap (λ (l : List Reply). l ++ reply ∷ []) hearing.uncalled;
        }
