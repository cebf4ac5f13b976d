-- What a lifespan task with its ends is, step by step.
use Rattle.std.proofs.Common.{◌≡◌, ◌≢◌, ℕ, ◌+◌, ◌-◌, ◌≤◌, List, [], ◌∷◌, ◌++◌, length, Option, Some, None, refl, sym, ap, ◌∙◌, subst, arith, append_assoc, append-nil, length-append}
use mathlib.Core.List.{IsPrefix}
use Rattle.asgi_types.specs.declared.end_kind.EndKind.{EndKind}
use Rattle.asgi_types.specs.declared.facts.Facts.{Facts}
use Rattle.asgi_types.specs.declared.incoming.Incoming.{Incoming}
use Rattle.asgi_types.specs.declared.outgoing.Outgoing.{Outgoing}
use Rattle.asgi_types.specs.declared.scope.Kind.{Kind}
use Rattle.asgi_types.specs.declared.scope.Kind.TheVariants.{Lifespan}
use Rattle.asgi_protocol.specs.Lawful.{IsLawful}
use Rattle.asgi_pipes.specs.declared.items.OutItem.{OutItem}
use Rattle.asgi_pipes.specs.declared.items.OutItem.TheVariants.{Ended, Event}
use Rattle.asgi_pipes.specs.declared.plain_app.PlainApp.{PlainApp}
use Rattle.asgi_pipes.specs.declared.plain_conn.PlainConn.{PlainConn}
use Rattle.asgi_pipes.specs.Pairs.{Carried}
use Rattle.asgi_pipes.specs.Disconnects.{Hears}
use Rattle.asgi_pipes.specs.Items.{items_of}
use Rattle.asgi_pipes.specs.PlainPairs.{IsPlainPair}
use Rattle.asgi_pipes.specs.contracts.plain_app.PlainAppAppEnd.TheImpl as app_end
use Rattle.asgi_pipes.specs.contracts.plain_conn.PlainConnConnEnd.TheImpl as conn_end
use Rattle.asgi_pipes.proofs.StateLemmas.{heard_in, lawful_in}
use Rattle.asgi_apps.specs.Ends.{IsWithin}
use Rattle.asgi_pipes.proofs.PrefixLemmas.{prefix_self, prefix_same, prefix_trans}
use Rattle.asgi_lifespan.specs.declared.hosted.Hosted.{Hosted}
use Rattle.asgi_lifespan.specs.declared.hosted.Word.{Word}
use Rattle.asgi_lifespan.specs.declared.hosted.Word.TheVariants.{Said, Idle}
use Rattle.asgi_lifespan.specs.declared.hosted.Word.TheVariants as word
use Rattle.asgi_lifespan.specs.Facts.{no_request}
use Rattle.asgi_lifespan.specs.Hosting.{Follows, IsCarried, IsHosted, IsLeft, IsOpen, IsPolled, Promises, PromisesFrom, Tells, got_of, heard_by, offered_to, said_by}
use Rattle.asgi_lifespan.proofs.WordLemmas.{no_end}

module _ {T : Type 0} (stands : T → Kind → List Incoming → List Outgoing → Type 0) (answers : T → List Incoming → List Outgoing → Option EndKind → Type 0) where
  -- what was sent is lawful
  pub lawful : (hosted : Hosted T) → IsOpen stands hosted → IsLawful Lifespan no_request (said_by hosted)
  lawful hosted is =
      let app = hosted.app_end.state.value in
      subst (λ (k : Kind). IsLawful k no_request app.said.items) is.kind
      (subst (λ (f : Facts). IsLawful app.kind f app.said.items) is.facts (lawful_in app))

  -- what was received is a beginning of what was offered
  pub hears : (hosted : Hosted T) → IsHosted stands hosted → IsPrefix (heard_by hosted) (offered_to hosted)
  hears hosted is =
      let app = hosted.app_end.state.value in
      let same : app.heard.items ≡ app.pulled.items = subst (λ (k : Kind). Hears k app.said.items app.pulled.items app.heard.items) is.0.kind (heard_in app) in
      (app_end.ghosts.seen hosted.app_end, ap (λ (l : List Incoming). l ++ app_end.ghosts.seen hosted.app_end) same ∙ sym is.1.inward)

  -- a place is free while one event was offered at most
  pub has_place : (hosted : Hosted T) → IsHosted stands hosted → length (offered_to hosted) ≤ 1 → conn_end.ghosts.room hosted.conn ≢ 0
  has_place hosted is few none =
      place (offered_to hosted) (app_end.ghosts.pulled hosted.app_end) (app_end.ghosts.seen hosted.app_end) _ _ is.1.inward few is.0.places is.1.room none
    where
      place : (offered pulled seen : List Incoming) (ring room : ℕ) → offered ≡ pulled ++ seen → length offered ≤ 1 → 2 ≤ ring → room ≡ ring - length seen → room ≡ 0 → ⊥
      place offered pulled seen ring room parts few places is none =
          let all : length offered ≡ length pulled + length seen = ap length parts ∙ length-append pulled seen in
          omega (arith, all, few, places, is, none)

  -- a running task has kept its promise, and an ended one has left it
  pub keeps_promise : ((task : T) (kind : Kind) (heard : List Incoming) (said : List Outgoing) → stands task kind heard said → answers task heard said None)
      → (hosted : Hosted T) → IsOpen stands hosted → Promises answers hosted (heard_by hosted) (said_by hosted) hosted.ended
  keeps_promise keeps hosted is = from hosted.ended refl
    where
      from : (ended : Option EndKind) → hosted.ended ≡ ended → PromisesFrom answers hosted ended (heard_by hosted) (said_by hosted) ended
      from None runs = keeps hosted.task _ _ _ (is.runs runs)
      from (Some kind) same = (refl, refl, refl)

  -- ---- steps

  pub left_within : (old new : Hosted T) → IsLeft old new → (heard : List Incoming) (said : List Outgoing) (ended : Option EndKind)
      → Promises answers new heard said ended → Promises answers old heard said ended
  left_within old new left heard said ended p =
      from old.ended (subst (λ (e : Option EndKind). PromisesFrom answers new e heard said ended) left.ended p)
    where
      from : (e : Option EndKind) → PromisesFrom answers new e heard said ended → PromisesFrom answers old e heard said ended
      from None p = subst (λ (t : T). answers t heard said ended) left.task p
      from (Some kind) p = (p.0 ∙ left.heard, p.1 ∙ left.said, p.2)

  -- a task that was left alone may be polled as before
  pub left_open : (old new : Hosted T) → IsLeft old new → IsOpen stands old → IsOpen stands new
  left_open old new left is = record {
    kind = left.kind ∙ is.kind;
    facts = left.facts ∙ is.facts;
    open_app = left.open_app ∙ is.open_app;
    open_conn = left.open_conn ∙ is.open_conn;
    places = subst (λ (n : ℕ). 2 ≤ n) (sym left.ring) is.places;
    runs = λ runs. rw (left.task, left.kind, left.heard, left.said) (is.runs (sym left.ended ∙ runs));
    own_end = λ idle. is.own_end (sym left.ended ∙ idle);
  }

  pub left_then : (a b c : Hosted T) → IsLeft a b → IsLeft b c → IsLeft a c
  left_then a b c x y = record {
    task = y.task ∙ x.task;
    ended = y.ended ∙ x.ended;
    heard = y.heard ∙ x.heard;
    said = y.said ∙ x.said;
    kind = y.kind ∙ x.kind;
    facts = y.facts ∙ x.facts;
    open_app = y.open_app ∙ x.open_app;
    open_conn = y.open_conn ∙ x.open_conn;
    ring = y.ring ∙ x.ring;
  }

  pub follows_nothing : (hosted : Hosted T) → IsHosted stands hosted → Follows stands answers hosted hosted
  follows_nothing hosted is = record {
    hosted = is;
    heard = prefix_self (heard_by hosted);
    said = prefix_self (said_by hosted);
    offered = refl;
    within = λ heard said ended p. p;
  }

  pub follows_then : (a b c : Hosted T) → Follows stands answers a b → Follows stands answers b c → Follows stands answers a c
  follows_then a b c x y = record {
    hosted = y.hosted;
    heard = prefix_trans (heard_by a) (heard_by b) (heard_by c) x.heard y.heard;
    said = prefix_trans (said_by a) (said_by b) (said_by c) x.said y.said;
    offered = y.offered ∙ x.offered;
    within = λ heard said ended p. x.within heard said ended (y.within heard said ended p);
  }

  -- taking an event leaves the task alone
  pub follows_left : (old new : Hosted T) → IsLeft old new → IsHosted stands new → offered_to new ≡ offered_to old → Follows stands answers old new
  follows_left old new left is offered = record {
    hosted = is;
    heard = prefix_same (heard_by old) (heard_by new) (sym left.heard);
    said = prefix_same (said_by old) (said_by new) (sym left.said);
    offered = offered;
    within = left_within old new left;
  }

  -- a poll, and then what was put is carried
  pub polled_open : (old new : Hosted T) → IsPolled stands answers old new → IsOpen stands old → IsOpen stands new
  polled_open old new polled is = record {
    kind = polled.goes_on.kind ∙ is.kind;
    facts = polled.goes_on.facts ∙ is.facts;
    open_app = polled.goes_on.ended_is;
    open_conn = ap conn_end.ghosts.is_broken polled.conn ∙ is.open_conn;
    places = subst (λ (n : ℕ). 2 ≤ n) (sym (ap conn_end.ghosts.ring polled.conn)) is.places;
    runs = polled.runs;
    own_end = polled.own_end;
  }

  pub polled_pair : (old new : Hosted T) → IsPolled stands answers old new → IsPlainPair old.conn old.app_end → IsPlainPair new.conn new.app_end
  polled_pair old new polled pair = ap conn_end.ghosts.tag polled.conn ∙ pair ∙ sym polled.goes_on.tag

  pub turn_follows : (old mid new : Hosted T) → IsHosted stands old → IsPolled stands answers old mid → IsLeft mid new → IsCarried new → offered_to new ≡ offered_to mid
      → Follows stands answers old new
  turn_follows old mid new is polled left carried offered = record {
    hosted = (left_open mid new left (polled_open old mid polled is.0), carried);
    heard = prefix_trans (heard_by old) (heard_by mid) (heard_by new) polled.goes_on.heard (prefix_same (heard_by mid) (heard_by new) (sym left.heard));
    said = prefix_trans (said_by old) (said_by mid) (said_by new) polled.goes_on.said (prefix_same (said_by mid) (said_by new) (sym left.said));
    offered = offered ∙ ap conn_end.ghosts.offered polled.conn;
    within = λ heard said ended p. polled.within heard said ended (left_within mid new left heard said ended p);
  }

  -- ---- one poll

  -- while the task runs, its promise is within the one before
  pub running_within : (old new : Hosted T) → old.ended ≡ None → new.ended ≡ None → IsWithin answers new.task old.task → (heard : List Incoming) (said : List Outgoing) (ended : Option EndKind)
      → Promises answers new heard said ended → Promises answers old heard said ended
  running_within old new was is within heard said ended p =
      subst (λ (e : Option EndKind). PromisesFrom answers old e heard said ended) (sym was)
      (within heard said ended (subst (λ (e : Option EndKind). PromisesFrom answers new e heard said ended) is p))

  -- if it ended, the promise holds of what was received and sent
  pub ended_within : (old new : Hosted T) (kind : EndKind) → old.ended ≡ None → new.ended ≡ Some kind → answers old.task (heard_by new) (said_by new) (Some kind)
      → (heard : List Incoming) (said : List Outgoing) (ended : Option EndKind) → Promises answers new heard said ended → Promises answers old heard said ended
  ended_within old new kind was is kept heard said ended p =
      let q : PromisesFrom answers new (Some kind) heard said ended = subst (λ (e : Option EndKind). PromisesFrom answers new e heard said ended) is p in
      subst (λ (e : Option EndKind). PromisesFrom answers old e heard said ended) (sym was)
      (subst (λ (h : List Incoming). answers old.task h said ended) (sym q.0)
      (subst (λ (s : List Outgoing). answers old.task (heard_by new) s ended) (sym q.1)
      (subst (λ (e : Option EndKind). answers old.task (heard_by new) (said_by new) e) (sym q.2) kept)))

  -- ---- taking an event

  -- what was taken and what waits is as before
  pub still_all : (old new : PlainConn) (items : List OutItem) → conn_end.ghosts.tag new ≡ conn_end.ghosts.tag old
      → items ≡ conn_end.ghosts.got old ++ conn_end.ghosts.seen old → items ≡ conn_end.ghosts.got new ++ conn_end.ghosts.seen new
  still_all old new items tag all = all ∙ sym (ap (λ (t : Carried). t.outward.items) tag)

  pub taken_left : (old new : Hosted T) → new.task ≡ old.task → new.ended ≡ old.ended → new.app_end ≡ old.app_end
      → conn_end.ghosts.is_broken new.conn ≡ conn_end.ghosts.is_broken old.conn → conn_end.ghosts.ring new.conn ≡ conn_end.ghosts.ring old.conn → IsLeft old new
  taken_left old new task ended end broken ring = record {
    task = task;
    ended = ended;
    heard = ap app_end.ghosts.heard end;
    said = ap app_end.ghosts.said end;
    kind = ap app_end.ghosts.kind end;
    facts = ap app_end.ghosts.facts end;
    open_app = ap app_end.ghosts.ended end;
    open_conn = broken;
    ring = ring;
  }

  pub taken_hosted : (old new : Hosted T) → IsHosted stands old → IsLeft old new → new.app_end ≡ old.app_end
      → conn_end.ghosts.tag new.conn ≡ conn_end.ghosts.tag old.conn → conn_end.ghosts.offered new.conn ≡ conn_end.ghosts.offered old.conn
      → conn_end.ghosts.room new.conn ≡ conn_end.ghosts.room old.conn → IsHosted stands new
  taken_hosted old new is left end tag offered room = (
    left_open old new left is.0,
    record {
      pair = tag ∙ is.1.pair ∙ sym (ap app_end.ghosts.tag end);
      inward = offered ∙ is.1.inward ∙ ap (λ (a : PlainApp). app_end.ghosts.pulled a ++ app_end.ghosts.seen a) (sym end);
      outward = ap (λ (a : PlainApp). items_of (app_end.ghosts.said a) (app_end.ghosts.ended a)) end ∙ still_all old.conn new.conn _ tag is.1.outward;
      room = room ∙ is.1.room ∙ subst (λ (n : ℕ). conn_end.ghosts.ring old.conn - length (app_end.ghosts.seen old.app_end) ≡ n - length (app_end.ghosts.seen new.app_end)) (sym left.ring)
          (ap (λ (a : PlainApp). conn_end.ghosts.ring old.conn - length (app_end.ghosts.seen a)) (sym end));
    },
  )

  -- no end went through the queue
  pub no_end_waits : (old : Hosted T) (conn : PlainConn) (kind : EndKind) → IsHosted stands old → conn_end.ghosts.tag conn ≡ conn_end.ghosts.tag old.conn
      → conn_end.ghosts.got conn ≡ got_of old ++ Ended kind ∷ [] → ⊥
  no_end_waits old conn kind is tag got =
      let all = still_all old.conn conn _ tag is.1.outward in
      let said : items_of (said_by old) None ≡ conn_end.ghosts.got conn ++ conn_end.ghosts.seen conn = subst (λ (e : Option EndKind). items_of (said_by old) e ≡ conn_end.ghosts.got conn ++ conn_end.ghosts.seen conn) is.0.open_app all in
      no_end (said_by old) (got_of old) (conn_end.ghosts.seen conn) kind
      (said ∙ ap (λ (l : List OutItem). l ++ conn_end.ghosts.seen conn) got ∙ append_assoc (got_of old) (Ended kind ∷ []) (conn_end.ghosts.seen conn))

  -- if nothing waits, all that was sent was taken
  pub all_taken : (old new : Hosted T) → IsHosted stands new → conn_end.ghosts.seen new.conn ≡ [] → got_of new ≡ got_of old → items_of (said_by new) None ≡ got_of old
  all_taken old new is none got =
      subst (λ (e : Option EndKind). items_of (said_by new) e ≡ got_of old) is.0.open_app
      (is.1.outward ∙ ap (λ (l : List OutItem). got_of new ++ l) none ∙ append-nil (got_of new) ∙ got)

  pub tells_further : (a b c : Hosted T) (word : Option Word) → got_of b ≡ got_of a → Tells b c word → Tells a c word
  tells_further a b c (Some (Said event)) same tells = tells ∙ ap (λ (l : List OutItem). l ++ Event event ∷ []) same
  tells_further a b c (Some (word.Ended kind)) same tells = (tells.0 ∙ same, tells.1 ∙ same, tells.2)
  tells_further a b c (Some (Idle turns)) same tells = (tells.0 ∙ same, tells.1 ∙ same, tells.2)
  tells_further a b c None same tells = (tells.0 ∙ same, tells.1 ∙ same, tells.2)

  pub tells_idle : (a b c : Hosted T) (turns : ℕ) → got_of b ≡ got_of a → Tells b c None → Tells a c (Some (Idle turns))
  tells_idle a b c turns same tells = (tells.0 ∙ same, tells.1 ∙ same, tells.2)

pub told_none : (o : Option ℕ) (told : ℕ) → o ≡ None → o ≡ Some told → ⊥
told_none o told none some = cc
