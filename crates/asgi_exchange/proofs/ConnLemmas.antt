-- Each step of the connection keeps what its half keeps.
use Rattle.std.proofs.Common.{◌≡◌, ℕ, Bool, true, false, List, [], ◌∷◌, ◌++◌, length, take, drop, Option, Some, None, refl, ap, append-nil}
use Rattle.std.specs.Prelude.{not, is_none, if◌then◌else◌, nat_lt}
use Rattle.std.proofs.lemmas.Bool.{ltb-false}
use mathlib.Core.List.{IsPrefix}
use Rattle.asgi_types.specs.declared.incoming.Incoming.{Incoming}
use Rattle.asgi_types.specs.declared.outgoing.Outgoing.{Outgoing}
use Rattle.asgi_types.specs.declared.end_kind.EndKind.{EndKind}
use Rattle.asgi_pipes.specs.declared.items.OutItem.{OutItem}
use Rattle.asgi_pipes.specs.declared.items.OutItem.TheVariants.{Event, Ended}
use Rattle.asgi_exchange.specs.Exchange.{Exchange, IsSteady}
use Rattle.asgi_exchange.specs.Halves.{IsOffered, ConnKeeps}
use Rattle.asgi_exchange.specs.Items.{events_of, end_of}
use Rattle.asgi_exchange.specs.Schedules.{ConnStep, Arrives, Offers, Breaks, Takes, Writes, conn_after, conn_run}
use Rattle.asgi_exchange.specs.Steps.{next_of, is_by_input, is_by_cut, arrive, offer_this, offer, break_this, break_off, take_this, take_next, write}
use Rattle.asgi_exchange.specs.Views.{Break, ByInput, ByCut, ConnView, empty_conn, added_by, output}
use Rattle.asgi_exchange.proofs.ListLemmas.{if_holds, prefix_front, prefix_after, prefix_whole, prefix_next, prefix_further}
use Rattle.asgi_pipes.proofs.PrefixLemmas.{prefix_trans}
use Rattle.asgi_exchange.proofs.EventLemmas.{none_is, events_append, end_event, end_ended}

-- all that is to be written of these events and this end
abbrev out_of : {A W : Type 0} → Exchange A W → List Outgoing → Option EndKind → Bool → List A → List W
out_of x events end broken arrived = x.text events ++ added_by x events end broken arrived

module _ {A W : Type 0} (x : Exchange A W) (s : IsSteady x) where
  -- ---- Arrive
  offered_free : (arrived more : List A) (offered : List Incoming) (broken : Option Break) → is_by_input broken ≡ false → IsOffered x arrived offered broken → IsOffered x (arrived ++ more) offered broken
  offered_free arrived more offered None h o = prefix_trans offered (x.due arrived) (x.due (arrived ++ more)) o (s.due_grows arrived more)
  offered_free arrived more offered (Some ByInput) h o = absurd (cc (h))
  offered_free arrived more offered (Some ByCut) h o = (o.0, prefix_trans o.0 (x.due arrived) (x.due (arrived ++ more)) o.1 (s.due_grows arrived more), o.2)

  offered_over : (arrived more : List A) (offered : List Incoming) (broken : Option Break) → x.is_over arrived ≡ true → IsOffered x arrived offered broken → IsOffered x (arrived ++ more) offered broken
  offered_over arrived more offered None h o = prefix_trans offered (x.due arrived) (x.due (arrived ++ more)) o (s.due_grows arrived more)
  offered_over arrived more offered (Some ByInput) h o = rw (s.over_due arrived more h, s.over_disconnect arrived more h) o
  offered_over arrived more offered (Some ByCut) h o = (o.0, prefix_trans o.0 (x.due arrived) (x.due (arrived ++ more)) o.1 (s.due_grows arrived more), o.2)

  added_by_grows : (events : List Outgoing) (end : Option EndKind) (broken : Bool) (arrived more : List A) → IsPrefix (added_by x events end broken arrived) (added_by x events end broken (arrived ++ more))
  added_by_grows events None broken arrived more = ([], refl)
  added_by_grows events (Some kind) broken arrived more = s.added_grows events kind broken arrived more

  more_arrived : (conn : ConnView A W) (more : List A) → ConnKeeps x conn → IsOffered x (conn.arrived ++ more) conn.offered conn.broken → ConnKeeps x (record conn { arrived = conn.arrived ++ more })
  more_arrived conn more k o = record {
    offered = o;
    written = prefix_trans conn.written (output x conn) (output x (record conn { arrived = conn.arrived ++ more })) k.written
        (prefix_after (x.text (events_of conn.got)) (added_by x (events_of conn.got) (end_of conn.got) conn.broken_first conn.arrived)
        (added_by x (events_of conn.got) (end_of conn.got) conn.broken_first (conn.arrived ++ more))
        (added_by_grows (events_of conn.got) (end_of conn.got) conn.broken_first conn.arrived more));
  }

  pub arrive_keeps : (conn : ConnView A W) (more : List A) → ConnKeeps x conn → ConnKeeps x (arrive x conn more)
  arrive_keeps conn more k =
      if_holds (λ c. ConnKeeps x c) (is_by_input conn.broken)
      (if x.is_over conn.arrived then record conn { arrived = conn.arrived ++ more } else conn)
      (record conn { arrived = conn.arrived ++ more })
      (λ b. if_holds (λ c. ConnKeeps x c) (x.is_over conn.arrived) (record conn { arrived = conn.arrived ++ more }) conn
      (λ h. more_arrived conn more k (offered_over conn.arrived more conn.offered conn.broken h k.offered))
      (λ h. k))
      (λ b. more_arrived conn more k (offered_free conn.arrived more conn.offered conn.broken b k.offered))

  -- ---- Offer
  offered_open : (arrived : List A) (offered : List Incoming) (broken : Option Break) → is_none broken ≡ true → IsOffered x arrived offered broken → IsPrefix offered (x.due arrived)
  offered_open arrived offered None h o = o
  offered_open arrived offered (Some b) h o = absurd (cc (h))

  open_offered : (arrived : List A) (offered : List Incoming) (broken : Option Break) → is_none broken ≡ true → IsPrefix offered (x.due arrived) → IsOffered x arrived offered broken
  open_offered arrived offered None h o = o
  open_offered arrived offered (Some b) h o = absurd (cc (h))

  more_offered : (conn : ConnView A W) (next : Option Incoming) → is_none conn.broken ≡ true → next_of (x.due conn.arrived) conn.offered ≡ next → ConnKeeps x conn → ConnKeeps x (offer_this conn next)
  more_offered conn None b e k = k
  more_offered conn (Some i) b e k = record {
    offered = open_offered conn.arrived (conn.offered ++ i ∷ []) conn.broken b
        (prefix_next conn.offered (x.due conn.arrived) i (offered_open conn.arrived conn.offered conn.broken b k.offered) e);
    written = k.written;
  }

  pub offer_keeps : (conn : ConnView A W) (has_place : Bool) → ConnKeeps x conn → ConnKeeps x (offer x conn has_place)
  offer_keeps conn has_place k =
      if_holds (λ c. ConnKeeps x c) (is_none conn.broken)
      (if has_place then offer_this conn (next_of (x.due conn.arrived) conn.offered) else conn) conn
      (λ b. if_holds (λ c. ConnKeeps x c) has_place (offer_this conn (next_of (x.due conn.arrived) conn.offered)) conn
      (λ h. more_offered conn (next_of (x.due conn.arrived) conn.offered) b refl k)
      (λ h. k))
      (λ b. k)

  -- ---- Break
  broken_keeps : (conn : ConnView A W) (cause : Break) → is_none conn.broken ≡ true → ConnKeeps x conn → ConnKeeps x (break_this x conn cause)
  broken_keeps conn ByInput b k =
      if_holds (λ c. ConnKeeps x c) (nat_lt (length conn.offered) (length (x.due conn.arrived)))
      conn (if is_none (end_of conn.got) then record conn { offered = conn.offered ++ x.input_disconnect conn.arrived ∷ []; broken = Some ByInput } else conn)
      (λ h. k)
      (λ h. if_holds (λ c. ConnKeeps x c) (is_none (end_of conn.got)) (record conn { offered = conn.offered ++ x.input_disconnect conn.arrived ∷ []; broken = Some ByInput }) conn
      (λ g. record {
        offered = ap (λ w. w ++ x.input_disconnect conn.arrived ∷ [])
            (prefix_whole conn.offered (x.due conn.arrived) (offered_open conn.arrived conn.offered conn.broken b k.offered)
            (ltb-false (length conn.offered) (length (x.due conn.arrived)) h));
        written = k.written;
      })
      (λ g. k))
  broken_keeps conn ByCut b k = record {
    offered = (conn.offered, offered_open conn.arrived conn.offered conn.broken b k.offered, refl);
    written = k.written;
  }

  pub break_keeps : (conn : ConnView A W) (cause : Break) → ConnKeeps x conn → ConnKeeps x (break_off x conn cause)
  break_keeps conn cause k =
      if_holds (λ c. ConnKeeps x c) (is_none conn.broken) (break_this x conn cause) conn (λ b. broken_keeps conn cause b k) (λ b. k)

  -- ---- Take
  event_out : (events : List Outgoing) (e : Outgoing) (broken : Bool) (arrived : List A) → IsPrefix (out_of x events None broken arrived) (out_of x (events ++ e ∷ []) None broken arrived)
  event_out events e broken arrived =
      rw (append-nil (x.text events), append-nil (x.text (events ++ e ∷ []))) (s.text_grows events e)

  end_out : (events : List Outgoing) (kind : EndKind) (before after : Bool) (arrived : List A) → IsPrefix (out_of x events None before arrived) (out_of x events (Some kind) after arrived)
  end_out events kind before after arrived =
      rw (append-nil (x.text events)) (prefix_front (x.text events) (added_by x events (Some kind) after arrived))

  out_event : (got : List OutItem) (e : Outgoing) (broken : Bool) (arrived : List A) → end_of got ≡ None
      → IsPrefix (out_of x (events_of got) (end_of got) broken arrived) (out_of x (events_of (got ++ Event e ∷ [])) (end_of (got ++ Event e ∷ [])) broken arrived)
  out_event got e broken arrived n =
      rw (end_event got e, n, events_append got (Event e ∷ [])) (event_out (events_of got) e broken arrived)

  out_end : (got : List OutItem) (kind : EndKind) (before after : Bool) (arrived : List A) → end_of got ≡ None
      → IsPrefix (out_of x (events_of got) (end_of got) before arrived) (out_of x (events_of (got ++ Ended kind ∷ [])) (end_of (got ++ Ended kind ∷ [])) after arrived)
  out_end got kind before after arrived n =
      rw (end_ended got kind n, n, events_append got (Ended kind ∷ []), append-nil (events_of got)) (end_out (events_of got) kind before after arrived)

  taken_keeps : (conn : ConnView A W) (next : Option OutItem) → end_of conn.got ≡ None → ConnKeeps x conn → ConnKeeps x (take_this conn next)
  taken_keeps conn None n k = k
  taken_keeps conn (Some (Event i)) n k = record {
    offered = k.offered;
    written = prefix_trans conn.written (output x conn) (output x (record conn { got = conn.got ++ Event i ∷ [] })) k.written
        (out_event conn.got i conn.broken_first conn.arrived n);
  }
  taken_keeps conn (Some (Ended kind)) n k = record {
    offered = k.offered;
    written = prefix_trans conn.written (output x conn) (output x (record conn { got = conn.got ++ Ended kind ∷ []; broken_first = not (is_none conn.broken) })) k.written
        (out_end conn.got kind conn.broken_first (not (is_none conn.broken)) conn.arrived n);
  }

  pub take_keeps : (conn : ConnView A W) (next : Option OutItem) → ConnKeeps x conn → ConnKeeps x (take_next conn next)
  take_keeps conn next k =
      if_holds (λ c. ConnKeeps x c) (is_none (end_of conn.got)) (take_this conn next) conn
      (λ b. taken_keeps conn next (none_is (end_of conn.got) b) k) (λ b. k)

  -- ---- Write
  pub write_keeps : (conn : ConnView A W) (n : ℕ) → ConnKeeps x conn → ConnKeeps x (write x conn n)
  write_keeps conn n k =
      if_holds (λ c. ConnKeeps x c) (is_by_cut conn.broken) conn (record conn { written = conn.written ++ take n (drop (length conn.written) (output x conn)) })
      (λ b. k)
      (λ b. record { offered = k.offered; written = prefix_further conn.written (output x conn) n k.written })

  pub conn_keeps : (conn : ConnView A W) (step : ConnStep A) → ConnKeeps x conn → ConnKeeps x (conn_after x conn step)
  conn_keeps conn (Arrives piece) k = arrive_keeps conn piece k
  conn_keeps conn (Offers has_place) k = offer_keeps conn has_place k
  conn_keeps conn (Breaks cause) k = break_keeps conn cause k
  conn_keeps conn (Takes next) k = take_keeps conn next k
  conn_keeps conn (Writes n) k = write_keeps conn n k

  pub conn_run_keeps : (steps : List (ConnStep A)) (conn : ConnView A W) → ConnKeeps x conn → ConnKeeps x (conn_run x steps conn)
  conn_run_keeps [] conn k = k
  conn_run_keeps (step ∷ steps) conn k = conn_run_keeps steps (conn_after x conn step) (conn_keeps conn step k)

  pub empty_conn_keeps : ConnKeeps x empty_conn
  empty_conn_keeps = record { offered = (x.due [], refl); written = (x.text [] ++ [], refl) }
