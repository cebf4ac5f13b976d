use Rattle.std.proofs.Common.{◌≡◌, ℕ, ◌⊎◌, inl, inr, Some, List, [], ◌∷◌, codes}
use Rattle.asgi_types.specs.declared.incoming.Incoming.{Incoming}
use Rattle.asgi_types.specs.declared.incoming.Incoming.TheVariants.{WsDisconnect}
use Rattle.asgi_types.specs.declared.incoming.Payload.TheVariants as payload
use Rattle.asgi_types.specs.declared.scope.Kind.TheVariants.{WebSocket}
use Rattle.asgi_protocol.proofs.LawLemmas.{tests_agree}
use Rattle.asgi_exchange.specs.Heard.{Cause, Closed, Input, Cut}
use Rattle.asgi_exchange.specs.LeftOut.{break_ever, with_conn, bare_session}
use Rattle.asgi_ws.specs.declared.messages.Msg.{Msg}
use Rattle.asgi_ws.specs.declared.messages.Msg.TheVariants.{Close}
use Rattle.asgi_exchange.specs.Schedules.{run, Arrive, Offer, BreakOff, Hear}
use Rattle.asgi_exchange.specs.Session.{Output}
use Rattle.asgi_exchange.specs.Views.{ByInput, ByCut, World, empty_world}
use Rattle.asgi_exchange.proofs.conditions.breaks_are_last.Goals as goal
use Rattle.asgi_exchange.proofs.LeftOutLemmas.{another_heard, offered_after}

pub returns-clause-once : goal.returns-clause-once
returns-clause-once c x =
    let h = x.heard in
    another_heard h.events h.times h.disconnect h.in_order h.due (by h.times h.events h.disconnect h.cause)
  where
    cut_after : World Msg Output
    cut_after = with_conn (run bare_session (Offer ∷ Arrive (Close (Some (1000, [])) ∷ []) ∷ BreakOff ByInput ∷ Hear ∷ Hear ∷ []) empty_world) (λ conn. break_ever bare_session conn ByCut)

    by : (times : ℕ) (events : List Incoming) (one : Incoming) → (times ≡ 0) ⊎ Cause bare_session cut_after events one → (times ≡ 0) ⊎ (one ≡ WsDisconnect 1006 [])
    by times events one (inl none) = inl none
    by times events one (inr (Closed c d)) = absurd (let t = (tests_agree.closed WebSocket []).1 c in cc (t))
    by times events one (inr (Input b e d)) = absurd (cc (b))
    by times events one (inr (Cut b d)) = inr d

pub returns-clause-nothing_offered_after : goal.returns-clause-nothing_offered_after
returns-clause-nothing_offered_after c x = let o = x.offered in offered_after (payload.Text (codes "late")) o.0 o.2
