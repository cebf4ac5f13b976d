use Rattle.std.proofs.Common.{refl, sym, ◌∙◌}
use Rattle.asgi_many.proofs.StandingLemmas.{same_values, sits}
use Rattle.asgi_many.proofs.StepLemmas.{if_over}
use Rattle.asgi_many.proofs.seat.Seat.turn.Goals as goal

pub look-requires : goal.look-requires
look-requires g c =
    let (limits, one, at) = c.requires in
    (limits, g.L.Line.state one.line, 0, same_values _ _ _ _ _ _ _ _ at.setting _ (at.client ∙ sym at.is_client) (at.server ∙ sym at.is_server) (sym at.is_state) 0 _ _ _ at.stands)

pub returns-in-Wake-clause-at : goal.returns-in-Wake-clause-at
returns-in-Wake-clause-at g c limits one at = sits (c.look.ensures.stands limits (g.L.Line.state one.line) 0
    (same_values _ _ _ _ _ _ _ _ at.setting _ (at.client ∙ sym at.is_client) (at.server ∙ sym at.is_server) (sym at.is_state) 0 _ _ _ at.stands))
    refl at.client at.server refl at.client at.server

pub returns-in-Wake-clause-served : goal.returns-in-Wake-clause-served
returns-in-Wake-clause-served g c = if_over c.look.result c.look.ensures.over (λ report serves limits one at.
    rw (← at.client, ← at.server) (serves limits (g.L.Line.state one.line) 0
    (same_values _ _ _ _ _ _ _ _ at.setting _ (at.client ∙ sym at.is_client) (at.server ∙ sym at.is_server) (sym at.is_state) 0 _ _ _ at.stands)))

pub turn-requires : goal.turn-requires
turn-requires g c =
    let (limits, one, at) = c.requires in
    (limits, g.L.Line.state one.line, 0, same_values _ _ _ _ _ _ _ _ at.setting _ (at.client ∙ sym at.is_client) (at.server ∙ sym at.is_server) (sym at.is_state) 0 _ _ _ at.stands)

pub returns-in-Tick-clause-at : goal.returns-in-Tick-clause-at
returns-in-Tick-clause-at g c limits one at = sits (c.turn.ensures.stands limits (g.L.Line.state one.line) 0
    (same_values _ _ _ _ _ _ _ _ at.setting _ (at.client ∙ sym at.is_client) (at.server ∙ sym at.is_server) (sym at.is_state) 0 _ _ _ at.stands))
    refl at.client at.server refl at.client at.server

pub returns-in-Tick-clause-served : goal.returns-in-Tick-clause-served
returns-in-Tick-clause-served g c = if_over c.turn.result c.turn.ensures.over (λ report serves limits one at.
    rw (← at.client, ← at.server) (serves limits (g.L.Line.state one.line) 0
    (same_values _ _ _ _ _ _ _ _ at.setting _ (at.client ∙ sym at.is_client) (at.server ∙ sym at.is_server) (sym at.is_state) 0 _ _ _ at.stands)))
