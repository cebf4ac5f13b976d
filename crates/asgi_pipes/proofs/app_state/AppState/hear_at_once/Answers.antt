use Rattle.std.proofs.Common.{Some, sym, ap, ◌∙◌}
use Rattle.std.proofs.Math.Logic.{∥∥₁_map}
use Rattle.std.specs.Option.{option_map}
use Rattle.asgi_pipes.specs.Disconnects.{event_of}
use Rattle.asgi_pipes.proofs.DisconnectLemmas.{answer_again, hears_again}
use Rattle.asgi_pipes.proofs.JudgedLemmas.{stands_heard}
use Rattle.asgi_pipes.proofs.app_state.AppState.hear_at_once.Goals as goal

pub invariant_of-self-clause-judged : goal.invariant_of-self-clause-judged
invariant_of-self-clause-judged c =
    let s = c.args.self.now in
    rw c.with.ensures (stands_heard s.judge c.heard.new.self s.kind s.facts s.said.items s.heard.items c.event-event.result c.heard.ensures s.judged)

pub invariant_of-self-clause-at_once : goal.invariant_of-self-clause-at_once
invariant_of-self-clause-at_once c =
    let s = c.args.self.now in
    let found = sym s.at_once ∙ ap (option_map event_of) c.in-Some.is ∙ ap (λ x. Some x) (sym c.event-event.ensures) in
    rw c.with.ensures (s.at_once ∙ found ∙ sym (answer_again s.kind s.said.items s.heard.items c.event-event.result found))

pub invariant_of-self-clause-hears_is : goal.invariant_of-self-clause-hears_is
invariant_of-self-clause-hears_is c =
    let s = c.args.self.now in
    let found = sym s.at_once ∙ ap (option_map event_of) c.in-Some.is ∙ ap (λ x. Some x) (sym c.event-event.ensures) in
    rw c.with.ensures (∥∥₁_map s.hears_is (hears_again s.kind s.said.items s.pulled.items s.heard.items c.event-event.result found))
