use Rattle.std.proofs.Common.{sym, ◌∙◌}
use Rattle.std.proofs.Math.Logic.{∥∥₁_map}
use Rattle.asgi_pipes.proofs.ClosingLemmas.{nothing_kept}
use Rattle.asgi_pipes.proofs.DisconnectLemmas.{answer_next, hears_next}
use Rattle.asgi_pipes.proofs.JudgedLemmas.{stands_heard}
use Rattle.asgi_pipes.proofs.app_state.AppState.hear.Goals as goal

pub invariant_of-self-clause-judged : goal.invariant_of-self-clause-judged
invariant_of-self-clause-judged c =
    let s = c.args.self.now in
    rw c.with.ensures (stands_heard s.judge c.heard.new.self s.kind s.facts s.said.items s.heard.items c.args.event.now c.heard.ensures s.judged)

pub invariant_of-self-clause-at_once : goal.invariant_of-self-clause-at_once
invariant_of-self-clause-at_once c =
    let s = c.args.self.now in
    rw c.with.ensures (c.keep_heard.ensures ∙ sym (answer_next s.kind s.said.items s.heard.items c.args.event.now c.requires))

pub invariant_of-self-clause-hears_is : goal.invariant_of-self-clause-hears_is
invariant_of-self-clause-hears_is c =
    let s = c.args.self.now in
    rw (c.with.ensures, c.with-2.ensures) (∥∥₁_map s.hears_is (hears_next s.kind s.said.items s.pulled.items s.heard.items c.args.event.now c.requires))

pub keep_heard-requires : goal.keep_heard-requires
keep_heard-requires c = nothing_kept c.args.self.now.disconnect (c.args.self.now.at_once ∙ c.requires)
