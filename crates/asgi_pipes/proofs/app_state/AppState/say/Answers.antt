use Rattle.std.proofs.Common.{◌≡◌, [], ◌∷◌, ◌++◌, sym, ap, ◌∙◌}
use Rattle.std.specs.Prelude.{◌||◌}
use Rattle.std.proofs.Math.Logic.{∥∥₁_elim, ∥∥₁_map}
use denote.Struct.Props.{props}
use Rattle.asgi_protocol.specs.Shapes.{is_closed}
use Rattle.asgi_pipes.specs.Disconnects.{is_accept, has_disconnect}
use Rattle.asgi_pipes.specs.private.Closings.{at_once_after}
use Rattle.asgi_pipes.proofs.ClosingLemmas.{accepted-append, passed, answer_after, nothing_at_once, nothing_kept}
use Rattle.asgi_pipes.proofs.DisconnectLemmas.{hears_said}
use Rattle.asgi_pipes.proofs.app_state.AppState.say.Goals as goal

pub invariant_of-self-clause-judged : goal.invariant_of-self-clause-judged
invariant_of-self-clause-judged c = rw c.with.ensures c.requires.judge

pub invariant_of-self-clause-opened : goal.invariant_of-self-clause-opened
invariant_of-self-clause-opened c =
    let s = c.args.self.now in
    rw c.with.ensures (c.opens-self.ensures ∙ ap (λ b. b || is_accept c.args.event.now) s.opened ∙ sym (accepted-append s.said.items c.args.event.now))

pub invariant_of-self-clause-at_once : goal.invariant_of-self-clause-at_once
invariant_of-self-clause-at_once c =
    let s = c.args.self.now in
    let e = c.args.event.now in
    let said = s.said.items ++ e ∷ [] in
    let closed : c.is_closed-is_closed.result ≡ is_closed s.kind said =
    ∥∥₁_elim c.requires.judge (Prim.hlevel props) (λ stands. c.is_closed-is_closed.ensures s.kind s.facts said (has_disconnect s.heard.items) stands) in
    rw c.with.ensures
    (c.keep_after.ensures ∙ ap (λ b. at_once_after b s.kind c.opens-self.result e) closed
    ∙ ap (λ b. at_once_after (is_closed s.kind said) s.kind b e) (c.opens-self.ensures ∙ ap (λ b. b || is_accept e) s.opened)
    ∙ sym (answer_after s.kind s.said.items s.heard.items e (passed s.kind s.facts s.said.items s.heard.items e c.requires.passes)))

pub invariant_of-self-clause-hears_is : goal.invariant_of-self-clause-hears_is
invariant_of-self-clause-hears_is c =
    let s = c.args.self.now in
    let p = passed s.kind s.facts s.said.items s.heard.items c.args.event.now c.requires.passes in
    rw c.with.ensures (∥∥₁_map s.hears_is (hears_said s.kind s.said.items (s.said.items ++ c.args.event.now ∷ []) s.pulled.items s.heard.items p.open_is p.none))

pub keep_after-requires : goal.keep_after-requires
keep_after-requires c =
    let s = c.args.self.now in
    nothing_kept s.disconnect (s.at_once ∙ nothing_at_once s.kind s.said.items s.heard.items c.args.event.now (passed s.kind s.facts s.said.items s.heard.items c.args.event.now c.requires.passes))
