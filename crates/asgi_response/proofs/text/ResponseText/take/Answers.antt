use Rattle.std.specs.Vec.{vec_len, vec_capacity}
use Rattle.asgi_response.proofs.RefusalLemmas.{then_ok, then_err}
use Rattle.asgi_response.proofs.StandingLemmas.{stands_after, grows_after, lacks_after}
use Rattle.asgi_response.proofs.DenialTextLemmas.{denies_after, denial_grows, denial_lacks}
use Rattle.asgi_response.proofs.text.ResponseText.take.Goals as goal

pub returns-clause-ok : goal.returns-clause-ok
returns-clause-ok c =
    then_ok c.step.result c.step.ensures.ok
    (λ e. λ facts events at. stands_after c.args.self.now c.step.new.self facts events c.args.event.now e at)

pub returns-clause-text : goal.returns-clause-text
returns-clause-text c =
    then_ok c.step.result c.step.ensures.text
    (λ e. λ facts events at. grows_after c.args.self.now facts events c.args.event.now c.args.out.now.items c.step.new.out.items e at)

pub returns-clause-full : goal.returns-clause-full
returns-clause-full c =
    then_err c.step.result c.step.ensures.full
    (λ h. λ facts events at. lacks_after c.args.self.now facts events c.args.event.now (vec_capacity c.args.out.now) (vec_len c.args.out.now) h at)

pub returns-clause-denial : goal.returns-clause-denial
returns-clause-denial c =
    then_ok c.step.result c.step.ensures.ok
    (λ e. λ facts events at lawful. denies_after c.args.self.now c.step.new.self facts events c.args.event.now e lawful at)

pub returns-clause-denial_text : goal.returns-clause-denial_text
returns-clause-denial_text c =
    then_ok c.step.result c.step.ensures.text
    (λ e. λ facts events at lawful. denial_grows c.args.self.now facts events c.args.event.now c.args.out.now.items c.step.new.out.items e lawful at)

pub returns-clause-denial_full : goal.returns-clause-denial_full
returns-clause-denial_full c =
    then_err c.step.result c.step.ensures.full
    (λ h. λ facts events at lawful. denial_lacks c.args.self.now facts events c.args.event.now (vec_capacity c.args.out.now) (vec_len c.args.out.now) h lawful at)
