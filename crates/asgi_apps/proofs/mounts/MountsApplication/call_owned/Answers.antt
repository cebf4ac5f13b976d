use Rattle.std.proofs.Common.{inl, inr}
use Rattle.std.proofs.lemmas.Result.{err_from_is_err_and}
use Rattle.asgi_apps.proofs.MountLemmas.{taken_by}
use Rattle.asgi_apps.proofs.mounts.MountsApplication.call_owned.Goals as goal

pub returns-in_err-call_owned-2-clause-failed : goal.returns-in_err-call_owned-2-clause-failed
returns-in_err-call_owned-2-clause-failed g c h =
    let p = err_from_is_err_and c.from_residual-in_err-call_owned-2.result c.from_residual-in_err-call_owned-2.ensures.1 in
    inl (taken_by c.args.self.now.mounts.items c.args.scope c.in-Some.at c.index-mount.result.now g.A.Application.refuses c.in-Some.ensures.some c.in-Some.ensures.within
    c.index-mount.ensures (c.in_err-call_owned-2.ensures.failed (cc (p.1, p.2, h))))

pub returns-clause-answers : goal.returns-clause-answers
returns-clause-answers g c heard said ended h =
    inr (inl (taken_by c.args.self.now.mounts.items c.args.scope c.in-Some.at c.index-mount.result.now (λ app scope. g.A.Application.answers app scope heard said ended)
    c.in-Some.ensures.some c.in-Some.ensures.within c.index-mount.ensures (c.in_ok-call_owned-2.ensures.answers heard said ended h)))
