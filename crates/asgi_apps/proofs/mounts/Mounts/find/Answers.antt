use Rattle.std.proofs.Common.{ap, ◌∙◌}
use Rattle.asgi_apps.specs.Mounts.{local_path}
use Rattle.asgi_apps.proofs.MountLemmas.{unmounted}
use Rattle.asgi_apps.proofs.mounts.Mounts.find.Goals as goal

pub returns-in_err-found-clause-none : goal.returns-in_err-found-clause-none
returns-in_err-found-clause-none g c =
    rw c.from_residual.ensures
    (unmounted c.as_slice.result.now c.args.self.now.mounts.items c.local_of-local.result.now (local_path c.args.path.now c.args.root_path.now) c.as_slice.ensures.value
    (c.local_of-local.ensures ∙ ap (λ p. local_path p c.as_bytes-2.result.now) c.as_bytes.ensures.value ∙ ap (λ r. local_path c.args.path.now r) c.as_bytes-2.ensures.value)
    c.in_err-found.ensures)
