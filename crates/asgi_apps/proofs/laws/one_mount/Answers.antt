use Rattle.asgi_apps.proofs.MountLemmas.{one_mount}
use Rattle.asgi_apps.proofs.laws.one_mount.Goals as goal

pub returns : goal.returns
returns c = one_mount
