use Rattle.asgi_command.proofs.ServingLemmas.{two_by}
use Rattle.asgi_command.proofs.apps.mounts.Goals as goal

pub returns : goal.returns
returns c =
    two_by c.new-mounts.result.mounts.items c.mount.new.mounts.mounts.items c.mount-2.new.mounts.mounts.items c.in_ok-chars.field-0 c.in_ok-chars-2.field-0
    c.new-mounts.ensures c.in_ok-mount.ensures.ok c.in_ok-mount-2.ensures.ok c.in_ok-chars.ensures c.in_ok-chars-2.ensures
