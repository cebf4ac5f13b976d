use Rattle.std.proofs.Common.{take}
use Rattle.asgi_apps.specs.Mounts.{IsMounted, prefixes_of}
use Rattle.asgi_apps.proofs.mounting.is_mounted.Given as goal

abbrev pub invariant-loop-mount : goal.invariant-loop-mount
invariant-loop-mount g l = ¬ (IsMounted (prefixes_of (take l.mount-index l.mounts)) l.prefix)
