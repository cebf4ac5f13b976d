use Rattle.std.proofs.Common.{take}
use Rattle.asgi_apps.specs.Mounting.{IsLongest}
use Rattle.asgi_apps.specs.Mounts.{prefixes_of}
use Rattle.asgi_apps.proofs.mounting.longest.Given as goal

abbrev pub invariant-loop-at : goal.invariant-loop-at
invariant-loop-at g l = IsLongest (prefixes_of (take l.at l.mounts)) l.path l.found
