use Rattle.std.proofs.Common.{arith, ◌∙◌}
use Rattle.asgi_apps.proofs.MountLemmas.{longest_more}
use Rattle.asgi_apps.proofs.mounting.longest.Goals as goal

pub loop-at-preserved : goal.loop-at-preserved
loop-at-preserved g c =
    longest_more c.args.mounts.now c.loop-at.at c.index-mounts-at.result c.as_bytes.result.now c.args.path.now c.loop-at.found c.longer-found.result (omega arith)
    c.index-mounts-at.is (c.as_bytes.ensures.value ∙ c.as_str.ensures) c.longer-found.ensures c.loop-at.invariant
