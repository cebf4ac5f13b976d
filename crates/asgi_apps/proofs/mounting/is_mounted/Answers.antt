use Rattle.std.proofs.Common.{arith, refl, sym, ◌∙◌}
use Rattle.std.proofs.lemmas.Bool.Decides.{Decides-eqb}
use Rattle.std.proofs.lemmas.Slice.Eq.{slice_eq-Decides}
use Rattle.asgi_apps.proofs.MountLemmas.{mounted_here, not_mounted_more}
use Rattle.asgi_apps.proofs.mounting.is_mounted.Goals as goal

pub returns-then-eq : goal.returns-then-eq
returns-then-eq g c =
    let same = (slice_eq-Decides Decides-eqb c.as_bytes.result.now c.args.prefix.now c.eq.result c.eq.ensures).0 c.if-eq.true in (
      λ h. mounted_here c.args.mounts.now c.loop-mount.mount-index c.mount-item.result c.args.prefix.now (omega arith) c.mount-item.is
          (sym c.as_str.ensures ∙ sym c.as_bytes.ensures.value ∙ same),
      λ mounted. refl,
    )

pub loop-mount-preserved : goal.loop-mount-preserved
loop-mount-preserved g c =
    not_mounted_more c.args.mounts.now c.loop-mount.mount-index c.mount-item.result c.args.prefix.now (omega arith) c.mount-item.is
    (λ same. let yes = (slice_eq-Decides Decides-eqb c.as_bytes.result.now c.args.prefix.now c.eq.result c.eq.ensures).1 (c.as_bytes.ensures.value ∙ c.as_str.ensures ∙ same) in absurd (cc))
    c.loop-mount.invariant
