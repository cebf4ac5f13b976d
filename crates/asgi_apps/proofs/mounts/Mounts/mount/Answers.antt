use Rattle.std.proofs.Common.{is_ok, ◌∙◌}
use Rattle.asgi_apps.proofs.MountLemmas.{good_prefix, new_prefix, once_pushed}
use Rattle.asgi_apps.proofs.mounts.Mounts.mount.Goals as goal

pub invariant_of-self : goal.invariant_of-self
invariant_of-self g c = record {
  once = once_pushed c.args.self.now.mounts.items c.push.new.self.items (is_ok c.push.result) (record { prefix = c.args.prefix; app = c.args.app }) c.push.ensures.items
      c.args.self.now.once
      (new_prefix c.is_mounted.result c.as_slice.result.now c.args.self.now.mounts.items c.as_bytes-2.result.now c.args.prefix c.is_mounted.ensures c.if-is_mounted.false
      c.as_slice.ensures.value (c.as_bytes-2.ensures.value ∙ c.as_str-2.ensures));
}

pub returns-in-Err-clause-bad_prefix : goal.returns-in-Err-clause-bad_prefix
returns-in-Err-clause-bad_prefix g c =
    let good = good_prefix c.is_bad_prefix.result c.as_bytes.result.now c.args.prefix c.is_bad_prefix.ensures c.if-is_bad_prefix.false (c.as_bytes.ensures.value ∙ c.as_str.ensures) in
    (λ other. absurd (cc), λ bad. absurd (good bad))

pub returns-clause-bad_prefix : goal.returns-clause-bad_prefix
returns-clause-bad_prefix g c =
    let good = good_prefix c.is_bad_prefix.result c.as_bytes.result.now c.args.prefix c.is_bad_prefix.ensures c.if-is_bad_prefix.false (c.as_bytes.ensures.value ∙ c.as_str.ensures) in
    (λ other. absurd (cc), λ bad. absurd (good bad))
