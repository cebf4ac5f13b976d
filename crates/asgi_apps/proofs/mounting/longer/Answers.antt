use Rattle.std.proofs.Common.{rules, ◌≡◌, false, true, arith}
use Rattle.asgi_apps.proofs.MountLemmas.{first_found, longer_found, not_longer, still_longest}
use Rattle.asgi_apps.proofs.mounting.longer.Goals as goal

pub returns-then-not-is_under : goal.returns-then-not-is_under
returns-then-not-is_under c prefixes n before =
    let no : c.is_under.result ≡ false = search rules in
    still_longest prefixes c.args.prefix.now c.args.path.now c.args.found (λ under. let yes = c.is_under.ensures.1 under in absurd (cc)) before

pub returns-then-prefix-before : goal.returns-then-prefix-before
returns-then-prefix-before c prefixes n before =
    not_longer prefixes c.args.prefix.now c.args.path.now c.in-Some.before (omega arith) (rw c.in-Some.is at before)

pub returns-else-prefix-before : goal.returns-else-prefix-before
returns-else-prefix-before c prefixes n before =
    let yes : c.is_under.result ≡ true = search rules in
    longer_found prefixes c.args.prefix.now c.args.path.now c.args.at c.in-Some.before n (c.is_under.ensures.0 yes) (omega arith) (rw c.in-Some.is at before)

pub returns-in_default : goal.returns-in_default
returns-in_default c prefixes n before =
    let yes : c.is_under.result ≡ true = search rules in
    first_found prefixes c.args.prefix.now c.args.path.now c.args.at n (c.is_under.ensures.0 yes) (rw c.in_default.is at before)
