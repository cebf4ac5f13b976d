use Rattle.std.proofs.Common.{rules}
use Rattle.asgi_apps.proofs.MountLemmas.{bad_where_ends, some_are}
use Rattle.asgi_apps.proofs.mounting.is_bad_prefix.Goals as goal

pub returns-else-not-starts_with : goal.returns-else-not-starts_with
returns-else-not-starts_with c =
    bad_where_ends c.args.prefix.now c.starts_with.result c.ends_with.result (search rules) c.starts_with.ensures.value c.ends_with.ensures.value
    (some_are c.args.prefix.now c.is_empty.result c.is_empty.ensures c.if-is_empty.false)
