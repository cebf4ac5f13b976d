use Rattle.std.proofs.Common.{rules, ◌≡◌, pos}
use Rattle.std.specs.Duration.{as_nanos}
use Rattle.asgi_log.proofs.moment.moment_after.Goals as goal

pub returns-in-Ok-clause-moment : goal.returns-in-Ok-clause-moment
returns-in-Ok-clause-moment c =
    let same : c.in-Ok.moment.nanosecond ≡ pos (as_nanos c.args.since_1970) = search rules in
    rw same at c.text_of.ensures
