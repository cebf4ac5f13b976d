use Rattle.std.proofs.Common.{◌∙◌}
use Rattle.asgi_command.proofs.TellingLemmas.{failed_stop_is_told}
use Rattle.asgi_command.proofs.ending.Ending.tell.Goals as goal

pub returns-in-ShutdownFailed-clause-tells : goal.returns-in-ShutdownFailed-clause-tells
returns-in-ShutdownFailed-clause-tells g c =
    failed_stop_is_told c.args.self c.in-ShutdownFailed.message c.as_bytes-in-ShutdownFailed.result.now _ _ c.in-ShutdownFailed.is
    (c.as_bytes-in-ShutdownFailed.ensures.value ∙ c.as_str-in-ShutdownFailed.ensures) c.tell_failure-in-ShutdownFailed.ensures
