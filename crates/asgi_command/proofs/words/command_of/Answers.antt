use Rattle.std.proofs.Common.{map, string_bytes}
use Rattle.asgi_command.proofs.WordLemmas.{no_command}
use Rattle.asgi_command.proofs.words.command_of.Goals as goal

pub returns-clause-none : goal.returns-clause-none
returns-clause-none c = no_command (map string_bytes c.args.words.now) c.serve_of.result c.in_default.ensures.none c.serve_of.ensures.none
