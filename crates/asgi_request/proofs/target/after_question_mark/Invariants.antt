use Rattle.std.proofs.Common.{◌≡◌, drop}
use Rattle.asgi_request.specs.Target as spec
use Rattle.asgi_request.proofs.target.after_question_mark.Given as goal

abbrev pub invariant-loop-i : goal.invariant-loop-i
invariant-loop-i l = spec.after_question_mark l.bytes ≡ spec.after_question_mark (drop l.i l.bytes)
