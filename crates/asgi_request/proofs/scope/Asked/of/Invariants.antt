use Rattle.std.proofs.Common.{◌≡◌, ◌||◌}
use Rattle.std.specs.Prelude.{codes}
use Rattle.asgi_types.specs.Tokens.{has_token}
use Rattle.asgi_request.proofs.scope.Asked.of.Given as goal

abbrev pub invariant-loop-name : goal.invariant-loop-name
invariant-loop-name l = record {
  close : has_token l.headers (codes "connection") (codes "close") ≡ (l.asked.close || has_token l.name-iterator (codes "connection") (codes "close"));
  trailers : has_token l.headers (codes "te") (codes "trailers") ≡ (l.asked.trailers || has_token l.name-iterator (codes "te") (codes "trailers"));
}
