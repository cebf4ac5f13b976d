use Rattle.std.proofs.Common.{◌≡◌, All, true, is_some, vec_len}
use Rattle.asgi_server.proofs.station.stations.Given as goal

abbrev pub invariant-loop-worker : goal.invariant-loop-worker
invariant-loop-worker g l = record {
  many : vec_len l.made ≡ l._worker;
  ready : All (λ s. is_some s.runner.kept ≡ true) l.made.items;
  fresh : All (λ s. s.pause.count ≡ 0) l.made.items;
}
