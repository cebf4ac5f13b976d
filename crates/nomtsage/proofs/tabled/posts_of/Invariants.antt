use Rattle.std.proofs.Common.{◌≡◌, ◌+◌, [], None, Some, All, vec_len}
use Rattle.asgi_reactor.specs.Shares.{quota_of}
use Rattle.nomtsage.specs.private.Together.{IsWithin}
use Rattle.nomtsage.proofs.tabled.posts_of.Given as goal

abbrev pub invariant-loop-other : goal.invariant-loop-other
invariant-loop-other g l = record {
  many : vec_len l.posts + 1 ≡ l._other;
  fresh : All (λ p. (p.reactor.told.items ≡ []) × (p.reactor.why ≡ None) × (p.on_report ≡ l.fn.on_report)) l.posts.items;
  kept : All (λ p. IsWithin l.fn.quota p.reactor.told.items p.reactor.left p.reactor.ticketer) l.posts.items;
  first : (l.first.told.items ≡ []) × (l.first.why ≡ None) × IsWithin l.fn.quota l.first.told.items l.first.left l.first.ticketer;
  quota : quota_of l.first.ticketer ≡ Some l.fn.quota;
  set : l.on_report ≡ l.fn.on_report;
}
