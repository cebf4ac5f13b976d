use Rattle.std.proofs.Common.{◌≡◌, ◌+◌, All, length, map}
use Rattle.asgi_reactor.specs.Shares.{known}
use Rattle.nomtsage.specs.Tables.{came_to, thread}
use Rattle.nomtsage.specs.private.Together.{IsWithin}
use Rattle.nomtsage.proofs.tables.settle.Given as goal

abbrev pub invariant-loop-post : goal.invariant-loop-post
invariant-loop-post g l = record {
  of : l.all.quota.now ≡ l.fn.quota;
  kept : All (λ p. IsWithin l.fn.quota p.reactor.told.items p.reactor.left p.reactor.ticketer) l.posts.items;
  spent : (known l.all).spent + came_to (map (λ p. thread p.reactor.told.items p.on_report p.reactor.why) l.posts.items)
      ≡ came_to (map (λ p. thread p.reactor.told.items p.on_report p.reactor.why) l.fn.posts.items);
}

abbrev pub decreases-loop-post : goal.decreases-loop-post
decreases-loop-post g l = length l.posts.items
