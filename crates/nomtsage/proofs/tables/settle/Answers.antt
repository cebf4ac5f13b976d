use Rattle.std.proofs.Common.{◌≡◌, [], ◌∷◌, ◌++◌, All, ap, rules, subst, ◌∙◌}
use Rattle.asgi_reactor.specs.Shares.{known}
use Rattle.nomtsage.specs.Tables.{thread}
use Rattle.nomtsage.specs.private.Together.{IsWithin}
use Rattle.nomtsage.proofs.TicketsLemmas.{absorbed, all_before}
use Rattle.nomtsage.proofs.tables.settle.Goals as goal

pub loop-post-preserved : goal.loop-post-preserved
loop-post-preserved g c =
    let was : c.loop-post.posts.items ≡ c.pop.new.self.items ++ c.in-Some.post ∷ [] = search rules in record {
      of = ap (λ q. q.now) c.absorb.ensures.of ∙ c.loop-post.invariant.of;
      kept = (all_before (λ p. IsWithin c.args.quota.now p.reactor.told.items p.reactor.left p.reactor.ticketer) c.pop.new.self.items c.in-Some.post
          (subst (λ l. All (λ p. IsWithin c.args.quota.now p.reactor.told.items p.reactor.left p.reactor.ticketer) l) was c.loop-post.invariant.kept)).0;
      spent = absorbed (λ p. thread p.reactor.told.items p.on_report p.reactor.why) c.loop-post.posts.items c.pop.new.self.items c.in-Some.post
          (known c.loop-post.all).spent (known c.absorb.new.all).spent _ was c.loop-post.invariant.spent c.absorb.ensures.spent;
    }
