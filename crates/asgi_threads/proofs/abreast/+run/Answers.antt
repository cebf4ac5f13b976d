use Rattle.std.proofs.Common.{◌≡◌, [], ◌∷◌, ◌++◌, ap, subst, ◌∙◌, rules}
use Rattle.asgi_threads.specs.Abreast.{Did}
use Rattle.asgi_threads.proofs.EachLemmas.{one_joined}
use Rattle.asgi_threads.proofs.abreast.+run.Goals as goal

pub returns-in-Ok-clause-did : goal.returns-in-Ok-clause-did
returns-in-Ok-clause-did g t c =
    let was : c.args.parts.items ≡ c.pop.new.self.items ++ c.in-Some.part ∷ [] = search rules in
    let promise = c.in-Ok.child.promise in
    let same : promise.part.value ≡ c.in-Some.part = search rules in
    let same-how : promise.how.value ≡ c.args.how.now = ap (λ k. k.how.value) c.in-Ok.ensures.ok ∙ c.of.ensures in
    let worked = c.join.result in
    let did = subst (λ (e : g.row.E.Denot). Did (g.E.Works.works e) worked.seen.value c.in-Some.part worked.part) same-how
    (subst (λ (w : g.row.W.Denot). Did (g.E.Works.works promise.how.value) worked.seen.value w worked.part) same c.join.ensures.1) in
    one_joined (g.E.Works.works c.args.how.now) _ _ _ _ _ _ _ _ _ c.run-so_far-in-Ok.ensures.did did c.joined-in-Ok.ensures.agrees c.joined-in-Ok.ensures.seen.1 was c.joined-in-Ok.ensures.parts

pub returns-in-Err-clause-did : goal.returns-in-Err-clause-did
returns-in-Err-clause-did g t c =
    let was : c.args.parts.items ≡ c.pop.new.self.items ++ c.in-Some.part ∷ [] = search rules in
    let worked = c.spawn_with-in-Err.result in
    let did : Did (g.E.Works.works c.args.how.now) worked.seen.value c.in-Some.part worked.part = search rules in
    one_joined (g.E.Works.works c.args.how.now) _ _ _ _ _ _ _ _ _ c.run-so_far-in-Err.ensures.did did c.joined-in-Err.ensures.agrees c.joined-in-Err.ensures.seen.1 was c.joined-in-Err.ensures.parts
