use Rattle.std.proofs.Common.{[], ◌∷◌, ◌++◌, None, refl, sym, inl, inr, arith}
use Rattle.asgi_many.specs.declared.reactor.Move.TheVariants.{Taken, NoneYet, NoneLeft}
use Rattle.asgi_many.proofs.ServingLemmas as lemma
use Rattle.asgi_many.proofs.serving.take_in.Goals as goal

pub returns-in-Ok : goal.returns-in-Ok
returns-in-Ok g c = record {
  sits = λ app limits asked places sits. (
    places ++ None ∷ [],
    inr refl,
    lemma.arrives _ _ _ _ _ _ _ limits _ asked _ _ places _ _ c.in-Arrived.newcomer c.in-Arrived.ensures.told c.in-Ok.ensures.limits.0
        (λ came holds. c.in-Ok.ensures.holds app came places holds) sits,
  );
  no_more = λ closed. lemma.asks_on closed;
  asked = lemma.one_more _ _ _ c.in-Arrived.ensures.told;
  seats = (Taken ∷ [], c.in-Arrived.ensures.moves, ((refl, omega (arith, c.requires.0)), tt), sym c.in-Ok.ensures.sits, refl, refl);
  places = c.in-Ok.ensures.limits.1;
  kept = c.in-Arrived.ensures.kept;
}

pub returns-in-NoneNow : goal.returns-in-NoneNow
returns-in-NoneNow g c = record {
  sits = λ app limits asked places sits. (places, inl refl, lemma.none_arrives _ _ _ _ _ _ _ limits _ asked _ _ places _ c.in-NoneNow.ensures.told sits);
  no_more = λ closed. lemma.waits_on closed;
  asked = lemma.one_more _ _ _ c.in-NoneNow.ensures.told;
  seats = (NoneYet ∷ [], c.in-NoneNow.ensures.moves, ((refl, omega (arith, c.requires.0)), tt), refl, refl, refl);
  places = refl;
  kept = c.in-NoneNow.ensures.kept;
}

pub returns-in-NoneEver : goal.returns-in-NoneEver
returns-in-NoneEver g c = record {
  sits = λ app limits asked places sits. (places, inl refl, lemma.none_will_arrive _ _ _ _ _ _ _ limits _ asked _ _ places _ c.in-NoneEver.ensures.told sits);
  no_more = λ closed. c.in-NoneEver.ensures.told;
  asked = lemma.one_more _ _ _ c.in-NoneEver.ensures.told;
  seats = (NoneLeft ∷ [], c.in-NoneEver.ensures.moves, ((refl, omega (arith, c.requires.0)), tt), refl, refl, refl);
  places = refl;
  kept = c.in-NoneEver.ensures.kept;
}
