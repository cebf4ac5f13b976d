use Rattle.std.proofs.Common.{ap, sym, ◌∙◌, subst, Some}
use Rattle.asgi_request.specs.declared.next.Next.TheVariants.{Bad}
use Rattle.asgi_request.specs.Refusals.{status_of}
use Rattle.asgi_request.specs.Reading.{Reading, Keeps}
use Rattle.asgi_request.proofs.InsideLemmas.{silent_inside}
use Rattle.asgi_request.proofs.ReaderLemmas.{stepped_stands, silent_stands, refused_place}
use Rattle.asgi_request.proofs.reader.RequestReader.advance.Goals as goal

pub returns-in-TooLong-clause-advances : goal.returns-in-TooLong-clause-advances
returns-in-TooLong-clause-advances c =
    let P : Reading → Type 0 = λ r. Keeps c.args.self.now r in
    let kept = subst P (sym c.arrive.ensures.kept) c.loop-self.invariant.keeps in (
      λ bytes given stands. stepped_stands c.arrive.new.self c.stop.new.self (Some (Bad (status_of c.stop.result))) c.stop.ensures.steps bytes given (kept bytes given stands),
      c.stop.ensures.place,
    )

pub returns-in-Some-clause-advances : goal.returns-in-Some-clause-advances
returns-in-Some-clause-advances c =
    let P : Reading → Type 0 = λ r. Keeps c.args.self.now r in
    let kept = subst P (sym c.arrive.ensures.kept) c.loop-self.invariant.keeps in
    let place = refused_place c.pass.new.self.place c.in-Some.refusal c.in-Some.ensures.place in (
      λ bytes given stands. stepped_stands c.arrive.new.self c.pass.new.self (Some (Bad (status_of c.in-Some.refusal))) c.in-Some.ensures.steps bytes given (kept bytes given stands),
      place,
    )

pub loop-self-preserved : goal.loop-self-preserved
loop-self-preserved c =
    let P : Reading → Type 0 = λ r. Keeps c.args.self.now r in
    let kept = subst P (sym c.arrive.ensures.kept) c.loop-self.invariant.keeps in
    let stepped = c.in_default.ensures.steps in
    record {
      keeps = λ bytes given stands. silent_stands c.arrive.new.self c.pass.new.self stepped bytes given (kept bytes given stands);
      inside = λ _. silent_inside c.arrive.new.self c.pass.new.self stepped;
      limits = stepped.limits ∙ ap (λ (r : Reading). r.limits) c.arrive.ensures.kept ∙ c.loop-self.invariant.limits;
      capacity = stepped.capacity ∙ ap (λ (r : Reading). r.capacity) c.arrive.ensures.kept ∙ c.loop-self.invariant.capacity;
    }

pub returns-in-Partial-clause-inside : goal.returns-in-Partial-clause-inside
returns-in-Partial-clause-inside c inside e = c.loop-self.invariant.inside inside (sym (ap (λ (r : Reading). r.place) c.arrive.ensures.kept) ∙ e)

pub returns-then-not-is_silent-clause-inside : goal.returns-then-not-is_silent-clause-inside
returns-then-not-is_silent-clause-inside c inside e = c.loop-self.invariant.inside inside (sym (ap (λ (r : Reading). r.place) c.arrive.ensures.kept) ∙ e)
