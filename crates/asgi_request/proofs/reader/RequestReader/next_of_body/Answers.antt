use Rattle.std.proofs.Common.{◌≡◌, refl, ap, sym, ◌∙◌, subst, Some}
use Rattle.asgi_request.specs.BodyResults.{next_of}
use Rattle.asgi_request.specs.Refusals.{status_of}
use Rattle.asgi_request.specs.Reading.{Reading, Keeps}
use Rattle.asgi_request.specs.private.Searches.{TakesText}
use Rattle.asgi_request.proofs.InsideLemmas.{start_ends}
use Rattle.asgi_request.proofs.ReaderLemmas.{stepped_stands, stepped_result, text_stepped, answers_need, answers_bad, when_ok, when_err, both_ways}
use Rattle.asgi_request.proofs.StandardLemmas.{all_results}
use Rattle.asgi_request.proofs.reader.RequestReader.next_of_body.Goals as goal

pub returns-in-Stopped-clause-given : goal.returns-in-Stopped-clause-given
returns-in-Stopped-clause-given c result going =
    absurd (going (status_of c.in-Stopped.refusal) (c.in-Stopped.refusal, sym (ap (λ (r : Reading). r.place) c.self.view_is) ∙ c.in-Stopped.is, refl))

pub returns-in-Start : goal.returns-in-Start
returns-in-Start c =
    let r = c.args.self.now in
    let start = sym (ap (λ (r : Reading). r.place) c.self.view_is) ∙ c.in-Start.is in
    record {
      need = λ e. absurd cc;
      waits = λ e. absurd cc;
      given = λ _ _ bytes given stands inside. absurd (inside (start_ends r.limits bytes given r.place r.held stands start));
      between = λ awaits. (refl, refl);
      refused = λ status e. absurd cc;
      again = λ status e. absurd (c.in_default.not-Stopped e.0 (ap (λ (r : Reading). r.place) c.self.view_is ∙ e.1));
      sure = λ status e. refl;
      limits = refl;
      capacity = refl;
      err = tt;
    }

pub returns-in-Waits : goal.returns-in-Waits
returns-in-Waits c =
    let new = c.advance.new.self in
    let stays = c.in-Waits.ensures.advances in
    record {
      need = λ e bytes given stands. (stays.1 bytes given stands, all_results new.limits new.limits.block_in_range.0 bytes given new.place new.held (stays.1 bytes given stands) stays.0);
      waits = λ e. stays.0;
      given = λ result. absurd (result refl);
      between = λ awaits. absurd (c.in_default-place.not-Start (ap (λ (r : Reading). r.place) c.self.view_is ∙ awaits));
      refused = λ status e. absurd cc;
      again = λ status e. absurd (c.in_default.not-Stopped e.0 (ap (λ (r : Reading). r.place) c.self.view_is ∙ e.1));
      sure = λ status e. absurd (c.in_default.not-Stopped e.0 (ap (λ (r : Reading). r.place) c.self.view_is ∙ e.1));
      limits = c.advance.ensures.limits;
      capacity = c.advance.ensures.capacity;
      err = tt;
    }

pub returns-in-Gives : goal.returns-in-Gives
returns-in-Gives c =
    let mid = c.advance.new.self in
    let new = c.give_body.new.self in
    let n = c.in-Gives.n in
    let gives = c.in-Gives.ensures.advances in
    let P : Reading → Type 0 = λ r. Keeps c.args.self.now r in
    let ok = c.give_body.ensures.ok in
    let err = c.give_body.ensures.err in
    record {
      need = when_ok (λ item. TakesText mid new mid.place n (next_of item)) _ c.give_body.result (λ item took e. absurd (answers_need mid new (next_of item) (stepped_result mid new (Some (next_of item)) (text_stepped mid new n (next_of item) gives.1 took)) e)) ok;
      waits = when_ok (λ item. TakesText mid new mid.place n (next_of item)) _ c.give_body.result (λ item took e. absurd (answers_need mid new (next_of item) (stepped_result mid new (Some (next_of item)) (text_stepped mid new n (next_of item) gives.1 took)) e)) ok;
      given = when_ok (λ item. TakesText mid new mid.place n (next_of item)) _ c.give_body.result (λ item took _ _ bytes given stands _. stepped_stands mid new (Some (next_of item)) (text_stepped mid new n (next_of item) gives.1 took) bytes given (gives.0 bytes given stands)) ok;
      between = λ awaits. absurd (c.in_default-place.not-Start (ap (λ (r : Reading). r.place) c.self.view_is ∙ awaits));
      refused = when_ok (λ item. TakesText mid new mid.place n (next_of item)) _ c.give_body.result (λ item took status e. answers_bad new (next_of item) status (stepped_result mid new (Some (next_of item)) (text_stepped mid new n (next_of item) gives.1 took)) e) ok;
      again = when_ok (λ item. TakesText mid new mid.place n (next_of item)) _ c.give_body.result (λ item took status e. absurd (c.in_default.not-Stopped e.0 (ap (λ (r : Reading). r.place) c.self.view_is ∙ e.1))) ok;
      sure = λ status e. absurd (c.in_default.not-Stopped e.0 (ap (λ (r : Reading). r.place) c.self.view_is ∙ e.1));
      limits = both_ways (λ item. TakesText mid new mid.place n (next_of item)) (new ≡ mid) _ c.give_body.result (λ item took. ap (λ (r : Reading). r.limits) took.is_after ∙ c.advance.ensures.limits) (λ e. ap (λ (r : Reading). r.limits) e ∙ c.advance.ensures.limits) ok err;
      capacity = both_ways (λ item. TakesText mid new mid.place n (next_of item)) (new ≡ mid) _ c.give_body.result (λ item took. ap (λ (r : Reading). r.capacity) took.is_after ∙ c.advance.ensures.capacity) (λ e. ap (λ (r : Reading). r.capacity) e ∙ c.advance.ensures.capacity) ok err;
      err = when_err (new ≡ mid) (Keeps c.args.self.now new) c.give_body.result (λ e. subst P (sym e) gives.0) err;
    }
