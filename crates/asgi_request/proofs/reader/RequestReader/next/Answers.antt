use Rattle.std.proofs.Common.{◌≡◌, refl, ap, sym, ◌∙◌, subst, Some}
use Rattle.asgi_request.specs.Refusals.{status_of}
use Rattle.asgi_request.specs.Reading.{Reading, Keeps}
use Rattle.asgi_request.specs.private.Searches.{TakesText}
use Rattle.asgi_request.proofs.ReaderLemmas.{stepped_stands, stepped_result, text_stepped, answers_need, answers_bad, when_ok, when_err, both_ways}
use Rattle.asgi_request.proofs.StandardLemmas.{all_results}
use Rattle.asgi_request.proofs.reader.RequestReader.next.Goals as goal

pub returns-in-Stopped-clause-given : goal.returns-in-Stopped-clause-given
returns-in-Stopped-clause-given c result going =
    absurd (going (status_of c.in-Stopped.refusal) (c.in-Stopped.refusal, sym (ap (λ (r : Reading). r.place) c.self.view_is) ∙ c.in-Stopped.is, refl))

pub returns-in-Waits : goal.returns-in-Waits
returns-in-Waits c =
    let new = c.advance.new.self in
    let stays = c.in-Waits.ensures.advances in
    record {
      need = λ e bytes given stands. (stays.1 bytes given stands, all_results new.limits new.limits.block_in_range.0 bytes given new.place new.held (stays.1 bytes given stands) stays.0);
      waits = λ e. stays.0;
      given = λ result. absurd (result refl);
      refused = λ status e. absurd cc;
      again = λ status e. absurd (c.in_default.not-Stopped e.0 (ap (λ (r : Reading). r.place) c.self.view_is ∙ e.1));
      sure = λ status e. absurd (c.in_default.not-Stopped e.0 (ap (λ (r : Reading). r.place) c.self.view_is ∙ e.1));
      limits = c.advance.ensures.limits;
      capacity = c.advance.ensures.capacity;
      err = tt;
    }

pub returns-in-Gives : goal.returns-in-Gives
returns-in-Gives c =
    let mid = c.advance.new.self in
    let new = c.give.new.self in
    let n = c.in-Gives.n in
    let gives = c.in-Gives.ensures.advances in
    let P : Reading → Type 0 = λ r. Keeps c.args.self.now r in
    let ok = c.give.ensures.ok in
    let err = c.give.ensures.err in
    record {
      need = when_ok (λ item. TakesText mid new mid.place n item) _ c.give.result (λ item took e. absurd (answers_need mid new item (stepped_result mid new (Some item) (text_stepped mid new n item gives.1 took)) e)) ok;
      waits = when_ok (λ item. TakesText mid new mid.place n item) _ c.give.result (λ item took e. absurd (answers_need mid new item (stepped_result mid new (Some item) (text_stepped mid new n item gives.1 took)) e)) ok;
      given = when_ok (λ item. TakesText mid new mid.place n item) _ c.give.result (λ item took _ _ bytes given stands. stepped_stands mid new (Some item) (text_stepped mid new n item gives.1 took) bytes given (gives.0 bytes given stands)) ok;
      refused = when_ok (λ item. TakesText mid new mid.place n item) _ c.give.result (λ item took status e. answers_bad new item status (stepped_result mid new (Some item) (text_stepped mid new n item gives.1 took)) e) ok;
      again = when_ok (λ item. TakesText mid new mid.place n item) _ c.give.result (λ item took status e. absurd (c.in_default.not-Stopped e.0 (ap (λ (r : Reading). r.place) c.self.view_is ∙ e.1))) ok;
      sure = λ status e. absurd (c.in_default.not-Stopped e.0 (ap (λ (r : Reading). r.place) c.self.view_is ∙ e.1));
      limits = both_ways (λ item. TakesText mid new mid.place n item) (new ≡ mid) _ c.give.result (λ item took. ap (λ (r : Reading). r.limits) took.is_after ∙ c.advance.ensures.limits) (λ e. ap (λ (r : Reading). r.limits) e ∙ c.advance.ensures.limits) ok err;
      capacity = both_ways (λ item. TakesText mid new mid.place n item) (new ≡ mid) _ c.give.result (λ item took. ap (λ (r : Reading). r.capacity) took.is_after ∙ c.advance.ensures.capacity) (λ e. ap (λ (r : Reading). r.capacity) e ∙ c.advance.ensures.capacity) ok err;
      err = when_err (new ≡ mid) (Keeps c.args.self.now new) c.give.result (λ e. subst P (sym e) gives.0) err;
    }
