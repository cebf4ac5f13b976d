-- Answered requests stay answered if more bytes come and once the end of the input is seen, and one more comes after them.
use Rattle.std.proofs.Common.{◌≡◌, ℕ, Bool, true, false, List, [], ◌∷◌, ◌++◌, inl, inr, refl, sym, ap, ◌∙◌, append_assoc, append-nil, subst}
use Rattle.asgi_types.specs.declared.end_kind.EndKind.{EndKind}
use Rattle.asgi_types.specs.declared.end_kind.EndKind.TheVariants as kind
use Rattle.asgi_types.specs.declared.limits.Limits.{Limits}
use Rattle.asgi_request.specs.ChunkedBody.{complete}
use Rattle.asgi_request.proofs.BodyOfLemmas.{whole_grows}
use Rattle.asgi_request.proofs.StartLemmas.{begins_grows}
use Rattle.asgi_response.specs.declared.progress.Progress.{Progress}
use Rattle.asgi_response.specs.declared.progress.Progress.TheVariants.{Nothing, Begun, Complete}
use Rattle.asgi_response.specs.declared.refusal.Input.TheVariants as input
use Rattle.asgi_response.specs.Progress.{progress_of}
use Rattle.asgi_conversation.specs.declared.following.NextStep.TheVariants.{NextRequest}
use Rattle.asgi_conversation.specs.declared.input.InputEnd.{InputEnd}
use Rattle.asgi_conversation.specs.TaskEnds.{has_ended, after_task}
use Rattle.asgi_conversation.specs.Exchanges.{ServesFirst, IsFollowed, out_text, AreAnswered, answer_texts}
use Rattle.asgi_conversation.specs.ExchangeRecord.{ExchangeRecord}

-- ---- more bytes

serves_grows : (limits : Limits) (end : InputEnd) (cut : Bool) (bytes more : List ℕ) (x : ExchangeRecord) (rest : List ℕ)
    → ServesFirst limits end cut bytes x (complete rest) → ServesFirst limits end cut (bytes ++ more) x (complete (rest ++ more))
serves_grows limits end cut bytes more x rest s = record {
  arrived = s.arrived ++ more;
  events = s.events;
  head = begins_grows limits bytes more x.scope x.facts s.arrived s.head;
  body = whole_grows limits x.facts.framing s.arrived more s.events rest s.body;
  hears = s.hears;
  lawful = s.lawful;
  breaks = s.breaks;
}

-- what comes after a whole body does not matter
whole_follows : (kind : EndKind) (progress : Progress) (rest other : List ℕ) (input_broke : Bool) → after_task kind progress (complete rest) input_broke ≡ after_task kind progress (complete other) input_broke
whole_follows kind.Returned Nothing rest other input_broke = refl
whole_follows kind.Returned Begun rest other input_broke = refl
whole_follows kind.Returned (Complete true) rest other input_broke = refl
whole_follows kind.Returned (Complete false) rest other input_broke = refl
whole_follows kind.Faulted Nothing rest other input_broke = refl
whole_follows kind.Faulted Begun rest other input_broke = refl
whole_follows kind.Faulted (Complete true) rest other input_broke = refl
whole_follows kind.Faulted (Complete false) rest other input_broke = refl
whole_follows kind.Idle progress rest other input_broke = refl

pub answered_grow : (limits : Limits) (end : InputEnd) (bytes more : List ℕ) (exchanges : List ExchangeRecord) (after : List ℕ)
    → AreAnswered limits end bytes exchanges after → AreAnswered limits end (bytes ++ more) exchanges (after ++ more)
answered_grow limits end bytes more [] after a = ap (λ (l : List ℕ). l ++ more) a
answered_grow limits end bytes more (x ∷ exchanges) after a =
    let f = a.2 in (
      a.0 ++ more,
      serves_grows limits end false bytes more x a.0 a.1,
      (f.0, f.1, whole_follows f.0 (progress_of x.facts x.said) (a.0 ++ more) a.0 x.input_broke ∙ f.2),
      answered_grow limits end a.0 more exchanges after a.3,
    )

-- ---- the end of the input

pub answered_end : (limits : Limits) (old new : InputEnd) (bytes : List ℕ) (exchanges : List ExchangeRecord) (after : List ℕ) → (has_ended old ≡ true → has_ended new ≡ true)
    → AreAnswered limits old bytes exchanges after → AreAnswered limits new bytes exchanges after
answered_end limits old new bytes [] after on a = a
answered_end limits old new bytes (x ∷ exchanges) after on a =
    let s = a.1 in (
      a.0,
      record {
        arrived = s.arrived;
        events = s.events;
        head = s.head;
        body = s.body;
        hears = s.hears;
        lawful = s.lawful;
        breaks = λ b. (elim (s.breaks b) [ inl e ↦ inl (on e) | inr e ↦ inr e ]);
      },
      a.2,
      answered_end limits old new a.0 exchanges after on a.3,
    )

-- ---- one more

pub answered_more : (limits : Limits) (end : InputEnd) (bytes : List ℕ) (exchanges : List ExchangeRecord) (middle : List ℕ) (x : ExchangeRecord) (after : List ℕ)
    → AreAnswered limits end bytes exchanges middle → ServesFirst limits end false middle x (complete after) → IsFollowed x (complete after) NextRequest
    → AreAnswered limits end bytes (exchanges ++ x ∷ []) after
answered_more limits end bytes [] middle x after a s f = (after, subst (λ (l : List ℕ). ServesFirst limits end false l x (complete after)) (sym a) s, f, refl)
answered_more limits end bytes (y ∷ exchanges) middle x after a s f = (a.0, a.1, a.2, answered_more limits end a.0 exchanges middle x after a.3 s f)

pub texts_more : (exchanges : List ExchangeRecord) (x : ExchangeRecord) → answer_texts (exchanges ++ x ∷ []) ≡ answer_texts exchanges ++ out_text x input.Whole
texts_more [] x = append-nil (out_text x input.Whole)
texts_more (y ∷ exchanges) x =
    ap (λ (l : List ℕ). out_text y input.Whole ++ l) (texts_more exchanges x) ∙ sym (append_assoc (out_text y input.Whole) (answer_texts exchanges) (out_text x input.Whole))
