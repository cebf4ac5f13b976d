-- An HTTP exchange is steady.
use Rattle.std.proofs.Common.{◌≡◌, ℕ, Bool, true, false, List, [], ◌∷◌, ◌++◌, refl, ap, sym, ◌∙◌, None, Option, All}
use Rattle.std.specs.Prelude.{if◌then◌else◌}
use Rattle.std.proofs.lemmas.List.Elements.{All-head, All-tail}
use mathlib.Core.List.{IsPrefix}
use Rattle.asgi_types.specs.declared.facts.Facts.{Facts}
use Rattle.asgi_types.specs.declared.incoming.Incoming.{Incoming}
use Rattle.asgi_types.specs.declared.limits.Limits.{Limits}
use Rattle.asgi_types.specs.declared.outgoing.Outgoing.{Outgoing}
use Rattle.asgi_request.specs.BodyGrowth.{StaysAs, Grows, IsRequestEvent}
use Rattle.asgi_request.specs.BodyOf.{body_events, body_state}
use Rattle.asgi_request.specs.ChunkedBody.{BodyState, partial, complete, faulty}
use Rattle.asgi_request.proofs.BodyEventLemmas.{events_are_requests}
use Rattle.asgi_request.proofs.BodyGrowthLemmas.{body_grows}
use Rattle.asgi_request.proofs.BodyOfLemmas.{body_is_read}
use Rattle.asgi_response.specs.Accepted.{accepted}
use Rattle.asgi_response.specs.Exchange.{has_begun, replacement_text, end_text, added_by_end}
use Rattle.asgi_response.proofs.LawLemmas as response
use Rattle.asgi_types.specs.declared.end_kind.EndKind.{EndKind}
use Rattle.asgi_types.specs.declared.end_kind.EndKind.TheVariants.{Returned, Faulted, Idle}
use Rattle.asgi_pipes.specs.Disconnects.{disconnect_in, or_else, first_disconnect}
use Rattle.asgi_exchange.specs.Exchange.{IsSteady}
use Rattle.asgi_exchange.specs.Http.{is_over, http}
use Rattle.asgi_exchange.specs.ExchangeTexts.{input_of}
use Rattle.asgi_pipes.proofs.PrefixLemmas.{prefix_same}

-- ---- what is due

parts_only : (events : List Incoming) → All IsRequestEvent events → first_disconnect events ≡ None
parts_only [] all = refl
parts_only (e ∷ events) all =
    let part : IsRequestEvent e = All-head IsRequestEvent e events all in
    let none : disconnect_in e ≡ None = ap disconnect_in part.2 in
    ap (λ (o : Option Incoming). or_else o (first_disconnect events)) none ∙ parts_only events (All-tail IsRequestEvent e events all)

over_stays : (more : List ℕ) (events others : List Incoming) (state other : BodyState) → StaysAs state more events others other → is_over state ≡ true → others ≡ events
over_stays more events others partial other s h = cc
over_stays more events others (complete after) other s h = s.0
over_stays more events others (faulty why) other s h = s.0

-- ---- the text

answer_grows : (more : List ℕ) (events others : List Incoming) (state other : BodyState) → StaysAs state more events others other
    → IsPrefix (replacement_text (input_of state)) (replacement_text (input_of other))
answer_grows more events others partial other s = (replacement_text (input_of other), refl)
answer_grows more events others (complete after) other s =
    prefix_same (replacement_text (input_of (complete after))) (replacement_text (input_of other)) (ap (λ (b : BodyState). replacement_text (input_of b)) (sym s.1))
answer_grows more events others (faulty why) other s =
    prefix_same (replacement_text (input_of (faulty why))) (replacement_text (input_of other)) (ap (λ (b : BodyState). replacement_text (input_of b)) (sym s.1))

where_open : (b : Bool) (xs ys : List ℕ) → IsPrefix xs ys → IsPrefix (if b then [] else xs) (if b then [] else ys)
where_open true xs ys p = ([], refl)
where_open false xs ys p = p

module _ (limits : Limits) (facts : Facts) where
  grows : (bytes more : List ℕ) → Grows more (body_events limits facts.framing bytes) (body_state limits facts.framing bytes) (body_events limits facts.framing (bytes ++ more)) (body_state limits facts.framing (bytes ++ more))
  grows bytes more =
      body_grows limits facts.framing bytes more (body_events limits facts.framing bytes) (body_events limits facts.framing (bytes ++ more)) (body_state limits facts.framing bytes)
      (body_state limits facts.framing (bytes ++ more)) (body_is_read limits facts.framing bytes) (body_is_read limits facts.framing (bytes ++ more))

  added_grows : (said : List Outgoing) (kind : EndKind) (bytes more : List ℕ)
      → IsPrefix (added_by_end facts said kind (input_of (body_state limits facts.framing bytes))) (added_by_end facts said kind (input_of (body_state limits facts.framing (bytes ++ more))))
  added_grows said kind bytes more = by kind
    where
      old : BodyState
      old = body_state limits facts.framing bytes

      new : BodyState
      new = body_state limits facts.framing (bytes ++ more)

      ended : IsPrefix (end_text facts said (input_of old)) (end_text facts said (input_of new))
      ended =
          where_open (has_begun (accepted facts said)) (replacement_text (input_of old)) (replacement_text (input_of new))
          (answer_grows more (body_events limits facts.framing bytes) (body_events limits facts.framing (bytes ++ more)) old new (let g = grows bytes more in g.stays))

      by : (kind : EndKind) → IsPrefix (added_by_end facts said kind (input_of old)) (added_by_end facts said kind (input_of new))
      by Returned = ended
      by Faulted = ended
      by Idle = ([], refl)

  pub http_is_steady : IsSteady (http limits facts)
  http_is_steady = record {
    due_grows = λ bytes more. (let g = grows bytes more in g.first);
    due_is_no_disconnect = λ bytes.
        parts_only (body_events limits facts.framing bytes)
        (events_are_requests limits facts.framing bytes (body_events limits facts.framing bytes) (body_state limits facts.framing bytes) (body_is_read limits facts.framing bytes));
    over_due = λ bytes more h.
        over_stays more (body_events limits facts.framing bytes) (body_events limits facts.framing (bytes ++ more)) (body_state limits facts.framing bytes)
        (body_state limits facts.framing (bytes ++ more)) (let g = grows bytes more in g.stays) h;
    over_disconnect = λ bytes more h. refl;
    input_disconnect_is_one = λ bytes. refl;
    text_grows = λ said event. (let g = response.text_grows facts said (event ∷ []) in (g.0, sym g.1));
    added_grows = λ said kind broken bytes more. added_grows said kind bytes more;
  }
