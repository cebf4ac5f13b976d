-- The requests of a conversation are the first heads among the results of the bytes read.
use Rattle.std.proofs.Common.{◌≡◌, ℕ, List, [], ◌∷◌, ◌++◌, inl, map, refl, sym, ap, ◌∙◌, append_assoc, append-nil, subst, Option, Some, None}
use mathlib.Core.List.{IsPrefix}
use Rattle.asgi_types.specs.declared.facts.Facts.{Facts}
use Rattle.asgi_types.specs.declared.incoming.Incoming.{Incoming}
use Rattle.asgi_types.specs.declared.limits.Limits.{Limits}
use Rattle.asgi_types.specs.declared.scope.Scope.{Scope}
use Rattle.asgi_request.specs.declared.next.Next.{Next}
use Rattle.asgi_request.specs.declared.next.Next.TheVariants.{Need, Head, Event, Whole, Bad}
use Rattle.asgi_request.specs.declared.place.Place.{Place}
use Rattle.asgi_request.specs.declared.place.Place.TheVariants.{Start}
use Rattle.asgi_request.specs.HeadText.{EndsAsHead}
use Rattle.asgi_request.specs.Opened.{HasClosed}
use Rattle.asgi_request.specs.Texts.{IsUnfinished}
use Rattle.asgi_request.specs.Results.{GivesResults}
use Rattle.asgi_request.specs.Fronts.{head_len}
use Rattle.asgi_request.specs.Places.{body_place, Reaches, ResultsOf}
use Rattle.asgi_request.proofs.OpenedLemmas.{closed_at, opens_after, opened_at, whole_closes}
use Rattle.asgi_request.proofs.ResultsLemmas.{results_of}
use Rattle.asgi_request.proofs.StartLemmas.{head_is_open}
use Rattle.asgi_request.proofs.TextLemmas.{open_front, head_search_for}
use Rattle.asgi_request.proofs.UniqueLemmas.{results_same, reached_begin}
use Rattle.asgi_conversation.specs.declared.report.Report.{Report}
use Rattle.asgi_conversation.specs.After.{NothingIsDue}
use Rattle.asgi_conversation.specs.declared.input.InputEnd.{InputEnd}
use Rattle.asgi_conversation.specs.Exchanges.{AreAnswered, requests_of}
use Rattle.asgi_conversation.specs.ExchangeRecord.{ExchangeRecord}
use Rattle.asgi_conversation.specs.Kinds.{Ends, listed, Converses}
use Rattle.asgi_conversation.specs.Exchanges.{heads_of}
use Rattle.asgi_conversation.specs.SoFar.{SoFar}

-- ---- no further request

pub nothing_due : (limits : Limits) (bytes : List ℕ) → IsUnfinished EndsAsHead limits.max_head bytes → NothingIsDue limits bytes
nothing_due limits bytes open_ = (bytes, record { requests = []; after = bytes; last = []; whole = refl; goes_on = inl (inl (open_, refl), refl); results_are = refl })

pub none_closed : (limits : Limits) (bytes : List ℕ) → HasClosed limits bytes [] bytes
none_closed limits bytes = ([], refl, refl)

unfinished_head : (limits : Limits) (bytes : List ℕ) → NothingIsDue limits bytes → IsUnfinished EndsAsHead limits.max_head bytes
unfinished_head limits bytes n = head_is_open limits bytes [] bytes n.0 (closed_at limits bytes [] bytes (none_closed limits bytes)) n.1

-- ---- heads of lists

pub heads_join : (a b : List Next) → heads_of (a ++ b) ≡ heads_of a ++ heads_of b
heads_join [] b = refl
heads_join (Head scope facts ∷ a) b = ap (λ (l : List (Scope × Facts)). (scope, facts) ∷ l) (heads_join a b)
heads_join (Need ∷ a) b = heads_join a b
heads_join (Event event ∷ a) b = heads_join a b
heads_join (Whole ∷ a) b = heads_join a b
heads_join (Bad status ∷ a) b = heads_join a b

no_heads : (events : List Incoming) (after : List Next) → heads_of ((map Event events ++ Whole ∷ []) ++ after) ≡ heads_of after
no_heads [] after = refl
no_heads (event ∷ events) after = no_heads events after

pub requests_join : (a b : List ExchangeRecord) → requests_of (a ++ b) ≡ requests_of a ++ requests_of b
requests_join [] b = refl
requests_join (x ∷ a) b = ap (λ (l : List (Scope × Facts)). (x.scope, x.facts) ∷ l) (requests_join a b)

-- ---- the results of answered requests

record Answered (limits : Limits) (bytes : List ℕ) (given : List Next) (exchanges : List ExchangeRecord) (after : List ℕ) : Type 0 where
  pub results : List Next
  pub closed : HasClosed limits bytes (given ++ results) after
  pub heads : heads_of results ≡ requests_of exchanges

answered_close : (limits : Limits) (end : InputEnd) (bytes : List ℕ) (given : List Next) (middle : List ℕ) (exchanges : List ExchangeRecord) (after : List ℕ)
    → HasClosed limits bytes given middle → AreAnswered limits end middle exchanges after → Answered limits bytes given exchanges after
answered_close limits end bytes given middle [] after x a = record {
  results = [];
  closed =
      let R : List ℕ → Type 0 = λ l. HasClosed limits bytes (given ++ []) l in
      let G : List Next → Type 0 = λ g. HasClosed limits bytes g middle in
      subst R a (subst G (sym (append-nil given)) x);
  heads = refl;
}
answered_close limits end bytes given middle (y ∷ exchanges) after x a =
    let s = a.1 in
    let h = Head y.scope y.facts in
    let t : List Next = map Event s.events ++ Whole ∷ [] in
    let opened = opens_after limits bytes given middle y.scope y.facts s.arrived x s.head in
    let whole = whole_closes limits bytes (given ++ h ∷ []) y.facts.framing s.arrived s.events a.0 opened s.body in
    let rest = answered_close limits end bytes ((given ++ h ∷ []) ++ t) a.0 exchanges after whole a.3 in
    record {
      results = h ∷ (t ++ rest.results);
      closed = subst (λ (g : List Next). HasClosed limits bytes g after) (append_assoc (given ++ h ∷ []) t rest.results ∙ append_assoc given (h ∷ []) (t ++ rest.results)) rest.closed;
      heads = ap (λ (l : List (Scope × Facts)). (y.scope, y.facts) ∷ l) (no_heads s.events rest.results ∙ rest.heads);
    }

-- ---- the requests of a conversation

pub heads_are : (limits : Limits) (end : InputEnd) (read : List ℕ) (exchanges : List ExchangeRecord) (written : List ℕ) (report : Report) (results : List Next) (rest : List ℕ)
    → Converses limits end read exchanges written report → GivesResults limits read results rest → IsPrefix (requests_of exchanges) (heads_of results)
heads_are limits end read exchanges written report results rest c g =
    subst (λ (l : List ExchangeRecord). IsPrefix (requests_of l) (heads_of results)) (sym c.in_order) (by c.last c.ends)
  where
    a : Answered limits read [] c.answered c.after
    a = answered_close limits end read [] read c.answered c.after (none_closed limits read) c.each

    from : (first : List Next) (place : Place) (held : List ℕ) → Reaches limits read first place held → IsPrefix (heads_of first) (heads_of results)
    from first place held x =
        let f = reached_begin limits read first place held results x (results_of limits limits.block_in_range.0 read results rest g) in
        (heads_of f.0, sym (heads_join first f.0) ∙ ap heads_of (sym f.1))

    by : (last : Option ExchangeRecord) → Ends report.outcome limits end c.after last c.text → IsPrefix (requests_of (c.answered ++ listed last)) (heads_of results)
    by None e =
        subst (λ (l : List (Scope × Facts)). IsPrefix l (heads_of results)) (a.heads ∙ ap requests_of (sym (append-nil c.answered)))
        (from a.results Start c.after (closed_at limits read a.results c.after a.closed))
    by (Some x) e =
        let s = e.1 in
        let first = a.results ++ Head x.scope x.facts ∷ [] in
        let o = opened_at limits read first x.facts.framing s.arrived (opens_after limits read a.results c.after x.scope x.facts s.arrived a.closed s.head) in
        subst (λ (l : List (Scope × Facts)). IsPrefix l (heads_of results))
        (heads_join a.results (Head x.scope x.facts ∷ []) ∙ ap (λ (l : List (Scope × Facts)). l ++ (x.scope, x.facts) ∷ []) a.heads ∙ sym (requests_join c.answered (x ∷ [])))
        (from first (body_place x.facts.framing) s.arrived o)

-- if nothing more is due, all heads were answered
pub all_heads : (limits : Limits) (end : InputEnd) (read : List ℕ) (exchanges : List ExchangeRecord) (after written : List ℕ) (results : List Next) (rest : List ℕ)
    → SoFar limits end read exchanges after written → NothingIsDue limits after → GivesResults limits read results rest → requests_of exchanges ≡ heads_of results
all_heads limits end read exchanges after written results rest s none g =
    let a = answered_close limits end read [] read exchanges after (none_closed limits read) s.each in
    let mine : ResultsOf limits read a.results = record {
      place = Start;
      rest = after;
      reaches = closed_at limits read a.results after a.closed;
      waits = open_front EndsAsHead head_len head_search_for limits.max_head after (unfinished_head limits after none);
    } in
    sym a.heads ∙ ap heads_of (results_same limits read a.results results mine (results_of limits limits.block_in_range.0 read results rest g))
