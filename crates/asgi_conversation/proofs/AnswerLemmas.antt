-- If what an application sends is a function of the events of the body, what is written is one function of the bytes read and
-- of how reading ended; and what is written for a prefix of them comes first.
use Rattle.std.proofs.Common.{◌≡◌, ℕ, true, false, List, [], ◌∷◌, ◌++◌, ◌⊎◌, inl, inr, length, refl, sym, ap, ◌∙◌, subst, append-nil, Option, Some, None, suc}
use mathlib.Core.List.{IsPrefix}
use Rattle.asgi_types.specs.declared.facts.Facts.{Facts}
use Rattle.asgi_types.specs.declared.incoming.Incoming.{Incoming}
use Rattle.asgi_types.specs.declared.limits.Limits.{Limits}
use Rattle.asgi_types.specs.declared.outgoing.Outgoing.{Outgoing}
use Rattle.asgi_types.specs.declared.scope.Scope.{Scope}
use Rattle.asgi_request.specs.declared.next.Next.{Next}
use Rattle.asgi_request.specs.declared.next.Next.TheVariants.{Head, Whole, Bad}
use Rattle.asgi_request.specs.declared.refusal.Refusal.{Refusal}
use Rattle.asgi_request.specs.ChunkedBody.{BodyState, complete}
use Rattle.asgi_request.specs.Opened.{BeginsWith, BeginsWithHandshake}
use Rattle.asgi_request.specs.Places.{body_place}
use Rattle.asgi_request.specs.Refusals.{status_of}
use Rattle.asgi_request.specs.Results.{RefusesHead, GivesResults, HasFirst}
use Rattle.asgi_request.proofs.FirstLemmas.{first_of}
use Rattle.asgi_request.proofs.HandshakeLemmas.{handshake_alone}
use Rattle.asgi_request.proofs.OpenedLemmas.{opens_after, opened_at}
use Rattle.asgi_request.proofs.OpeningLemmas.{one_first, first_stays}
use Rattle.asgi_request.proofs.ResultsLemmas.{prefix_of}
use Rattle.asgi_response.specs.Exchange.{refusal_text}
use Rattle.asgi_response.specs.Progress.{progress_of}
use Rattle.asgi_response.specs.declared.progress.Progress.{Progress}
use Rattle.asgi_response.specs.declared.progress.Progress.TheVariants.{Nothing, Begun, Complete}
use Rattle.asgi_response.specs.declared.refusal.Input.TheVariants as input
use Rattle.asgi_exchange.specs.ExchangeTexts.{input_of}
use Rattle.asgi_exchange.proofs.ListLemmas.{prefix_after, prefix_front}
use Rattle.asgi_pipes.proofs.PrefixLemmas.{prefix_same, prefix_trans}
use Rattle.asgi_conversation.specs.declared.report.Outcome.{Outcome}
use Rattle.asgi_conversation.specs.declared.report.Outcome.TheVariants.{Finished, Refused, InputBroke}
use Rattle.asgi_conversation.proofs.OutcomeLemmas.{IsWhole, AsFinished, AsRefused, AsInputBroke, is_whole}
use Rattle.asgi_conversation.specs.declared.report.Report.{Report}
use Rattle.asgi_conversation.specs.After.{NothingIsDue}
use Rattle.asgi_conversation.specs.declared.following.NextStep.{NextStep}
use Rattle.asgi_conversation.specs.declared.following.NextStep.TheVariants.{NextRequest, ConnectionEnds}
use Rattle.asgi_conversation.specs.declared.input.InputEnd.{InputEnd}
use Rattle.asgi_conversation.specs.OutcomeClasses.{is_cut}
use Rattle.asgi_conversation.specs.TaskEnds.{after_response}
use Rattle.asgi_conversation.specs.Exchanges.{out_text}
use Rattle.asgi_conversation.specs.ExchangeRecord.{ExchangeRecord}
use Rattle.asgi_conversation.specs.Persistence.{EndsBetween}
use Rattle.asgi_conversation.specs.Kinds.{listed, Converses}
use Rattle.asgi_conversation.proofs.OneConversationLemmas.{one_conversation}
use Rattle.asgi_conversation.proofs.RequestLemmas.{none_closed}
use Rattle.asgi_conversation.proofs.ToldLemmas.{next_for}
use Rattle.asgi_conversation.proofs.ServedLemmas.{Served, same_served, whole_stays, text_goes_on}

-- ---- what the bytes begin with

pub head_first : (limits : Limits) (bytes : List ℕ) (scope : Scope) (facts : Facts) (arrived : List ℕ) → BeginsWith limits bytes scope facts arrived → HasFirst limits bytes (Head scope facts ∷ [])
head_first limits bytes scope facts arrived b =
    first_of limits bytes (Head scope facts ∷ []) (body_place facts.framing) arrived
    (opened_at limits bytes (Head scope facts ∷ []) facts.framing arrived (opens_after limits bytes [] bytes scope facts arrived (none_closed limits bytes) b))

refusal_first : (limits : Limits) (bytes : List ℕ) (why : Refusal) → RefusesHead limits bytes why → HasFirst limits bytes (Bad (status_of why) ∷ [])
refusal_first limits bytes why r = record {
  front = bytes;
  after = [];
  further = [];
  rest = bytes;
  splits = sym (append-nil bytes);
  gives = record { requests = []; after = bytes; last = Bad (status_of why) ∷ []; whole = refl; goes_on = inl (inr (inl (why, r, refl)), refl); results_are = refl };
}

nothing_first : (limits : Limits) (bytes : List ℕ) (first : Next) → NothingIsDue limits bytes → HasFirst limits bytes (first ∷ []) → ⊥
nothing_first limits bytes first n f =
    let on = prefix_of limits limits.block_in_range.0 f.front f.after (first ∷ f.further) [] f.rest n.0 f.gives
    (subst (λ (l : List ℕ). GivesResults limits l [] n.0) f.splits n.1) in
    never first (f.further ++ on.0) on.1
  where
    never : (first : Next) (more : List Next) → [] ≡ first ∷ more → ⊥
    never first more e = cc

same_bad : (limits : Limits) (bytes : List ℕ) (a b : ℕ) → HasFirst limits bytes (Bad a ∷ []) → HasFirst limits bytes (Bad b ∷ []) → a ≡ b
same_bad limits bytes a b x y = let e = one_first limits bytes (Bad a) (Bad b) [] [] x y in cc e

head_not_bad : (limits : Limits) (bytes : List ℕ) (scope : Scope) (facts : Facts) (status : ℕ) → HasFirst limits bytes (Head scope facts ∷ []) → HasFirst limits bytes (Bad status ∷ []) → ⊥
head_not_bad limits bytes scope facts status x y = let e = one_first limits bytes (Head scope facts) (Bad status) [] [] x y in cc e

-- an opening handshake comes first
pub handshake_first : (limits : Limits) (bytes : List ℕ) (scope : Scope) (facts : Facts) (frames : List ℕ) → BeginsWithHandshake limits bytes scope facts frames
    → HasFirst limits bytes (Head scope facts ∷ [])
handshake_first limits bytes scope facts frames x = record {
  front = bytes;
  after = [];
  further = Whole ∷ [];
  rest = frames;
  splits = sym (append-nil bytes);
  gives = handshake_alone limits bytes frames scope facts x;
}

pub same_framing : (limits : Limits) (bytes : List ℕ) (scope other : Scope) (facts others : Facts) → HasFirst limits bytes (Head scope facts ∷ []) → HasFirst limits bytes (Head other others ∷ [])
    → facts.framing ≡ others.framing
same_framing limits bytes scope other facts others x y =
    let e = one_first limits bytes (Head scope facts) (Head other others) [] [] x y in
    let same : facts ≡ others = cc e in
    ap (λ (f : Facts). f.framing) same

-- ---- the end between two requests

-- nothing is due, or a head is refused
pub BetweenAs : Limits → List ℕ → List ℕ → Type 0
BetweenAs limits bytes text =
    (NothingIsDue limits bytes × (text ≡ [])) ⊎ ((why : Refusal) × HasFirst limits bytes (Bad (status_of why) ∷ []) × (text ≡ refusal_text (status_of why)))

pub between_as : (o : Outcome) (limits : Limits) (end : InputEnd) (bytes text : List ℕ) → is_cut o ≡ false → EndsBetween o limits end bytes text → BetweenAs limits bytes text
unfolding BetweenAs
between_as o limits end bytes text c e = by (is_whole o c)
  where
    of_kind : (p : Outcome) → o ≡ p → EndsBetween p limits end bytes text
    of_kind p is = subst (λ (q : Outcome). EndsBetween q limits end bytes text) is e

    by : IsWhole o → BetweenAs limits bytes text
    by (AsFinished is) = let f = of_kind Finished is in inl (f.1, f.0)
    by (AsRefused status is) = let f = of_kind (Refused status) is in inr (f.0, refusal_first limits bytes f.0 f.1, f.3 ∙ ap refusal_text f.2)
    by (AsInputBroke is) = let f = of_kind InputBroke is in inl (f.1, f.0)

pub no_head : (limits : Limits) (bytes text : List ℕ) (scope : Scope) (facts : Facts) → BetweenAs limits bytes text → HasFirst limits bytes (Head scope facts ∷ []) → ⊥
unfolding BetweenAs
no_head limits bytes text scope facts (inl x) h = nothing_first limits bytes (Head scope facts) x.0 h
no_head limits bytes text scope facts (inr x) h = head_not_bad limits bytes scope facts (status_of x.0) h x.1

-- the same bytes have one text there, however reading ended
same_between : (limits : Limits) (bytes text other : List ℕ) → BetweenAs limits bytes text → BetweenAs limits bytes other → text ≡ other
unfolding BetweenAs
same_between limits bytes text other (inl x) (inl y) = x.1 ∙ sym y.1
same_between limits bytes text other (inl x) (inr y) = absurd (nothing_first limits bytes (Bad (status_of y.0)) x.0 y.1)
same_between limits bytes text other (inr x) (inl y) = absurd (nothing_first limits bytes (Bad (status_of x.0)) y.0 x.1)
same_between limits bytes text other (inr x) (inr y) = x.2 ∙ ap refusal_text (same_bad limits bytes (status_of x.0) (status_of y.0) x.1 y.1) ∙ sym y.2

-- more bytes do not change a refusal
between_grows : (limits : Limits) (bytes more text other : List ℕ) → BetweenAs limits bytes text → BetweenAs limits (bytes ++ more) other → IsPrefix text other
unfolding BetweenAs
between_grows limits bytes more text other (inl x) y = (other, ap (λ (l : List ℕ). l ++ other) x.1)
between_grows limits bytes more text other (inr x) (inl y) =
    absurd (nothing_first limits (bytes ++ more) (Bad (status_of x.0)) y.0 (first_stays limits bytes more (Bad (status_of x.0) ∷ []) x.1))
between_grows limits bytes more text other (inr x) (inr y) =
    prefix_same text other
    (x.2 ∙ ap refusal_text (same_bad limits (bytes ++ more) (status_of x.0) (status_of y.0) (first_stays limits bytes more (Bad (status_of x.0) ∷ []) x.1) y.1) ∙ sym y.2)

between_no_head : (limits : Limits) (bytes more text other : List ℕ) (scope : Scope) (facts : Facts) → BetweenAs limits bytes text → HasFirst limits (bytes ++ more) (Head scope facts ∷ []) → IsPrefix text other
unfolding BetweenAs
between_no_head limits bytes more text other scope facts (inl x) h = (other, ap (λ (l : List ℕ). l ++ other) x.1)
between_no_head limits bytes more text other scope facts (inr x) h =
    absurd (head_not_bad limits (bytes ++ more) scope facts (status_of x.0) h (first_stays limits bytes more (Bad (status_of x.0) ∷ []) x.1))

-- the same bytes, ended alike, end between two requests in one way
one_between : (limits : Limits) (end : InputEnd) (bytes : List ℕ) (o p : Outcome) (text other : List ℕ) → is_cut o ≡ false → is_cut p ≡ false
    → EndsBetween o limits end bytes text → EndsBetween p limits end bytes other → (text ≡ other) × (o ≡ p)
one_between limits end bytes o p text other c d x y =
    one_conversation limits end bytes [] text other (reported o) (reported p) (alone o text x) (alone p other y) c d
  where
    reported : Outcome → Report
    reported outcome = record { exchanges = 0; faults = 0; turns = 0; idle = 0; outcome = outcome }

    alone : (outcome : Outcome) (l : List ℕ) → EndsBetween outcome limits end bytes l → Converses limits end bytes [] l (record { exchanges = 0; faults = 0; turns = 0; idle = 0; outcome = outcome })
    alone outcome l e = record {
      answered = [];
      last = None;
      in_order = refl;
      after = bytes;
      each = refl;
      text = l;
      ends = e;
      written_is = refl;
      counts = record { exchanges_are = refl; faults_are = refl };
    }

-- ---- a conversation in which every task returned

-- a request that is answered, and what comes after it
pub record Replies (say : List Incoming → List Outgoing) (limits : Limits) (bytes : List ℕ) (x : ExchangeRecord) (state : BodyState) (next : NextStep) : Type 0 where
  pub serves : Served say limits bytes x state
  pub follows : next ≡ next_for x.facts (say serves.events) state

-- what is written of the bytes: these exchanges are answered, and the connection ends in the last one, or after them
abbrev pub Plain : (say : List Incoming → List Outgoing) → Limits → InputEnd → Outcome → List ℕ → List ExchangeRecord → Option ExchangeRecord → List ℕ → Type 0
Plain say limits end o bytes [] None text = EndsBetween o limits end bytes text
Plain say limits end o bytes [] (Some x) text = (state : BodyState) × Replies say limits bytes x state (ConnectionEnds o) × (text ≡ out_text x (input_of state))
Plain say limits end o bytes (x ∷ exchanges) last text =
    (rest : List ℕ) × Replies say limits bytes x (complete rest) NextRequest
    × ((further : List ℕ) × (text ≡ out_text x input.Whole ++ further) × Plain say limits end o rest exchanges last further)

-- ---- the same bytes

apart : (o : Outcome) → ConnectionEnds o ≡ NextRequest → ⊥
apart o e = cc

outcome_of : (o p : Outcome) → ConnectionEnds o ≡ ConnectionEnds p → o ≡ p
outcome_of o p e = cc

pub rest_of : (a b : List ℕ) → complete a ≡ complete b → a ≡ b
rest_of a b e = cc

-- the texts and the number of exchanges are the same, and the outcomes too, if reading ended alike
pub record AreOne (end late : InputEnd) (o p : Outcome) (text other : List ℕ) (exchanges others : List ExchangeRecord) : Type 0 where
  pub texts : text ≡ other
  pub outcomes : end ≡ late → o ≡ p
  pub as_many : length exchanges ≡ length others

module _ (say : List Incoming → List Outgoing) (limits : Limits) (end late : InputEnd) (o p : Outcome) (c : is_cut o ≡ false) (d : is_cut p ≡ false) where
  pub one : (bytes : List ℕ) (xs ys : List ExchangeRecord) (l m : Option ExchangeRecord) (text other : List ℕ)
      → Plain say limits end o bytes xs l text → Plain say limits late p bytes ys m other → AreOne end late o p text other (xs ++ listed l) (ys ++ listed m)
  one bytes [] [] None None text other a b = record {
    texts = same_between limits bytes text other (between_as o limits end bytes text c a) (between_as p limits late bytes other d b);
    outcomes = λ alike. (one_between limits late bytes o p text other c d (subst (λ (e : InputEnd). EndsBetween o limits e bytes text) alike a) b).1;
    as_many = refl;
  }
  one bytes [] [] None (Some y) text other a b =
      absurd (no_head limits bytes text y.scope y.facts (between_as o limits end bytes text c a) (head_first limits bytes y.scope y.facts b.1.serves.arrived b.1.serves.head))
  one bytes [] [] (Some x) None text other a b =
      absurd (no_head limits bytes other x.scope x.facts (between_as p limits late bytes other d b) (head_first limits bytes x.scope x.facts a.1.serves.arrived a.1.serves.head))
  one bytes [] [] (Some x) (Some y) text other a b =
      let same = same_served say limits bytes x y a.0 b.0 a.1.serves b.1.serves in
      record { texts = a.2 ∙ same.text ∙ sym b.2; outcomes = λ alike. outcome_of o p (a.1.follows ∙ same.next ∙ sym b.1.follows); as_many = refl }
  one bytes [] (y ∷ ys) None m text other a b =
      absurd (no_head limits bytes text y.scope y.facts (between_as o limits end bytes text c a) (head_first limits bytes y.scope y.facts b.1.serves.arrived b.1.serves.head))
  one bytes [] (y ∷ ys) (Some x) m text other a b =
      let same = same_served say limits bytes x y a.0 (complete b.0) a.1.serves b.1.serves in
      absurd (apart o (a.1.follows ∙ same.next ∙ sym b.1.follows))
  one bytes (x ∷ xs) [] l None text other a b =
      absurd (no_head limits bytes other x.scope x.facts (between_as p limits late bytes other d b) (head_first limits bytes x.scope x.facts a.1.serves.arrived a.1.serves.head))
  one bytes (x ∷ xs) [] l (Some y) text other a b =
      let same = same_served say limits bytes x y (complete a.0) b.0 a.1.serves b.1.serves in
      absurd (apart p (sym (a.1.follows ∙ same.next ∙ sym b.1.follows)))
  one bytes (x ∷ xs) (y ∷ ys) l m text other a b =
      let same = same_served say limits bytes x y (complete a.0) (complete b.0) a.1.serves b.1.serves in
      let rests = rest_of a.0 b.0 same.states in
      let tail = one a.0 xs ys l m a.2.0 b.2.0 a.2.2 (subst (λ (r : List ℕ). Plain say limits late p r ys m b.2.0) (sym rests) b.2.2) in
      record {
        texts = a.2.1 ∙ ap (λ (t : List ℕ). t ++ a.2.0) same.text ∙ ap (λ (t : List ℕ). out_text y input.Whole ++ t) tail.texts ∙ sym b.2.1;
        outcomes = tail.outcomes;
        as_many = ap suc tail.as_many;
      }

-- ---- more bytes

-- what comes after a whole body does not matter
after : (progress : Progress) (a b : List ℕ) → after_response progress (complete a) true ≡ after_response progress (complete b) true
after Nothing a b = refl
after Begun a b = refl
after (Complete true) a b = refl
after (Complete false) a b = refl

module _ (say : List Incoming → List Outgoing) (grows : (events others : List Incoming) → IsPrefix events others → IsPrefix (say events) (say others))
    (limits : Limits) (early late : InputEnd) (o p : Outcome) (c : is_cut o ≡ false) (d : is_cut p ≡ false) (more : List ℕ) where
  head_stays : (bytes : List ℕ) (x : ExchangeRecord) (state : BodyState) → Served say limits bytes x state → HasFirst limits (bytes ++ more) (Head x.scope x.facts ∷ [])
  head_stays bytes x state s = first_stays limits bytes more (Head x.scope x.facts ∷ []) (head_first limits bytes x.scope x.facts s.arrived s.head)

  pub first : (bytes : List ℕ) (xs ys : List ExchangeRecord) (l m : Option ExchangeRecord) (text other : List ℕ)
      → Plain say limits early o bytes xs l text → Plain say limits late p (bytes ++ more) ys m other → IsPrefix text other
  first bytes [] [] None None text other a b =
      between_grows limits bytes more text other (between_as o limits early bytes text c a) (between_as p limits late (bytes ++ more) other d b)
  first bytes [] [] None (Some y) text other a b =
      between_no_head limits bytes more text other y.scope y.facts (between_as o limits early bytes text c a)
      (head_first limits (bytes ++ more) y.scope y.facts b.1.serves.arrived b.1.serves.head)
  first bytes [] [] (Some x) None text other a b =
      absurd (no_head limits (bytes ++ more) other x.scope x.facts (between_as p limits late (bytes ++ more) other d b) (head_stays bytes x a.0 a.1.serves))
  first bytes [] [] (Some x) (Some y) text other a b =
      let front = text_goes_on say limits bytes more x y grows a.0 b.0 a.1.serves b.1.serves in
      subst (λ (t : List ℕ). IsPrefix t other) (sym a.2) (subst (λ (t : List ℕ). IsPrefix (out_text x (input_of a.0)) t) (sym b.2) front)
  first bytes [] (y ∷ ys) None m text other a b =
      between_no_head limits bytes more text other y.scope y.facts (between_as o limits early bytes text c a)
      (head_first limits (bytes ++ more) y.scope y.facts b.1.serves.arrived b.1.serves.head)
  first bytes [] (y ∷ ys) (Some x) m text other a b =
      let front = text_goes_on say limits bytes more x y grows a.0 (complete b.0) a.1.serves b.1.serves in
      let whole = prefix_trans (out_text x (input_of a.0)) (out_text y input.Whole) (out_text y input.Whole ++ b.2.0) front (prefix_front (out_text y input.Whole) b.2.0) in
      subst (λ (t : List ℕ). IsPrefix t other) (sym a.2) (subst (λ (t : List ℕ). IsPrefix (out_text x (input_of a.0)) t) (sym b.2.1) whole)
  first bytes (x ∷ xs) [] l None text other a b =
      absurd (no_head limits (bytes ++ more) other x.scope x.facts (between_as p limits late (bytes ++ more) other d b) (head_stays bytes x (complete a.0) a.1.serves))
  first bytes (x ∷ xs) [] l (Some y) text other a b =
      let same = whole_stays say limits bytes more x y a.0 b.0 a.1.serves b.1.serves in
      let there : next_for y.facts (say b.1.serves.events) b.0 ≡ next_for y.facts (say b.1.serves.events) (complete (a.0 ++ more)) =
      ap (λ (k : BodyState). next_for y.facts (say b.1.serves.events) k) same.0 in
      absurd (apart p (b.1.follows ∙ there ∙ after (progress_of y.facts (say b.1.serves.events)) (a.0 ++ more) a.0 ∙ sym (a.1.follows ∙ same.2)))
  first bytes (x ∷ xs) (y ∷ ys) l m text other a b =
      let same = whole_stays say limits bytes more x y a.0 (complete b.0) a.1.serves b.1.serves in
      let rests = rest_of b.0 (a.0 ++ more) same.0 in
      let tail = first a.0 xs ys l m a.2.0 b.2.0 a.2.2 (subst (λ (r : List ℕ). Plain say limits late p r ys m b.2.0) rests b.2.2) in
      let all = prefix_after (out_text y input.Whole) a.2.0 b.2.0 tail in
      subst (λ (t : List ℕ). IsPrefix t other) (sym (a.2.1 ∙ ap (λ (t : List ℕ). t ++ a.2.0) same.1))
      (subst (λ (t : List ℕ). IsPrefix (out_text y input.Whole ++ a.2.0) t) (sym b.2.1) all)
