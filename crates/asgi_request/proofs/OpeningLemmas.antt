-- The first results of bytes: equally many are the same, the first opens a request or refuses it, and they stay if more bytes
-- follow.
use Rattle.std.proofs.Common.{◌≡◌, ℕ, inl, inr, length, List, [], ◌∷◌, ◌++◌, refl, sym, ap, ◌∙◌, subst, append_assoc, arith, flat_map}
use Rattle.std.specs.Prelude.{◌⊎◌}
use Rattle.asgi_types.specs.declared.facts.Framing.TheVariants.{Upgrade}
use Rattle.asgi_types.specs.declared.limits.Limits.{Limits}
use Rattle.asgi_request.specs.declared.next.Next.{Next}
use Rattle.asgi_request.specs.declared.next.Next.TheVariants.{Head, Whole, Bad}
use Rattle.asgi_request.specs.Refusals.{status_of}
use Rattle.asgi_request.specs.Head.{record_of}
use Rattle.asgi_request.specs.Scopes.{scope_of, facts_of}
use Rattle.asgi_request.specs.ChunkedBody.{BodyState, partial, faulty}
use Rattle.asgi_request.specs.Results.{ReadsRequest, BeginsRequest, AreRequests, GivesLast, GivesResults, HasFirst, Opens}
use Rattle.asgi_request.proofs.ResultsLemmas.{prefix_of}

-- ---- what opens the results

same_first : (a b : Next) (x y : List Next) → a ∷ x ≡ b ∷ y → a ≡ b
same_first a b x y e = cc

request_opens : (limits : Limits) (bytes : List ℕ) (results : List Next) (state : BodyState) (first : Next) (more : List Next)
    → ReadsRequest limits bytes results state → results ≡ first ∷ more → Opens first
request_opens limits bytes results state first more x e =
    let head = Head (scope_of (record_of x.head) x.framing) (facts_of (record_of x.head) x.framing) in
    let is : head ≡ first = same_first head first _ more (sym x.results_are ∙ e) in
    subst Opens is tt

begun_opens : (limits : Limits) (bytes : List ℕ) (results : List Next) (first : Next) (more : List Next)
    → BeginsRequest limits bytes results → results ≡ first ∷ more → Opens first
begun_opens limits bytes results first more (inl x) e = let never : [] ≡ first ∷ more = sym x.1 ∙ e in cc
begun_opens limits bytes results first more (inr (inl x)) e =
    let is : Bad (status_of x.0) ≡ first = same_first (Bad (status_of x.0)) first [] more (sym x.2 ∙ e) in
    subst Opens is tt
begun_opens limits bytes results first more (inr (inr (inl x))) e = request_opens limits bytes results partial first more x e
begun_opens limits bytes results first more (inr (inr (inr x))) e = request_opens limits bytes results (faulty x.0) first more x.1 e

last_opens : (limits : Limits) (bytes : List ℕ) (results : List Next) (rest : List ℕ) (first : Next) (more : List Next)
    → GivesLast limits bytes results rest → results ≡ first ∷ more → Opens first
last_opens limits bytes results rest first more (inl x) e = begun_opens limits bytes results first more x.0 e
last_opens limits bytes results rest first more (inr x) e =
    let head = Head (scope_of (record_of x.head) Upgrade) (facts_of (record_of x.head) Upgrade) in
    let is : head ≡ first = same_first head first (Whole ∷ []) more (sym x.results_are ∙ e) in
    subst Opens is tt

whole_opens : (limits : Limits) (bytes : List ℕ) (requests : List (List Next)) (after : List ℕ) (last : List Next) (rest : List ℕ) (first : Next) (more : List Next)
    → AreRequests limits bytes requests after → GivesLast limits after last rest → flat_map (λ request. request) requests ++ last ≡ first ∷ more → Opens first
whole_opens limits bytes [] after last rest first more are goes e =
    last_opens limits bytes last rest first more (subst (λ (l : List ℕ). GivesLast limits l last rest) (sym are) goes) e
whole_opens limits bytes (results ∷ requests) after last rest first more are goes e =
    let x = are.1 in
    let head = Head (scope_of (record_of x.head) x.framing) (facts_of (record_of x.head) x.framing) in
    let tail : List Next = _ in
    let opened : results ++ (flat_map (λ request. request) requests ++ last) ≡ head ∷ tail =
    ap (λ (l : List Next). l ++ (flat_map (λ request. request) requests ++ last)) x.results_are in
    let is : head ≡ first =
    same_first head first tail more (sym opened ∙ sym (append_assoc results (flat_map (λ request. request) requests) last) ∙ e) in
    subst Opens is tt

pub gives_opens : (limits : Limits) (bytes : List ℕ) (first : Next) (more : List Next) (rest : List ℕ) → GivesResults limits bytes (first ∷ more) rest → Opens first
gives_opens limits bytes first more rest x = whole_opens limits bytes x.requests x.after x.last rest first more x.whole x.goes_on (sym x.results_are)

pub first_opens : (limits : Limits) (bytes : List ℕ) (first : Next) (more : List Next) → HasFirst limits bytes (first ∷ more) → Opens first
first_opens limits bytes first more x = gives_opens limits x.front first (more ++ x.further) x.rest x.gives

-- whole requests give a result each, and bytes that give none are not read
pub whole_is_some : (limits : Limits) (bytes : List ℕ) (requests : List (List Next)) (rest : List ℕ) → AreRequests limits bytes requests rest
    → [] ≡ flat_map (λ request. request) requests → bytes ≡ rest
whole_is_some limits bytes [] rest are e = are
whole_is_some limits bytes (results ∷ requests) rest are e =
    let x = are.1 in
    let head = Head (scope_of (record_of x.head) x.framing) (facts_of (record_of x.head) x.framing) in
    let opened = ap (λ (l : List Next). l ++ flat_map (λ request. request) requests) x.results_are in
    absurd (nothing head _ (e ∙ opened))
  where
    nothing : (first : Next) (more : List Next) → [] ≡ first ∷ more → ⊥
    nothing first more f = cc

-- ---- the first result is one

-- of two prefixes one is a prefix of the other
fronts : (a b x y : List ℕ) → a ++ x ≡ b ++ y → ((more : List ℕ) × (b ≡ a ++ more)) ⊎ ((more : List ℕ) × (a ≡ b ++ more))
fronts [] b x y e = inl (b, refl)
fronts (n ∷ a) [] x y e = inr (n ∷ a, refl)
fronts (n ∷ a) (m ∷ b) x y e = by (fronts a b x y cc)
  where
    heads : n ≡ m
    heads = cc

    by : ((more : List ℕ) × (b ≡ a ++ more)) ⊎ ((more : List ℕ) × (a ≡ b ++ more))
        → ((more : List ℕ) × (m ∷ b ≡ (n ∷ a) ++ more)) ⊎ ((more : List ℕ) × (n ∷ a ≡ (m ∷ b) ++ more))
    by (inl z) = inl (z.0, let t = z.1 in cc)
    by (inr z) = inr (z.0, let t = z.1 in cc)

one_of : (limits : Limits) (front more : List ℕ) (a b : Next) (x y : List Next) (rest other : List ℕ)
    → GivesResults limits front (a ∷ x) rest → GivesResults limits (front ++ more) (b ∷ y) other → a ≡ b
one_of limits front more a b x y rest other g h =
    let on = prefix_of limits limits.block_in_range.0 front more (a ∷ x) (b ∷ y) rest other g h in
    sym (same_first b a y (x ++ on.0) on.1)

pub one_first : (limits : Limits) (bytes : List ℕ) (a b : Next) (x y : List Next) → HasFirst limits bytes (a ∷ x) → HasFirst limits bytes (b ∷ y) → a ≡ b
one_first limits bytes a b x y g h = by (fronts g.front h.front g.after h.after (sym g.splits ∙ h.splits))
  where
    by : ((more : List ℕ) × (h.front ≡ g.front ++ more)) ⊎ ((more : List ℕ) × (g.front ≡ h.front ++ more)) → a ≡ b
    by (inl z) =
        one_of limits g.front z.0 a b (x ++ g.further) (y ++ h.further) g.rest h.rest g.gives
        (subst (λ (l : List ℕ). GivesResults limits l (b ∷ (y ++ h.further)) h.rest) z.1 h.gives)
    by (inr z) =
        sym (one_of limits h.front z.0 b a (y ++ h.further) (x ++ g.further) h.rest g.rest h.gives
        (subst (λ (l : List ℕ). GivesResults limits l (a ∷ (x ++ g.further)) g.rest) z.1 g.gives))

-- ---- equally many of them are the same

same_fronts : (a b x y : List Next) → length a ≡ length b → a ++ x ≡ b ++ y → a ≡ b
same_fronts [] [] x y n e = refl
same_fronts [] (m ∷ b) x y n e = absurd (omega (arith, n))
same_fronts (k ∷ a) [] x y n e = absurd (omega (arith, n))
same_fronts (k ∷ a) (m ∷ b) x y n e =
    let head : k ≡ m = cc in
    let tail = same_fronts a b x y (omega (arith, n)) cc in
    cc

as_many_of : (limits : Limits) (front more : List ℕ) (a b x y : List Next) (rest other : List ℕ) → length a ≡ length b
    → GivesResults limits front (a ++ x) rest → GivesResults limits (front ++ more) (b ++ y) other → a ≡ b
as_many_of limits front more a b x y rest other n g h =
    let on = prefix_of limits limits.block_in_range.0 front more (a ++ x) (b ++ y) rest other g h in
    same_fronts a b (x ++ on.0) y n (sym (append_assoc a x on.0) ∙ sym on.1)

pub as_many : (limits : Limits) (bytes : List ℕ) (a b : List Next) → HasFirst limits bytes a → HasFirst limits bytes b → length a ≡ length b → a ≡ b
as_many limits bytes a b g h n = by (fronts g.front h.front g.after h.after (sym g.splits ∙ h.splits))
  where
    by : ((more : List ℕ) × (h.front ≡ g.front ++ more)) ⊎ ((more : List ℕ) × (g.front ≡ h.front ++ more)) → a ≡ b
    by (inl z) =
        as_many_of limits g.front z.0 a b g.further h.further g.rest h.rest n g.gives
        (subst (λ (l : List ℕ). GivesResults limits l (b ++ h.further) h.rest) z.1 h.gives)
    by (inr z) =
        sym (as_many_of limits h.front z.0 b a h.further g.further h.rest g.rest (sym n) h.gives
        (subst (λ (l : List ℕ). GivesResults limits l (a ++ g.further) g.rest) z.1 g.gives))

-- ---- it stays

pub first_stays : (limits : Limits) (bytes more : List ℕ) (results : List Next) → HasFirst limits bytes results → HasFirst limits (bytes ++ more) results
first_stays limits bytes more results x = record {
  front = x.front;
  after = x.after ++ more;
  further = x.further;
  rest = x.rest;
  splits = ap (λ (l : List ℕ). l ++ more) x.splits ∙ append_assoc x.front x.after more;
  gives = x.gives;
}
