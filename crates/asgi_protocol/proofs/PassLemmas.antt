-- A judge that passes an event stands for the list with that event.
use Rattle.std.proofs.Common.{◌≡◌, ℕ, ◌+◌, Bool, true, false, ◌⊎◌, inl, inr, List, [], ◌∷◌, ◌++◌, length, refl, ap, sym, ◌∙◌, subst, Option, None, append_assoc, arith, zero-add, add-zero}
use Rattle.std.specs.Prelude.{not, ◌||◌, if◌then◌else◌}
use Rattle.asgi_types.specs.declared.scope.Kind.{Kind}
use Rattle.asgi_types.specs.declared.scope.Kind.TheVariants.{Http, WebSocket, Lifespan}
use Rattle.asgi_types.specs.declared.facts.Facts.{Facts}
use Rattle.asgi_types.specs.declared.outgoing.Outgoing.{Outgoing}
use Rattle.asgi_types.specs.declared.outgoing.Outgoing.TheVariants.{ResponseStart, ResponseBody, ResponseTrailers, WsAccept, WsSend, WsClose, DenialStart, DenialBody, StartupComplete, StartupFailed, ShutdownComplete, ShutdownFailed}
use Rattle.asgi_protocol.specs.declared.verdict.Verdict.{Verdict}
use Rattle.asgi_protocol.specs.declared.verdict.Verdict.TheVariants.{Pass, Refused}
use Rattle.asgi_protocol.specs.declared.judge.Due.{Due}
use Rattle.asgi_protocol.specs.declared.judge.Due.TheVariants.{Content, ContentAndTrailers, TrailersAlone}
use Rattle.asgi_protocol.specs.declared.judge.Stage.{Stage}
use Rattle.asgi_protocol.specs.declared.judge.Stage.TheVariants.{Fresh, ResponseStarted, Accepted, LifespanStarted}
use Rattle.asgi_protocol.specs.declared.judge.Judge.{Judge}
use Rattle.asgi_protocol.specs.BytesLeft.{is_above, left_after, with_sent}
use Rattle.asgi_protocol.specs.Lawful.{IsLawful}
use Rattle.asgi_protocol.specs.Rules.{MeetsRules, promised_length, body_bytes}
use Rattle.asgi_protocol.specs.Shapes.{is_of, is_word, begins_word, goes_on}
use Rattle.asgi_protocol.specs.Stages.{StandsFor, CountsBytes, is_rest, begins_rest}
use Rattle.asgi_protocol.specs.private.Steps.{lines_at, stage_after, has_place, takes_too_much, are_trailers_due, due_after_start}
use Rattle.asgi_protocol.specs.Verdicts.{Lines, lines_on, first_line, verdict_on, verdict_on_closed}
use Rattle.asgi_protocol.proofs.CountLemmas.{with_sent-zero, counts_down}
use Rattle.asgi_protocol.proofs.WordLemmas.{word_from_beginning}
use Rattle.asgi_protocol.proofs.JudgeLemmas.{verdict_agrees}

-- no line holds of an event that passes
pub record NoLine (l : Lines) : Type 0 where
  pub closed : l.closed ≡ false
  pub disconnected : l.disconnected ≡ false
  pub wrong_scope : l.wrong_scope ≡ false
  pub out_of_order : l.out_of_order ≡ false
  pub bad_status : l.bad_status ≡ false
  pub bad_header : l.bad_header ≡ false
  pub bad_code : l.bad_code ≡ false
  pub bad_reason : l.bad_reason ≡ false
  pub bad_subprotocol : l.bad_subprotocol ≡ false
  pub too_much_body : l.too_much_body ≡ false
  pub too_little_body : l.too_little_body ≡ false

skip : (b : Bool) (v r : Verdict) → (v ≡ Pass → ⊥) → (if b then v else r) ≡ Pass → (b ≡ false) × (r ≡ Pass)
skip true v r other h = absurd (other h)
skip false v r other h = (refl, h)

on_closed : (kind : Kind) → verdict_on_closed kind ≡ Pass → ⊥
on_closed Http h = cc
on_closed WebSocket h = cc
on_closed Lifespan h = cc

refused : (n : ℕ) → Refused n ≡ Pass → ⊥
refused n h = cc

pub no_line : (kind : Kind) (l : Lines) → first_line kind l ≡ Pass → NoLine l
no_line kind l h =
    let a = skip l.closed (verdict_on_closed kind) _ (on_closed kind) h in
    let b = skip l.disconnected (Refused 2) _ (refused 2) a.1 in
    let c = skip l.wrong_scope (Refused 3) _ (refused 3) b.1 in
    let d = skip l.out_of_order (Refused 4) _ (refused 4) c.1 in
    let e = skip l.bad_status (Refused 5) _ (refused 5) d.1 in
    let f = skip l.bad_header (Refused 6) _ (refused 6) e.1 in
    let g = skip l.bad_code (Refused 7) _ (refused 7) f.1 in
    let i = skip l.bad_reason (Refused 8) _ (refused 8) g.1 in
    let j = skip l.bad_subprotocol (Refused 9) _ (refused 9) i.1 in
    let k = skip l.too_much_body (Refused 10) _ (refused 10) j.1 in
    let m = skip l.too_little_body (Refused 11) Pass (refused 11) k.1 in
    record {
      closed = a.0;
      disconnected = b.0;
      wrong_scope = c.0;
      out_of_order = d.0;
      bad_status = e.0;
      bad_header = f.0;
      bad_code = g.0;
      bad_reason = i.0;
      bad_subprotocol = j.0;
      too_much_body = k.0;
      too_little_body = m.0;
    }

pub no_line_passes : (kind : Kind) (l : Lines) → NoLine l → first_line kind l ≡ Pass
no_line_passes kind l n =
    rw (n.closed, n.disconnected, n.wrong_scope, n.out_of_order, n.bad_status, n.bad_header, n.bad_code, n.bad_reason, n.bad_subprotocol, n.too_much_body, n.too_little_body) refl

pub not_false : (b : Bool) → not b ≡ false → b ≡ true
not_false true h = refl
not_false false h = absurd (cc)

-- what a pass shows of the list
pub record Passes (kind : Kind) (facts : Facts) (said : List Outgoing) (e : Outgoing) : Type 0 where
  pub of : is_of kind e ≡ true
  pub goes : goes_on kind said e ≡ true
  pub meets : MeetsRules facts said e

pub passes : (kind : Kind) (facts : Facts) (said : List Outgoing) (heard : Bool) (e : Outgoing) → verdict_on kind facts said heard e ≡ Pass → Passes kind facts said e
passes kind facts said heard e h =
    let n = no_line kind (lines_on kind facts said heard e) h in
    record {
      of = not_false (is_of kind e) n.wrong_scope;
      goes = not_false (goes_on kind said e) n.out_of_order;
      meets = record {
        status = n.bad_status;
        header = n.bad_header;
        code = n.bad_code;
        reason = n.bad_reason;
        subprotocol = n.bad_subprotocol;
        not_too_much = n.too_much_body;
        not_too_little = n.too_little_body;
      };
    }

-- a split of a list with one more event
pub snoc_split : (said before after : List Outgoing) (e d : Outgoing) → said ++ e ∷ [] ≡ before ++ d ∷ after
    → ((said ≡ before) × (e ≡ d)) ⊎ ((rest : List Outgoing) × (said ≡ before ++ d ∷ rest))
snoc_split [] [] after e d h = inl (refl, cc)
snoc_split [] (b ∷ []) after e d h = absurd (cc)
snoc_split [] (b ∷ c ∷ before) after e d h = absurd (cc)
snoc_split (s ∷ said) [] after e d h = let first : s ≡ d = cc in inr (said, ap (λ (x : Outgoing). x ∷ said) first)
snoc_split (s ∷ said) (b ∷ before) after e d h =
    let first : s ≡ b = cc in
    let rest : said ++ e ∷ [] ≡ before ++ d ∷ after = cc in
    elim (snoc_split said before after e d rest) [
      | inl p ↦ let here : s ∷ said ≡ b ∷ before = cc (p.0) in inl (here, p.1)
      | inr p ↦ let there : s ∷ said ≡ b ∷ (before ++ d ∷ p.0) = cc (p.1) in inr (p.0, there)
    ]

pub lawful_more : (kind : Kind) (facts : Facts) (said : List Outgoing) (e : Outgoing) → IsLawful kind facts said → Passes kind facts said e → IsLawful kind facts (said ++ e ∷ [])
lawful_more kind facts said e l p = record {
  begins = word_from_beginning kind (said ++ e ∷ []) p.goes;
  each = λ before after d h. elim (snoc_split said before after e d h) [
    | inl q ↦ subst (λ (b : List Outgoing). MeetsRules facts b d) q.0 (subst (λ (x : Outgoing). MeetsRules facts said x) q.1 p.meets)
    | inr q ↦ l.each before q.0 d q.1
  ];
}

-- the stage after an event
or_false : (b : Bool) → b ≡ (b || false)
or_false true = refl
or_false false = refl

rest_after : (kind : Kind) (facts : Facts) (stage : Stage) (e : Outgoing) (more : List Outgoing) → is_of kind e ≡ true → has_place stage e ≡ true
    → is_rest kind stage (e ∷ more) ≡ is_rest kind (stage_after facts stage e) more
rest_after Http facts Fresh (ResponseStart status headers true) more of at = refl
rest_after Http facts Fresh (ResponseStart status headers false) more of at = refl
rest_after Http facts _ (ResponseStart status headers trailers) more of at = absurd (cc)
rest_after Http facts (ResponseStarted left Content) (ResponseBody body true) more of at = sym (or_false _)
rest_after Http facts (ResponseStarted left Content) (ResponseBody body false) more of at = refl
rest_after Http facts (ResponseStarted left ContentAndTrailers) (ResponseBody body true) more of at = sym (or_false _)
rest_after Http facts (ResponseStarted left ContentAndTrailers) (ResponseBody body false) more of at = refl
rest_after Http facts _ (ResponseBody body more_body) more of at = absurd (cc)
rest_after Http facts (ResponseStarted left TrailersAlone) (ResponseTrailers headers true) more of at = sym (or_false _)
rest_after Http facts (ResponseStarted left TrailersAlone) (ResponseTrailers headers false) more of at = refl
rest_after Http facts _ (ResponseTrailers headers more_trailers) more of at = absurd (cc)
rest_after Http facts _ _ more of at = absurd (cc)
rest_after WebSocket facts Fresh (WsAccept subprotocol headers) more of at = refl
rest_after WebSocket facts _ (WsAccept subprotocol headers) more of at = absurd (cc)
rest_after WebSocket facts Accepted (WsSend payload) more of at = sym (or_false _)
rest_after WebSocket facts _ (WsSend payload) more of at = absurd (cc)
rest_after WebSocket facts Fresh (WsClose code reason) more of at = refl
rest_after WebSocket facts Accepted (WsClose code reason) more of at = refl
rest_after WebSocket facts _ (WsClose code reason) more of at = absurd (cc)
rest_after WebSocket facts Fresh (DenialStart status headers) more of at = refl
rest_after WebSocket facts _ (DenialStart status headers) more of at = absurd (cc)
rest_after WebSocket facts (ResponseStarted left Content) (DenialBody body true) more of at = sym (or_false _)
rest_after WebSocket facts (ResponseStarted left Content) (DenialBody body false) more of at = refl
rest_after WebSocket facts (ResponseStarted left ContentAndTrailers) (DenialBody body true) more of at = sym (or_false _)
rest_after WebSocket facts (ResponseStarted left ContentAndTrailers) (DenialBody body false) more of at = refl
rest_after WebSocket facts _ (DenialBody body more_body) more of at = absurd (cc)
rest_after WebSocket facts _ _ more of at = absurd (cc)
rest_after Lifespan facts Fresh (StartupComplete state) more of at = refl
rest_after Lifespan facts _ (StartupComplete state) more of at = absurd (cc)
rest_after Lifespan facts Fresh (StartupFailed message) more of at = refl
rest_after Lifespan facts _ (StartupFailed message) more of at = absurd (cc)
rest_after Lifespan facts LifespanStarted ShutdownComplete more of at = refl
rest_after Lifespan facts _ ShutdownComplete more of at = absurd (cc)
rest_after Lifespan facts LifespanStarted (ShutdownFailed message) more of at = refl
rest_after Lifespan facts _ (ShutdownFailed message) more of at = absurd (cc)
rest_after Lifespan facts _ _ more of at = absurd (cc)

begins_after : (kind : Kind) (facts : Facts) (stage : Stage) (e : Outgoing) (more : List Outgoing) → is_of kind e ≡ true → has_place stage e ≡ true
    → begins_rest kind stage (e ∷ more) ≡ begins_rest kind (stage_after facts stage e) more
begins_after Http facts Fresh (ResponseStart status headers true) more of at = refl
begins_after Http facts Fresh (ResponseStart status headers false) more of at = refl
begins_after Http facts _ (ResponseStart status headers trailers) more of at = absurd (cc)
begins_after Http facts (ResponseStarted left Content) (ResponseBody body true) more of at = sym (or_false _)
begins_after Http facts (ResponseStarted left Content) (ResponseBody body false) more of at = refl
begins_after Http facts (ResponseStarted left ContentAndTrailers) (ResponseBody body true) more of at = sym (or_false _)
begins_after Http facts (ResponseStarted left ContentAndTrailers) (ResponseBody body false) more of at = refl
begins_after Http facts _ (ResponseBody body more_body) more of at = absurd (cc)
begins_after Http facts (ResponseStarted left TrailersAlone) (ResponseTrailers headers true) more of at = sym (or_false _)
begins_after Http facts (ResponseStarted left TrailersAlone) (ResponseTrailers headers false) more of at = refl
begins_after Http facts _ (ResponseTrailers headers more_trailers) more of at = absurd (cc)
begins_after Http facts _ _ more of at = absurd (cc)
begins_after WebSocket facts Fresh (WsAccept subprotocol headers) more of at = refl
begins_after WebSocket facts _ (WsAccept subprotocol headers) more of at = absurd (cc)
begins_after WebSocket facts Accepted (WsSend payload) more of at = sym (or_false _)
begins_after WebSocket facts _ (WsSend payload) more of at = absurd (cc)
begins_after WebSocket facts Fresh (WsClose code reason) more of at = refl
begins_after WebSocket facts Accepted (WsClose code reason) more of at = refl
begins_after WebSocket facts _ (WsClose code reason) more of at = absurd (cc)
begins_after WebSocket facts Fresh (DenialStart status headers) more of at = refl
begins_after WebSocket facts _ (DenialStart status headers) more of at = absurd (cc)
begins_after WebSocket facts (ResponseStarted left Content) (DenialBody body true) more of at = sym (or_false _)
begins_after WebSocket facts (ResponseStarted left Content) (DenialBody body false) more of at = refl
begins_after WebSocket facts (ResponseStarted left ContentAndTrailers) (DenialBody body true) more of at = sym (or_false _)
begins_after WebSocket facts (ResponseStarted left ContentAndTrailers) (DenialBody body false) more of at = refl
begins_after WebSocket facts _ (DenialBody body more_body) more of at = absurd (cc)
begins_after WebSocket facts _ _ more of at = absurd (cc)
begins_after Lifespan facts Fresh (StartupComplete state) more of at = refl
begins_after Lifespan facts _ (StartupComplete state) more of at = absurd (cc)
begins_after Lifespan facts Fresh (StartupFailed message) more of at = refl
begins_after Lifespan facts _ (StartupFailed message) more of at = absurd (cc)
begins_after Lifespan facts LifespanStarted ShutdownComplete more of at = refl
begins_after Lifespan facts _ ShutdownComplete more of at = absurd (cc)
begins_after Lifespan facts LifespanStarted (ShutdownFailed message) more of at = refl
begins_after Lifespan facts _ (ShutdownFailed message) more of at = absurd (cc)
begins_after Lifespan facts _ _ more of at = absurd (cc)

-- the bytes after an event
never : (b : Bool) → (if b then None else (let o : Option ℕ = None in o)) ≡ None
never true = refl
never false = refl

pub body_bytes-append : (xs ys : List Outgoing) → body_bytes (xs ++ ys) ≡ body_bytes xs + body_bytes ys
body_bytes-append [] ys = sym (zero-add (body_bytes ys))
body_bytes-append (ResponseBody body more ∷ xs) ys = omega (arith, body_bytes-append xs ys)
body_bytes-append (DenialBody body more ∷ xs) ys = omega (arith, body_bytes-append xs ys)
body_bytes-append (_ ∷ xs) ys = body_bytes-append xs ys

first_counts : (facts : Facts) (said : List Outgoing) (e : Outgoing) (due : Due) → said ≡ [] → body_bytes (e ∷ []) ≡ 0
    → CountsBytes facts (ResponseStarted (promised_length facts (e ∷ [])) due) (said ++ e ∷ [])
first_counts facts said e due none no_bytes = (
  e,
  [],
  ap (λ (s : List Outgoing). s ++ e ∷ []) none,
  ap (λ (s : List Outgoing). promised_length facts (s ++ e ∷ [])) none ∙ with_sent-zero (promised_length facts (e ∷ []))
      ∙ ap (λ (sum : ℕ). with_sent sum (promised_length facts (e ∷ []))) (sym no_bytes ∙ ap (λ (s : List Outgoing). body_bytes (s ++ e ∷ [])) (sym none)),
)

body_counts : (facts : Facts) (said : List Outgoing) (e : Outgoing) (left : Option ℕ) (size : ℕ) (was due : Due) → CountsBytes facts (ResponseStarted left was) said → body_bytes (e ∷ []) ≡ size
    → is_above size left ≡ false → CountsBytes facts (ResponseStarted (left_after left size) due) (said ++ e ∷ [])
body_counts facts said e left size was due counts bytes fits = (
  counts.0,
  counts.1 ++ e ∷ [],
  ap (λ (s : List Outgoing). s ++ e ∷ []) counts.2,
  ap (λ (s : List Outgoing). promised_length facts (s ++ e ∷ [])) counts.2 ∙ ap (promised_length facts) (sym counts.2) ∙ counts.3
      ∙ counts_down (body_bytes said) size left fits
      ∙ ap (λ (sum : ℕ). with_sent sum (left_after left size)) (ap (λ (b : ℕ). body_bytes said + b) (sym bytes) ∙ sym (body_bytes-append said (e ∷ []))),
)

-- trailers have no bytes of the content
trailers_count : (facts : Facts) (said : List Outgoing) (e : Outgoing) (stage : Stage) → are_trailers_due stage ≡ true → CountsBytes facts stage said → body_bytes (e ∷ []) ≡ 0
    → CountsBytes facts stage (said ++ e ∷ [])
trailers_count facts said e (ResponseStarted left due) at counts no_bytes = (
  counts.0,
  counts.1 ++ e ∷ [],
  ap (λ (s : List Outgoing). s ++ e ∷ []) counts.2,
  ap (λ (s : List Outgoing). promised_length facts (s ++ e ∷ [])) counts.2 ∙ ap (promised_length facts) (sym counts.2) ∙ counts.3
      ∙ ap (λ (sum : ℕ). with_sent sum left) (sym (body_bytes-append said (e ∷ []) ∙ (ap (λ (n : ℕ). body_bytes said + n) no_bytes ∙ add-zero (body_bytes said)))),
)
trailers_count facts said e _ at counts no_bytes = absurd (cc)

counts_after : (kind : Kind) (facts : Facts) (stage : Stage) (said : List Outgoing) (e : Outgoing) → is_of kind e ≡ true → has_place stage e ≡ true
    → takes_too_much stage e ≡ false → CountsBytes facts stage said → CountsBytes facts (stage_after facts stage e) (said ++ e ∷ [])
counts_after kind facts Fresh said (ResponseStart status headers trailers) of at fits counts =
    first_counts facts said (ResponseStart status headers trailers) (due_after_start trailers) counts refl
counts_after kind facts _ said (ResponseStart status headers trailers) of at fits counts = absurd (cc)
counts_after kind facts (ResponseStarted left due) said (ResponseBody body true) of at fits counts =
    body_counts facts said (ResponseBody body true) left (length body) due due counts (add-zero (length body)) fits
counts_after kind facts (ResponseStarted left ContentAndTrailers) said (ResponseBody body false) of at fits counts =
    body_counts facts said (ResponseBody body false) left (length body) ContentAndTrailers TrailersAlone counts (add-zero (length body)) fits
counts_after kind facts (ResponseStarted left Content) said (ResponseBody body false) of at fits counts = tt
counts_after kind facts _ said (ResponseBody body more) of at fits counts = absurd (cc)
counts_after kind facts stage said (ResponseTrailers headers true) of at fits counts = trailers_count facts said (ResponseTrailers headers true) stage at counts refl
counts_after kind facts stage said (ResponseTrailers headers false) of at fits counts = tt
counts_after kind facts Fresh said (WsAccept subprotocol headers) of at fits counts = (
  WsAccept subprotocol headers,
  [],
  ap (λ (s : List Outgoing). s ++ WsAccept subprotocol headers ∷ []) counts,
  ap (λ (s : List Outgoing). promised_length facts (s ++ WsAccept subprotocol headers ∷ [])) counts ∙ never facts.head_only,
)
counts_after kind facts _ said (WsAccept subprotocol headers) of at fits counts = absurd (cc)
counts_after kind facts Accepted said (WsSend payload) of at fits counts = (
  counts.0,
  counts.1 ++ WsSend payload ∷ [],
  ap (λ (s : List Outgoing). s ++ WsSend payload ∷ []) counts.2,
  ap (λ (s : List Outgoing). promised_length facts (s ++ WsSend payload ∷ [])) counts.2 ∙ ap (promised_length facts) (sym counts.2) ∙ counts.3,
)
counts_after kind facts _ said (WsSend payload) of at fits counts = absurd (cc)
counts_after kind facts stage said (WsClose code reason) of at fits counts = tt
counts_after kind facts Fresh said (DenialStart status headers) of at fits counts = first_counts facts said (DenialStart status headers) Content counts refl
counts_after kind facts _ said (DenialStart status headers) of at fits counts = absurd (cc)
counts_after kind facts (ResponseStarted left due) said (DenialBody body true) of at fits counts =
    body_counts facts said (DenialBody body true) left (length body) due due counts (add-zero (length body)) fits
counts_after kind facts (ResponseStarted left ContentAndTrailers) said (DenialBody body false) of at fits counts =
    body_counts facts said (DenialBody body false) left (length body) ContentAndTrailers TrailersAlone counts (add-zero (length body)) fits
counts_after kind facts (ResponseStarted left Content) said (DenialBody body false) of at fits counts = tt
counts_after kind facts _ said (DenialBody body more) of at fits counts = absurd (cc)
counts_after kind facts Fresh said (StartupComplete state) of at fits counts = (
  StartupComplete state,
  [],
  ap (λ (s : List Outgoing). s ++ StartupComplete state ∷ []) counts,
  ap (λ (s : List Outgoing). promised_length facts (s ++ StartupComplete state ∷ [])) counts ∙ never facts.head_only,
)
counts_after kind facts _ said (StartupComplete state) of at fits counts = absurd (cc)
counts_after kind facts stage said (StartupFailed message) of at fits counts = tt
counts_after kind facts stage said ShutdownComplete of at fits counts = tt
counts_after kind facts stage said (ShutdownFailed message) of at fits counts = tt

-- the judge after an event that passed
pub stands_after : (judge : Judge) (kind : Kind) (facts : Facts) (said : List Outgoing) (heard : Bool) (e : Outgoing) → StandsFor judge kind facts said heard
    → first_line judge.kind (lines_at judge facts e) ≡ Pass
    → StandsFor (record judge { stage = stage_after facts judge.stage e }) kind facts (said ++ e ∷ []) heard
stands_after judge kind facts said heard e s pass =
    let n = no_line judge.kind (lines_at judge facts e) pass in
    let p = passes kind facts said heard e (sym (verdict_agrees judge kind facts said heard e s) ∙ pass) in
    let place = not_false (has_place judge.stage e) n.out_of_order in
    record {
      kind_is = s.kind_is;
      heard_is = s.heard_is;
      lawful = lawful_more kind facts said e s.lawful p;
      rest = λ more. ap (is_word kind) (append_assoc said (e ∷ []) more) ∙ s.rest (e ∷ more) ∙ rest_after kind facts judge.stage e more p.of place;
      begins = λ more. ap (begins_word kind) (append_assoc said (e ∷ []) more) ∙ s.begins (e ∷ more) ∙ begins_after kind facts judge.stage e more p.of place;
      counts = counts_after kind facts judge.stage said e p.of place n.too_much_body s.counts;
    }

pub stands_with : (judge : Judge) (stage : Stage) (kind : Kind) (facts : Facts) (said : List Outgoing) (heard : Bool) (e : Outgoing) (verdict : Verdict) → stage ≡ stage_after facts judge.stage e
    → verdict ≡ first_line judge.kind (lines_at judge facts e) → verdict ≡ Pass → StandsFor judge kind facts said heard
    → StandsFor (record judge { stage = stage }) kind facts (said ++ e ∷ []) heard
stands_with judge stage kind facts said heard e verdict moved tested pass s =
    subst (λ (st : Stage). StandsFor (record judge { stage = st }) kind facts (said ++ e ∷ []) heard) (sym moved)
    (stands_after judge kind facts said heard e s (sym tested ∙ pass))
