-- One turn at most, and more bytes at the end change none.
use Rattle.std.proofs.Common.{◌≡◌, ℕ, ◌+◌, length, arith, Bool, true, false, List, [], ◌∷◌, ◌++◌, refl, sym, ap, ◌∙◌, append_assoc, subst, Option, Some, None}
use Rattle.std.proofs.lemmas.List.{append-nil, length-append}
use Rattle.httparse.proofs.GrammarLemmas.{request_unique}
use Rattle.httparse.proofs.ChunkLemmas.{chunk_line_unique}
use Rattle.httparse.specs.Grammar.{chunk_size}
use Rattle.asgi_types.specs.declared.limits.Limits.{Limits}
use Rattle.asgi_request.specs.declared.head.HeadRecord.{HeadRecord}
use Rattle.asgi_request.specs.declared.place.Place.{Place}
use Rattle.asgi_request.specs.declared.place.Place.TheVariants.{Start, Counted, SizeLine, Chunk, ChunkEnd, Trailers, BodyEnd, HandshakeEnd, Upgraded, Stopped}
use Rattle.asgi_request.specs.declared.next.Next.{Next}
use Rattle.asgi_request.specs.Places.{Judged}
use Rattle.asgi_request.specs.Fronts.{Front, found, too_long, unfinished, front_text}
use Rattle.asgi_request.specs.Head.{ParsesHead, record_of}
use Rattle.asgi_request.specs.Parts.{ParsesSize, ParsesTrailers}
use Rattle.asgi_request.specs.Places.{front, after_head, after_size, after_trailers, JudgesText, Judges, Takes, Reads, shown, Reaches, ResultsOf}
use Rattle.asgi_request.proofs.FrontLemmas.{front-append}

same_head : (max_headers : ℕ) (text : List ℕ) (a b : Option HeadRecord) → ParsesHead max_headers text a → ParsesHead max_headers text b → a ≡ b
same_head max_headers text None None x y = refl
same_head max_headers text None (Some b) x y = absurd (x y.0 y.1)
same_head max_headers text (Some a) None x y = absurd (y x.0 x.1)
same_head max_headers text (Some a) (Some b) x y =
    ap Some (x.2 ∙ ap record_of (request_unique text x.0 y.0 [] [] x.1.reads y.1.reads).0 ∙ sym y.2)

same_size : (text : List ℕ) (a b : Option ℕ) → ParsesSize text a → ParsesSize text b → a ≡ b
same_size text None None x y = refl
same_size text None (Some b) x y = absurd (x y.0 y.1)
same_size text (Some a) None x y = absurd (y x.0 x.1)
same_size text (Some a) (Some b) x y =
    ap Some (x.2 ∙ ap chunk_size (chunk_line_unique text x.0 y.0 [] [] x.1 y.1).0 ∙ sym y.2)

same_trailers : (max_headers : ℕ) (text : List ℕ) (a b : Bool) → ParsesTrailers max_headers text a → ParsesTrailers max_headers text b → a ≡ b
same_trailers max_headers text false false x y = refl
same_trailers max_headers text true true x y = refl
same_trailers max_headers text false true x y = absurd (x y.0 y.1 y.2)
same_trailers max_headers text true false x y = absurd (y x.0 x.1 x.2)

same_text : (limits : Limits) (place : Place) (text : List ℕ) (a b : Judged) → JudgesText limits place text a → JudgesText limits place text b → a ≡ b
same_text limits Start text a b x y = x.2 ∙ ap (after_head limits) (same_head limits.max_headers text x.0 y.0 x.1 y.1) ∙ sym y.2
same_text limits (Counted n) text a b x y = x ∙ sym y
same_text limits (SizeLine sum) text a b x y = x.2 ∙ ap (after_size limits.max_body sum) (same_size text x.0 y.0 x.1 y.1) ∙ sym y.2
same_text limits (Chunk left sum) text a b x y = x ∙ sym y
same_text limits (ChunkEnd sum) text a b x y = x ∙ sym y
same_text limits Trailers text a b x y = x.2 ∙ ap after_trailers (same_trailers limits.max_headers text x.0 y.0 x.1 y.1) ∙ sym y.2
same_text limits BodyEnd text a b x y = x ∙ sym y
same_text limits HandshakeEnd text a b x y = x ∙ sym y
same_text limits Upgraded text a b x y = absurd x
same_text limits (Stopped refusal) text a b x y = absurd x

pub same_turn : (limits : Limits) (place : Place) (f : Front) (a b : Judged) → Judges limits place f a → Judges limits place f b → a ≡ b
same_turn limits place (found text) a b x y = same_text limits place text a b x y
same_turn limits place too_long a b x y = x ∙ sym y
same_turn limits place unfinished a b x y = absurd x

-- what is judged is not unfinished
pub judged_known : (limits : Limits) (place : Place) (bytes : List ℕ) (turn : Judged) (rest : List ℕ)
    → Takes limits place bytes turn rest → front limits place bytes ≡ unfinished → ⊥
judged_known limits place bytes turn rest t e = subst (λ (f : Front). Judges limits place f turn) e t.judged

pub Takes-append : (limits : Limits) (place : Place) (bytes : List ℕ) (turn : Judged) (rest more : List ℕ)
    → Takes limits place bytes turn rest → Takes limits place (bytes ++ more) turn (rest ++ more)
Takes-append limits place bytes turn rest more t =
    let same = front-append limits place bytes more (judged_known limits place bytes turn rest t) in
    record {
      splits = ap (λ (l : List ℕ). l ++ more) t.splits ∙ append_assoc (front_text (front limits place bytes)) rest more
          ∙ ap (λ (f : Front). front_text f ++ (rest ++ more)) (sym same);
      judged = subst (λ (f : Front). Judges limits place f turn) (sym same) t.judged;
    }

pub Reads-append : (limits : Limits) (place : Place) (bytes : List ℕ) (items : List (Option Next)) (end : Place) (rest more : List ℕ)
    → Reads limits place bytes items end rest → Reads limits place (bytes ++ more) items end (rest ++ more)
Reads-append limits place bytes [] end rest more r = (r.0, ap (λ (l : List ℕ). l ++ more) r.1)
Reads-append limits place bytes (item ∷ items) end rest more r =
    (r.0, r.1 ++ more, Takes-append limits place bytes (record { item = item; place = r.0 }) r.1 more r.2, Reads-append limits r.0 r.1 items end rest more r.3)

pub Reads-push : (limits : Limits) (place : Place) (bytes : List ℕ) (items : List (Option Next)) (mid : Place) (middle : List ℕ)
    (item : Option Next) (end : Place) (rest : List ℕ)
    → Reads limits place bytes items mid middle → Takes limits mid middle (record { item = item; place = end }) rest
    → Reads limits place bytes (items ++ item ∷ []) end rest
Reads-push limits place bytes [] mid middle item end rest r t =
    let P : Place → List ℕ → Type 0 = λ p b. Takes limits p b (record { item = item; place = end }) rest in
    let Q : Place → Type 0 = λ p. P p bytes in
    let R : List ℕ → Type 0 = λ b. P mid b in
    (end, rest, subst Q (sym r.0) (subst R (sym r.1) t), (refl, refl))
Reads-push limits place bytes (first ∷ items) mid middle item end rest r t =
    (r.0, r.1, r.2, Reads-push limits r.0 r.1 items mid middle item end rest r.3 t)

pub shown-append : (a b : List (Option Next)) → shown (a ++ b) ≡ shown a ++ shown b
shown-append [] b = refl
shown-append (None ∷ a) b = shown-append a b
shown-append (Some x ∷ a) b = ap (λ (l : List Next). x ∷ l) (shown-append a b)

same_front : (a b r q : List ℕ) → a ++ r ≡ a ++ q → r ≡ q
same_front [] b r q e = e
same_front (x ∷ a) b r q e = same_front a b r q cc

pub same_rest : (limits : Limits) (place : Place) (bytes : List ℕ) (a b : Judged) (r q : List ℕ) → Takes limits place bytes a r → Takes limits place bytes b q → r ≡ q
same_rest limits place bytes a b r q x y = same_front (front_text (front limits place bytes)) [] r q (sym x.splits ∙ y.splits)

-- if a run can't go on, it begins with each run over fewer bytes
run_begins : (limits : Limits) (place : Place) (bytes more : List ℕ) (items : List (Option Next)) (end : Place) (rest : List ℕ)
    (others : List (Option Next)) (last : Place) (left : List ℕ)
    → Reads limits place bytes items end rest → Reads limits place (bytes ++ more) others last left → front limits last left ≡ unfinished
    → (further : List (Option Next)) × (others ≡ items ++ further)
run_begins limits place bytes more [] end rest others last left r q w = (others, refl)
run_begins limits place bytes more (item ∷ items) end rest [] last left r q w =
    let grown = Takes-append limits place bytes (record { item = item; place = r.0 }) r.1 more r.2 in
    let P : Place → Type 0 = λ p. front limits p (bytes ++ more) ≡ unfinished in
    let R : List ℕ → Type 0 = λ b. front limits last b ≡ unfinished in
    let stuck = subst P (sym q.0) (subst R (sym q.1) w) in
    absurd (judged_known limits place (bytes ++ more) (record { item = item; place = r.0 }) (r.1 ++ more) grown stuck)
run_begins limits place bytes more (item ∷ items) end rest (other ∷ others) last left r q w =
    let a : Judged = record { item = item; place = r.0 } in
    let b : Judged = record { item = other; place = q.0 } in
    let grown = Takes-append limits place bytes a r.1 more r.2 in
    let turns = same_turn limits place (front limits place (bytes ++ more)) a b grown.judged q.2.judged in
    let rests = same_rest limits place (bytes ++ more) a b (r.1 ++ more) q.1 grown q.2 in
    let places : r.0 ≡ q.0 = ap (λ (t : Judged). t.place) turns in
    let items_same : item ≡ other = ap (λ (t : Judged). t.item) turns in
    let P : Place → Type 0 = λ p. Reads limits p q.1 others last left in
    let R : List ℕ → Type 0 = λ l. Reads limits r.0 l others last left in
    let on = subst R (sym rests) (subst P (sym places) q.3) in
    let tail = run_begins limits r.0 r.1 more items end rest others last left r.3 on w in
    (tail.0, ap (λ (o : Option Next). o ∷ others) (sym items_same) ∙ ap (λ (l : List (Option Next)). item ∷ l) tail.1)

pub results_begin : (limits : Limits) (bytes more : List ℕ) (items others : List Next)
    → ResultsOf limits bytes items → ResultsOf limits (bytes ++ more) others → (further : List Next) × (others ≡ items ++ further)
results_begin limits bytes more items others x y =
    let run = run_begins limits Start bytes more x.reaches.steps x.place x.rest y.reaches.steps y.place y.rest x.reaches.reads y.reaches.reads y.waits in
    (shown run.0, sym y.reaches.shows ∙ ap shown run.1 ∙ shown-append x.reaches.steps run.0 ∙ ap (λ (l : List Next). l ++ shown run.0) x.reaches.shows)

-- two lists that begin one another are one
both_begin : (a b c d : List Next) → b ≡ a ++ c → a ≡ b ++ d → a ≡ b
both_begin a b c d e f =
    let n : length b ≡ length a + length c = ap length e ∙ length-append a c in
    let m : length a ≡ length b + length d = ap length f ∙ length-append b d in
    let none : length c ≡ 0 = omega arith in
    sym (e ∙ ap (λ (l : List Next). a ++ l) (empty c none) ∙ append-nil a)
  where
    empty : (c : List Next) → length c ≡ 0 → c ≡ []
    empty [] e = refl
    empty (x ∷ c) e = absurd (omega (arith, e))

pub results_same : (limits : Limits) (bytes : List ℕ) (items others : List Next)
    → ResultsOf limits bytes items → ResultsOf limits bytes others → items ≡ others
results_same limits bytes items others x y =
    let at : bytes ++ [] ≡ bytes = append-nil bytes in
    let f = results_begin limits bytes [] items others x (subst (λ (l : List ℕ). ResultsOf limits l others) (sym at) y) in
    let g = results_begin limits bytes [] others items y (subst (λ (l : List ℕ). ResultsOf limits l items) (sym at) x) in
    both_begin items others f.0 g.0 f.1 g.1

-- results that were reached begin all results
pub reached_begin : (limits : Limits) (bytes : List ℕ) (given : List Next) (place : Place) (held : List ℕ) (items : List Next)
    → Reaches limits bytes given place held → ResultsOf limits bytes items → (further : List Next) × (items ≡ given ++ further)
reached_begin limits bytes given place held items x y =
    let at : bytes ++ [] ≡ bytes = append-nil bytes in
    let z = subst (λ (l : List ℕ). ResultsOf limits l items) (sym at) y in
    let run = run_begins limits Start bytes [] x.steps place held z.reaches.steps z.place z.rest x.reads z.reaches.reads z.waits in
    (shown run.0, sym z.reaches.shows ∙ ap shown run.1 ∙ shown-append x.steps run.0 ∙ ap (λ (l : List Next). l ++ shown run.0) x.shows)
