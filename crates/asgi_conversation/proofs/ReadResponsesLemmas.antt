-- The responses of a connection are read back, one after another.
use Rattle.std.proofs.Common.{◌≡◌, ◌≢◌, ℕ, Bool, true, false, List, [], ◌∷◌, ◌++◌, refl, sym, ap, ◌∙◌, subst, append_assoc, append-nil, All, Option, Some, None}
use Rattle.std.proofs.lemmas.List.Elements.{All-nil, All-cons, All-head, All-tail}
use Rattle.std.specs.Prelude.{◌||◌, not, if◌then◌else◌, codes}
use Rattle.asgi_types.specs.Tokens.{has_token}
use Rattle.asgi_types.specs.Versions.{is_v11}
use Rattle.asgi_types.specs.declared.end_kind.EndKind.{EndKind}
use Rattle.asgi_types.specs.declared.facts.Facts.{Facts}
use Rattle.asgi_types.specs.declared.limits.Limits.{Limits}
use Rattle.asgi_types.specs.declared.scope.Kind.TheVariants.{Http}
use Rattle.asgi_protocol.specs.Lawful.{IsClosed, IsLawful, IsResponse}
use Rattle.asgi_protocol.specs.Shapes.{is_closed}
use Rattle.asgi_protocol.proofs.WordLemmas.{word_from_test, test_of_word}
use Rattle.asgi_request.specs.declared.head.HeadRecord.{HeadRecord}
use Rattle.asgi_request.specs.ChunkedBody.{BodyState, complete}
use Rattle.asgi_request.specs.Head.{record_of}
use Rattle.asgi_request.specs.Opened.{BeginsWith}
use Rattle.asgi_response.specs.Exchange.{has_begun}
use Rattle.asgi_response.specs.Fields.{closes}
use Rattle.asgi_response.specs.Progress.{closes_after, progress_in, progress_of}
use Rattle.asgi_response.specs.Response.{response_text}
use Rattle.asgi_response.specs.declared.progress.Progress.TheVariants.{Nothing, Begun, Complete}
use Rattle.asgi_response.specs.declared.refusal.Input.{Input}
use Rattle.asgi_response.specs.declared.refusal.Input.TheVariants as input
use Rattle.asgi_response.proofs.EndLemmas.{nothing_added}
use Rattle.asgi_response.proofs.LawfulLemmas.{lawful_is_accepted}
use Rattle.asgi_exchange.specs.ExchangeTexts.{input_of}
use Rattle.asgi_exchange.specs.ExchangeTexts.{text_of}
use Rattle.asgi_conversation.specs.declared.report.Outcome.{Outcome}
use Rattle.asgi_conversation.proofs.OutcomeLemmas.{is_done}
use Rattle.asgi_conversation.specs.declared.report.Report.{Report}
use Rattle.asgi_conversation.specs.declared.following.NextStep.TheVariants.{NextRequest}
use Rattle.asgi_conversation.specs.declared.input.InputEnd.{InputEnd}
use Rattle.asgi_conversation.specs.OutcomeClasses.{is_cut}
use Rattle.asgi_conversation.specs.Exchanges.{IsFollowed, out_text, AreAnswered, answer_texts}
use Rattle.asgi_conversation.specs.ExchangeRecord.{ExchangeRecord}
use Rattle.asgi_conversation.specs.Kinds.{Ends, listed, Converses}
use Rattle.asgi_conversation.specs.ReadResponses.{ReadsAnswer, AreRead, CanBeSent, AllCanBeSent}
use Rattle.asgi_conversation.proofs.OneConversationLemmas.{next_follows}
use Rattle.asgi_conversation.proofs.ReadAnswerLemmas.{answer_is_read}

-- ---- a connection that is kept is one of HTTP/1.1

kept_is_v11 : (v asks : Bool) → (not v || asks) ≡ false → v ≡ true
kept_is_v11 true asks h = refl
kept_is_v11 false asks h = cc

keeps_v11 : (limits : Limits) (bytes arrived : List ℕ) (x : ExchangeRecord) → BeginsWith limits bytes x.scope x.facts arrived → x.facts.close ≡ false → is_v11 x.facts.version ≡ true
keeps_v11 limits bytes arrived x b =
    let head : HeadRecord = record_of b.head in
    subst (λ (f : Facts). f.close ≡ false → is_v11 f.version ≡ true) (sym b.facts_are)
    (λ h. kept_is_v11 (is_v11 head.version) (has_token head.headers (codes "connection") (codes "close")) h)

-- ---- a complete response

complete_in : (closed begun close other : Bool) → (if closed then Complete close else (if begun then Begun else Nothing)) ≡ Complete other → (closed ≡ true) × (close ≡ other)
complete_in true begun close other e = (refl, cc e)
complete_in false true close other e = absurd (cc e)
complete_in false false close other e = absurd (cc e)

is_complete : (closed begun close : Bool) → closed ≡ true → (if closed then Complete close else (if begun then Begun else Nothing)) ≢ Nothing
is_complete true begun close h e = cc e
is_complete false begun close h e = cc h

-- all of its text is that of its events, however its task ended
closed_text : (x : ExchangeRecord) (i : Input) → IsLawful Http x.facts x.said → IsClosed Http x.said → out_text x i ≡ response_text x.facts x.said
closed_text x i lawful closed = by x.ended
  where
    some_progress : progress_of x.facts x.said ≢ Nothing
    some_progress e =
        is_complete (is_closed Http x.said) (has_begun x.said) (closes_after x.facts x.said) (test_of_word Http x.said closed)
        (sym (ap (progress_in x.facts) (lawful_is_accepted x.facts x.said lawful)) ∙ e)

    by : (o : Option EndKind) → text_of x.facts x.said o i ≡ response_text x.facts x.said
    by None = refl
    by (Some kind) = ap (λ (l : List ℕ). response_text x.facts x.said ++ l) (nothing_added x.facts x.said kind i some_progress) ∙ append-nil (response_text x.facts x.said)

-- a response before a next request keeps the connection
record IsKept (x : ExchangeRecord) : Type 0 where
  pub response : IsResponse x.said
  pub Open : closes x.facts.close response.headers ≡ false

is_kept : (x : ExchangeRecord) (state : BodyState) → IsLawful Http x.facts x.said → IsFollowed x state NextRequest → IsKept x
is_kept x state lawful f =
    let progress : progress_in x.facts x.said ≡ Complete false = sym (ap (progress_in x.facts) (lawful_is_accepted x.facts x.said lawful)) ∙ (next_follows x state f).0 in
    let done = complete_in (is_closed Http x.said) (has_begun x.said) (closes_after x.facts x.said) false progress in
    let r : IsResponse x.said = word_from_test Http x.said done.0 in
    record { response = r; Open = sym (ap (closes_after x.facts) r.in_order) ∙ done.1 }

-- ---- one after another

not_both : (b : Bool) → b ≡ false → b ≡ true → ⊥
not_both b f t = cc (sym f ∙ t)

pub answered_are_read : (limits : Limits) (end : InputEnd) (bytes : List ℕ) (exchanges : List ExchangeRecord) (after more : List ℕ)
    → AreAnswered limits end bytes exchanges after → AllCanBeSent exchanges → AreRead (answer_texts exchanges ++ more) exchanges more
answered_are_read limits end bytes [] after more a sent = refl
answered_are_read limits end bytes (x ∷ exchanges) after more a sent =
    let s = a.1 in
    let k = is_kept x (complete a.0) s.lawful a.2 in
    let P : ExchangeRecord → Type 0 = λ y. All CanBeSent y.said in
    let rest : List ℕ = answer_texts exchanges ++ more in
    let one = answer_is_read x k.response s.lawful (All-head P x exchanges sent) (keeps_v11 limits bytes s.arrived x s.head) rest
    (λ c. absurd (not_both (closes x.facts.close k.response.headers) k.Open c)) in
    let text : response_text x.facts x.said ++ rest ≡ (out_text x input.Whole ++ answer_texts exchanges) ++ more =
    ap (λ (l : List ℕ). l ++ rest) (sym (closed_text x input.Whole s.lawful k.response)) ∙ sym (append_assoc (out_text x input.Whole) (answer_texts exchanges) more) in
    (rest, subst (λ (l : List ℕ). ReadsAnswer l x rest) text one, answered_are_read limits end a.0 exchanges after more a.3 (All-tail P x exchanges sent))

-- ---- the last one

last_is_read : (o : Outcome) (limits : Limits) (end : InputEnd) (after : List ℕ) (x : ExchangeRecord) (text : List ℕ) → is_cut o ≡ false → Ends o limits end after (Some x) text
    → IsClosed Http x.said → All CanBeSent x.said → ReadsAnswer text x []
last_is_read o limits end after x text c e closed sent =
    let s = e.1 in
    let one = answer_is_read x closed s.lawful sent (keeps_v11 limits after s.arrived x s.head) [] (λ h. refl) in
    let same : response_text x.facts x.said ++ [] ≡ text =
    append-nil (response_text x.facts x.said) ∙ sym ((is_done o end x e.0 text c e.2).1 ∙ closed_text x (input_of e.0) s.lawful closed) in
    subst (λ (l : List ℕ). ReadsAnswer l x []) same one

-- ---- a conversation

all_of_front : {A : Type 0} (P : A → Type 0) (xs ys : List A) → All P (xs ++ ys) → All P xs
all_of_front P [] ys h = All-nil P
all_of_front P (x ∷ xs) ys h = All-cons P x xs (All-head P x (xs ++ ys) h) (all_of_front P xs ys (All-tail P x (xs ++ ys) h))

all_after : {A : Type 0} (P : A → Type 0) (xs ys : List A) → All P (xs ++ ys) → All P ys
all_after P [] ys h = h
all_after P (x ∷ xs) ys h = all_after P xs ys (All-tail P x (xs ++ ys) h)

pub conversation_is_read : (limits : Limits) (end : InputEnd) (read : List ℕ) (exchanges : List ExchangeRecord) (written : List ℕ) (report : Report)
    → (c : Converses limits end read exchanges written report) → AllCanBeSent exchanges → AreRead written c.answered c.text
conversation_is_read limits end read exchanges written report c sent =
    let P : ExchangeRecord → Type 0 = λ y. All CanBeSent y.said in
    let first = all_of_front P c.answered (listed c.last) (subst (All P) c.in_order sent) in
    subst (λ (l : List ℕ). AreRead l c.answered c.text) (sym c.written_is) (answered_are_read limits end read c.answered c.after c.text c.each first)

pub end_is_read : (limits : Limits) (end : InputEnd) (read : List ℕ) (exchanges : List ExchangeRecord) (written : List ℕ) (report : Report)
    → (c : Converses limits end read exchanges written report) → AllCanBeSent exchanges → is_cut report.outcome ≡ false → (x : ExchangeRecord) → c.last ≡ Some x → IsClosed Http x.said
    → ReadsAnswer c.text x []
end_is_read limits end read exchanges written report c sent uncut x is closed =
    let P : ExchangeRecord → Type 0 = λ y. All CanBeSent y.said in
    let all : exchanges ≡ c.answered ++ x ∷ [] = c.in_order ∙ ap (λ (o : Option ExchangeRecord). c.answered ++ listed o) is in
    let mine = all_after P c.answered (x ∷ []) (subst (All P) all sent) in
    last_is_read report.outcome limits end c.after x c.text uncut (subst (λ (o : Option ExchangeRecord). Ends report.outcome limits end c.after o c.text) is c.ends) closed (All-head P x [] mine)
