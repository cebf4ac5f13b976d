-- The laws of lawful lists and of verdicts.
use Rattle.std.proofs.Common.{◌≡◌, Bool, true, false, inl, inr, List, [], ◌∷◌, ◌++◌, refl, ap, sym, ◌∙◌, subst, append_assoc}
use Rattle.std.specs.Prelude.{not, ◌&&◌, if◌then◌else◌}
use Rattle.asgi_types.specs.declared.scope.Kind.{Kind}
use Rattle.asgi_types.specs.declared.scope.Kind.TheVariants.{Http, WebSocket, Lifespan}
use Rattle.asgi_types.specs.declared.facts.Facts.{Facts}
use Rattle.asgi_types.specs.declared.outgoing.Outgoing.{Outgoing}
use Rattle.asgi_types.specs.declared.outgoing.Outgoing.TheVariants.{ResponseStart, ResponseBody, ResponseTrailers, WsAccept, WsSend, WsClose, DenialStart, DenialBody, StartupComplete, StartupFailed, ShutdownComplete, ShutdownFailed}
use Rattle.asgi_protocol.specs.declared.verdict.Violation.TheVariants as why
use Rattle.asgi_protocol.specs.declared.verdict.Verdict.{Verdict}
use Rattle.asgi_protocol.specs.declared.verdict.Verdict.TheVariants.{Pass, Refused}
use Rattle.asgi_protocol.specs.Lawful.{IsLawful, IsWord, BeginsWord}
use Rattle.asgi_protocol.specs.Laws.{ClosedIsLast, EachPasses, LawfulWhereEachPasses, IsOfTable, VerdictsAreOfTable, TestsAgree}
use Rattle.asgi_protocol.specs.Shapes.{is_of, is_word, begins_word, is_row, begins_row, is_empty, is_part, is_last_part, is_message, is_close, is_denial_part, is_last_denial_part, is_stop_answer, no_event, is_section, is_last_section, is_after_content, begins_after_content}
use Rattle.asgi_protocol.specs.Verdicts.{Lines, lines_on, first_line, verdict_on_closed}
use Rattle.asgi_protocol.proofs.RowLemmas.{both, either}
use Rattle.asgi_protocol.proofs.WordLemmas.{word_from_test, test_of_word, word_from_beginning, test_of_beginning}
use Rattle.asgi_protocol.proofs.JudgeLemmas.{two}
use Rattle.asgi_protocol.proofs.PassLemmas.{no_line_passes, passes}

different : {b : Bool} → b ≡ true → b ≡ false → ⊥
different p q = cc

one_is_last : (es after : List Outgoing) (e : Outgoing) → is_empty (es ++ e ∷ after) ≡ true → ⊥
one_is_last [] after e h = cc
one_is_last (x ∷ es) after e h = cc

-- after a whole list of this sort there is nothing more
abbrev IsLast : (whole begins : List Outgoing → Bool) → Type 0
IsLast whole begins = (es after : List Outgoing) (e : Outgoing) → whole es ≡ true → begins (es ++ e ∷ after) ≡ true → ⊥

empty_is_last : IsLast is_empty is_empty
empty_is_last es after e h b = one_is_last es after e b

-- a whole row doesn't go on
row_is_last : (each last : Outgoing → Bool) (whole begins : List Outgoing → Bool) → ((e : Outgoing) → each e ≡ true → last e ≡ false) → IsLast whole begins
    → IsLast (is_row each last whole) (begins_row each last begins)
row_is_last each last whole begins apart end [] after e h b = cc
row_is_last each last whole begins apart end (x ∷ es) after e h b =
    elim (either (each x && is_row each last whole es) (last x && whole es) h) [
      | inl p ↦ let q = both (each x) (is_row each last whole es) p in
          elim (either (each x && begins_row each last begins (es ++ e ∷ after)) (last x && begins (es ++ e ∷ after)) b) [
            | inl r ↦ row_is_last each last whole begins apart end es after e q.1 (both (each x) (begins_row each last begins (es ++ e ∷ after)) r).1
            | inr r ↦ different (both (last x) (begins (es ++ e ∷ after)) r).0 (apart x q.0)
          ]
      | inr p ↦ let q = both (last x) (whole es) p in
          elim (either (each x && begins_row each last begins (es ++ e ∷ after)) (last x && begins (es ++ e ∷ after)) b) [
            | inl r ↦ different q.0 (apart x (both (each x) (begins_row each last begins (es ++ e ∷ after)) r).0)
            | inr r ↦ end es after e q.1 (both (last x) (begins (es ++ e ∷ after)) r).1
          ]
    ]

parts_apart : (e : Outgoing) → is_part e ≡ true → is_last_part e ≡ false
parts_apart (ResponseBody body true) h = refl
parts_apart _ h = absurd (cc)

denial_parts_apart : (e : Outgoing) → is_denial_part e ≡ true → is_last_denial_part e ≡ false
denial_parts_apart (DenialBody body true) h = refl
denial_parts_apart _ h = absurd (cc)

sections_apart : (e : Outgoing) → is_section e ≡ true → is_last_section e ≡ false
sections_apart (ResponseTrailers headers true) h = refl
sections_apart _ h = absurd (cc)

trailers_are_last : (announced : Bool) → IsLast (is_after_content announced) (begins_after_content announced)
trailers_are_last false = empty_is_last
trailers_are_last true = row_is_last is_section is_last_section is_empty is_empty sections_apart empty_is_last

messages_apart : (e : Outgoing) → is_message e ≡ true → is_close e ≡ false
messages_apart (WsSend payload) h = refl
messages_apart _ h = absurd (cc)

word_is_last : (kind : Kind) (es after : List Outgoing) (e : Outgoing) → is_word kind es ≡ true → begins_word kind (es ++ e ∷ after) ≡ true → ⊥
word_is_last Http (ResponseStart status headers announced ∷ es) after e h b =
    row_is_last is_part is_last_part (is_after_content announced) (begins_after_content announced) parts_apart (trailers_are_last announced) es after e h b
word_is_last Http _ after e h b = cc
word_is_last WebSocket (WsAccept subprotocol headers ∷ es) after e h b = row_is_last is_message is_close is_empty is_empty messages_apart empty_is_last es after e h b
word_is_last WebSocket (WsClose code reason ∷ es) after e h b = one_is_last es after e b
word_is_last WebSocket (DenialStart status headers ∷ es) after e h b = row_is_last is_denial_part is_last_denial_part is_empty is_empty denial_parts_apart empty_is_last es after e h b
word_is_last WebSocket _ after e h b = cc
word_is_last Lifespan (StartupComplete state ∷ es) after e h b = row_is_last no_event is_stop_answer is_empty is_empty (λ x p. absurd (cc)) empty_is_last es after e h b
word_is_last Lifespan (StartupFailed message ∷ es) after e h b = one_is_last es after e b
word_is_last Lifespan _ after e h b = cc

pub closed_is_last : ClosedIsLast
closed_is_last kind facts said after event closed lawful =
    word_is_last kind said after event (test_of_word kind said closed) (test_of_beginning kind (said ++ event ∷ after) lawful.begins)

-- a beginning of a beginning is one
pub begins_front : (kind : Kind) (es rest : List Outgoing) → BeginsWord kind (es ++ rest) → BeginsWord kind es
begins_front kind es rest b = (rest ++ b.0, subst (IsWord kind) (append_assoc es rest b.0) b.1)

-- each event of a beginning belongs to its kind of scope
abbrev AllOf : Kind → (begins : List Outgoing → Bool) → Type 0
AllOf kind begins = (es after : List Outgoing) (e : Outgoing) → begins (es ++ e ∷ after) ≡ true → is_of kind e ≡ true

none_of : (kind : Kind) → AllOf kind is_empty
none_of kind es after e h = absurd (one_is_last es after e h)

row_of : (each last : Outgoing → Bool) (begins : List Outgoing → Bool) (kind : Kind) → ((e : Outgoing) → each e ≡ true → is_of kind e ≡ true) → ((e : Outgoing) → last e ≡ true → is_of kind e ≡ true)
    → AllOf kind begins → AllOf kind (begins_row each last begins)
row_of each last begins kind p q end [] after e h =
    elim (either (each e && begins_row each last begins after) (last e && begins after) h) [
      | inl r ↦ p e (both (each e) (begins_row each last begins after) r).0
      | inr r ↦ q e (both (last e) (begins after) r).0
    ]
row_of each last begins kind p q end (x ∷ es) after e h =
    elim (either (each x && begins_row each last begins (es ++ e ∷ after)) (last x && begins (es ++ e ∷ after)) h) [
      | inl r ↦ row_of each last begins kind p q end es after e (both (each x) (begins_row each last begins (es ++ e ∷ after)) r).1
      | inr r ↦ end es after e (both (last x) (begins (es ++ e ∷ after)) r).1
    ]

part_of : (e : Outgoing) → is_part e ≡ true → is_of Http e ≡ true
part_of (ResponseBody body more) h = refl
part_of _ h = absurd (cc)

last_part_of : (e : Outgoing) → is_last_part e ≡ true → is_of Http e ≡ true
last_part_of (ResponseBody body more) h = refl
last_part_of _ h = absurd (cc)

section_of : (e : Outgoing) → is_section e ≡ true → is_of Http e ≡ true
section_of (ResponseTrailers headers more) h = refl
section_of _ h = absurd (cc)

last_section_of : (e : Outgoing) → is_last_section e ≡ true → is_of Http e ≡ true
last_section_of (ResponseTrailers headers more) h = refl
last_section_of _ h = absurd (cc)

trailers_of : (announced : Bool) → AllOf Http (begins_after_content announced)
trailers_of false = none_of Http
trailers_of true = row_of is_section is_last_section is_empty Http section_of last_section_of (none_of Http)

denial_part_of : (e : Outgoing) → is_denial_part e ≡ true → is_of WebSocket e ≡ true
denial_part_of (DenialBody body more) h = refl
denial_part_of _ h = absurd (cc)

last_denial_part_of : (e : Outgoing) → is_last_denial_part e ≡ true → is_of WebSocket e ≡ true
last_denial_part_of (DenialBody body more) h = refl
last_denial_part_of _ h = absurd (cc)

message_of : (e : Outgoing) → is_message e ≡ true → is_of WebSocket e ≡ true
message_of (WsSend payload) h = refl
message_of _ h = absurd (cc)

close_of : (e : Outgoing) → is_close e ≡ true → is_of WebSocket e ≡ true
close_of (WsClose code reason) h = refl
close_of _ h = absurd (cc)

stop_of : (e : Outgoing) → is_stop_answer e ≡ true → is_of Lifespan e ≡ true
stop_of ShutdownComplete h = refl
stop_of (ShutdownFailed message) h = refl
stop_of _ h = absurd (cc)

event_of : (kind : Kind) (es after : List Outgoing) (e : Outgoing) → begins_word kind (es ++ e ∷ after) ≡ true → is_of kind e ≡ true
event_of Http [] after (ResponseStart status headers announced) h = refl
event_of Http [] after _ h = absurd (cc)
event_of Http (ResponseStart status headers announced ∷ es) after e h =
    row_of is_part is_last_part (begins_after_content announced) Http part_of last_part_of (trailers_of announced) es after e h
event_of Http _ after e h = absurd (cc)
event_of WebSocket [] after (WsAccept subprotocol headers) h = refl
event_of WebSocket [] after (WsClose code reason) h = refl
event_of WebSocket [] after (DenialStart status headers) h = refl
event_of WebSocket [] after _ h = absurd (cc)
event_of WebSocket (WsAccept subprotocol headers ∷ es) after e h = row_of is_message is_close is_empty WebSocket message_of close_of (none_of WebSocket) es after e h
event_of WebSocket (WsClose code reason ∷ es) after e h = absurd (one_is_last es after e h)
event_of WebSocket (DenialStart status headers ∷ es) after e h = row_of is_denial_part is_last_denial_part is_empty WebSocket denial_part_of last_denial_part_of (none_of WebSocket) es after e h
event_of WebSocket _ after e h = absurd (cc)
event_of Lifespan [] after (StartupComplete state) h = refl
event_of Lifespan [] after (StartupFailed message) h = refl
event_of Lifespan [] after _ h = absurd (cc)
event_of Lifespan (StartupComplete state ∷ es) after e h = row_of no_event is_stop_answer is_empty Lifespan (λ x p. absurd (cc)) stop_of (none_of Lifespan) es after e h
event_of Lifespan (StartupFailed message ∷ es) after e h = absurd (one_is_last es after e h)
event_of Lifespan _ after e h = absurd (cc)

not_true : (b : Bool) → b ≡ true → not b ≡ false
not_true b h = rw h refl

-- each event of a lawful list passes
lawful_passes : (kind : Kind) (facts : Facts) (events : List Outgoing) → IsLawful kind facts events → EachPasses kind facts events
lawful_passes kind facts events l before after event split =
    let begun = subst (BeginsWord kind) split l.begins in
    let here : BeginsWord kind (before ++ event ∷ []) = begins_front kind (before ++ event ∷ []) after (subst (BeginsWord kind) (sym (append_assoc before (event ∷ []) after)) begun) in
    let goes = test_of_beginning kind (before ++ event ∷ []) here in
    let of = event_of kind before [] event goes in
    let meets = l.each before after event split in
    no_line_passes kind (lines_on kind facts before false event) (record {
      closed = elim (two (is_word kind before)) [ inl whole ↦ absurd (word_is_last kind before [] event whole goes) | inr open_now ↦ open_now ];
      disconnected = refl;
      wrong_scope = not_true (is_of kind event) of;
      out_of_order = not_true (begins_word kind (before ++ event ∷ [])) goes;
      bad_status = meets.status;
      bad_header = meets.header;
      bad_code = meets.code;
      bad_reason = meets.reason;
      bad_subprotocol = meets.subprotocol;
      too_much_body = meets.not_too_much;
      too_little_body = meets.not_too_little;
    })

-- a list has a last event, or is empty
last_of : (x : Outgoing) (es : List Outgoing) → (front : List Outgoing) × (e : Outgoing) × (x ∷ es ≡ front ++ e ∷ [])
last_of x [] = ([], x, refl)
last_of x (y ∷ es) = let r = last_of y es in (x ∷ r.0, r.1, ap (λ (l : List Outgoing). x ∷ l) r.2)

passes_begin : (kind : Kind) (facts : Facts) (events : List Outgoing) → EachPasses kind facts events → BeginsWord kind events
passes_begin kind facts [] each = word_from_beginning kind [] refl
passes_begin kind facts (x ∷ es) each =
    let r = last_of x es in
    let p = passes kind facts r.0 false r.1 (each r.0 [] r.1 r.2) in
    word_from_beginning kind (x ∷ es) (ap (begins_word kind) r.2 ∙ p.goes)

pub lawful_where_each_passes : LawfulWhereEachPasses
lawful_where_each_passes kind facts events = (lawful_passes kind facts events, back)
  where
    back : EachPasses kind facts events → IsLawful kind facts events
    back each = record {
      begins = passes_begin kind facts events each;
      each = λ before after event split. (passes kind facts before false event (each before after event split)).meets;
    }

-- every verdict is of the table
closed_of_table : (kind : Kind) → IsOfTable kind (verdict_on_closed kind)
closed_of_table Http = inr (inl (refl, refl))
closed_of_table WebSocket = inr (inr (why.Closed, refl))
closed_of_table Lifespan = inr (inr (why.Closed, refl))

line_of_table : (kind : Kind) (l : Lines) → IsOfTable kind (first_line kind l)
line_of_table kind l =
    line l.closed (verdict_on_closed kind) _ (closed_of_table kind)
    (line l.disconnected (Refused 2) _ (inr (inr (why.Disconnected, refl)))
    (line l.wrong_scope (Refused 3) _ (inr (inr (why.WrongScope, refl)))
    (line l.out_of_order (Refused 4) _ (inr (inr (why.OutOfOrder, refl)))
    (line l.bad_status (Refused 5) _ (inr (inr (why.BadStatus, refl)))
    (line l.bad_header (Refused 6) _ (inr (inr (why.BadHeader, refl)))
    (line l.bad_code (Refused 7) _ (inr (inr (why.BadCode, refl)))
    (line l.bad_reason (Refused 8) _ (inr (inr (why.BadReason, refl)))
    (line l.bad_subprotocol (Refused 9) _ (inr (inr (why.BadSubprotocol, refl)))
    (line l.too_much_body (Refused 10) _ (inr (inr (why.TooMuchBody, refl)))
    (line l.too_little_body (Refused 11) Pass (inr (inr (why.TooLittleBody, refl))) (inl refl)))))))))))
  where
    line : (b : Bool) (v r : Verdict) → IsOfTable kind v → IsOfTable kind r → IsOfTable kind (if b then v else r)
    line true v r p q = p
    line false v r p q = q

pub verdicts_are_of_table : VerdictsAreOfTable
verdicts_are_of_table kind facts said heard event = line_of_table kind (lines_on kind facts said heard event)

pub tests_agree : TestsAgree
tests_agree = record {
  closed = λ kind said. (word_from_test kind said, test_of_word kind said);
  in_order = λ kind said event. (word_from_beginning kind (said ++ event ∷ []), test_of_beginning kind (said ++ event ∷ []));
}
