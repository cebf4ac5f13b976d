-- The tests of words agree with their shapes.
use Rattle.std.proofs.Common.{◌≡◌, ℕ, true, false, ◌⊎◌, inl, inr, List, [], ◌∷◌, ◌++◌, refl, ap, sym, ◌∙◌, Option, Some, None}
use Rattle.std.specs.Prelude.{Bool, map, is_some}
use Rattle.asgi_types.specs.Fields.{HeaderField}
use Rattle.asgi_types.specs.declared.scope.Kind.{Kind}
use Rattle.asgi_types.specs.declared.scope.Kind.TheVariants.{Http, WebSocket, Lifespan}
use Rattle.asgi_types.specs.declared.incoming.Payload.{Payload}
use Rattle.asgi_types.specs.declared.outgoing.Outgoing.{Outgoing}
use Rattle.asgi_types.specs.declared.outgoing.Outgoing.TheVariants.{ResponseStart, ResponseBody, ResponseTrailers, WsAccept, WsSend, WsClose, DenialStart, DenialBody, StartupComplete, StartupFailed, ShutdownComplete, ShutdownFailed}
use Rattle.asgi_protocol.specs.Lawful.{IsResponse, Trailers, trailer_events, IsSession, IsRejection, IsDenial, IsService, IsFailedStart, IsWord, BeginsWord}
use Rattle.asgi_protocol.specs.Shapes.{is_word, begins_word, is_empty, is_part, is_last_part, is_message, is_close, is_denial_part, is_last_denial_part, is_stop_answer, no_event, is_section, is_last_section, is_after_content, begins_after_content}
use Rattle.asgi_protocol.proofs.RowLemmas.{Sorts, Row, Completes, row_from_test, test_of_row, row_from_beginning, row_completes, nothing_completes, begins_row-from_row, both, both_true, empty_from_test, front_empty}

-- the sorts of events in the rows
response_sorts : Sorts is_part is_last_part (λ (part : List ℕ). ResponseBody part true) (λ (last : List ℕ). ResponseBody last false)
response_sorts = record {
  each_of = part_of;
  last_of = last_of;
  each_more = λ part. refl;
  last_fin = λ last. refl;
}
  where
    part_of : (e : Outgoing) → is_part e ≡ true → (part : List ℕ) × (e ≡ ResponseBody part true)
    part_of (ResponseBody body true) h = (body, refl)
    part_of _ h = absurd (cc)

    last_of : (e : Outgoing) → is_last_part e ≡ true → (last : List ℕ) × (e ≡ ResponseBody last false)
    last_of (ResponseBody body false) h = (body, refl)
    last_of _ h = absurd (cc)

denial_sorts : Sorts is_denial_part is_last_denial_part (λ (part : List ℕ). DenialBody part true) (λ (last : List ℕ). DenialBody last false)
denial_sorts = record {
  each_of = part_of;
  last_of = last_of;
  each_more = λ part. refl;
  last_fin = λ last. refl;
}
  where
    part_of : (e : Outgoing) → is_denial_part e ≡ true → (part : List ℕ) × (e ≡ DenialBody part true)
    part_of (DenialBody body true) h = (body, refl)
    part_of _ h = absurd (cc)

    last_of : (e : Outgoing) → is_last_denial_part e ≡ true → (last : List ℕ) × (e ≡ DenialBody last false)
    last_of (DenialBody body false) h = (body, refl)
    last_of _ h = absurd (cc)

section_sorts : Sorts is_section is_last_section (λ (part : List HeaderField). ResponseTrailers part true) (λ (last : List HeaderField). ResponseTrailers last false)
section_sorts = record {
  each_of = part_of;
  last_of = last_of;
  each_more = λ part. refl;
  last_fin = λ last. refl;
}
  where
    part_of : (e : Outgoing) → is_section e ≡ true → (part : List HeaderField) × (e ≡ ResponseTrailers part true)
    part_of (ResponseTrailers headers true) h = (headers, refl)
    part_of _ h = absurd (cc)

    last_of : (e : Outgoing) → is_last_section e ≡ true → (last : List HeaderField) × (e ≡ ResponseTrailers last false)
    last_of (ResponseTrailers headers false) h = (headers, refl)
    last_of _ h = absurd (cc)

session_sorts : Sorts is_message is_close WsSend (λ (c : ℕ × List ℕ). WsClose c.0 c.1)
session_sorts = record {
  each_of = message_of;
  last_of = close_of;
  each_more = λ payload. refl;
  last_fin = λ c. refl;
}
  where
    message_of : (e : Outgoing) → is_message e ≡ true → (payload : Payload) × (e ≡ WsSend payload)
    message_of (WsSend payload) h = (payload, refl)
    message_of _ h = absurd (cc)

    close_of : (e : Outgoing) → is_close e ≡ true → (c : ℕ × List ℕ) × (e ≡ WsClose c.0 c.1)
    close_of (WsClose code reason) h = ((code, reason), refl)
    close_of _ h = absurd (cc)

stop_answer_of : (e : Outgoing) → is_stop_answer e ≡ true → (e ≡ ShutdownComplete) ⊎ ((message : List ℕ) × (e ≡ ShutdownFailed message))
stop_answer_of ShutdownComplete h = inl refl
stop_answer_of (ShutdownFailed message) h = inr (message, refl)
stop_answer_of _ h = absurd (cc)

stop_answer_test : (e : Outgoing) → (e ≡ ShutdownComplete) ⊎ ((message : List ℕ) × (e ≡ ShutdownFailed message)) → is_stop_answer e ≡ true
stop_answer_test e (inl p) = rw p refl
stop_answer_test e (inr (message, p)) = rw p refl

-- ---- what a test checks of the first event's rest

-- the events after the content are those of the trailers, if these were announced
trailers_from : (announced : Bool) (es : List Outgoing) → is_after_content announced es ≡ true → (trailers : Option Trailers) × (is_some trailers ≡ announced) × (es ≡ trailer_events trailers)
trailers_from false es h = (None, refl, empty_from_test es h)
trailers_from true es h =
    let row = row_from_test _ _ _ _ section_sorts is_empty es h in (
      Some (record { parts = row.0; last = row.1 }),
      refl,
      row.3 ∙ ap (λ (r : List Outgoing). map (λ (part : List HeaderField). ResponseTrailers part true) row.0 ++ ResponseTrailers row.1 false ∷ r) (empty_from_test row.2 row.4),
    )

test_of_trailers : (trailers : Option Trailers) → is_after_content (is_some trailers) (trailer_events trailers) ≡ true
test_of_trailers None = refl
test_of_trailers (Some trailers) = test_of_row _ _ _ _ section_sorts is_empty trailers.parts trailers.last [] refl

response_from : (status : ℕ) (headers : List HeaderField) (announced : Bool) (es : List Outgoing)
    → Row is_part is_last_part (λ (part : List ℕ). ResponseBody part true) (λ (last : List ℕ). ResponseBody last false) (is_after_content announced) es
    → IsResponse (ResponseStart status headers announced ∷ es)
response_from status headers announced es row =
    let t = trailers_from announced row.2 row.4 in
    let content : (rest : List Outgoing) → List Outgoing = λ rest. map (λ (part : List ℕ). ResponseBody part true) row.0 ++ ResponseBody row.1 false ∷ rest in
    record {
      status = status;
      headers = headers;
      parts = row.0;
      last = row.1;
      trailers = t.0;
      in_order = ap (λ (r : List Outgoing). ResponseStart status headers announced ∷ r) (row.3 ∙ ap content t.2) ∙ ap (λ (b : Bool). ResponseStart status headers b ∷ content (trailer_events t.0)) (sym t.1);
    }

denial_from : (status : ℕ) (es : List Outgoing) → (headers : _) → Row is_denial_part is_last_denial_part (λ (part : List ℕ). DenialBody part true) (λ (last : List ℕ). DenialBody last false) is_empty es → IsDenial (DenialStart status headers ∷ es)
denial_from status es headers row = record {
  status = status;
  headers = headers;
  parts = row.0;
  last = row.1;
  in_order = ap (λ (r : List Outgoing). DenialStart status headers ∷ r)
      (row.3 ∙ ap (λ (r : List Outgoing). map (λ (part : List ℕ). DenialBody part true) row.0 ++ DenialBody row.1 false ∷ r) (empty_from_test row.2 row.4));
}

session_from : (subprotocol : Option (List ℕ)) (es : List Outgoing) → (headers : _) → Row is_message is_close WsSend (λ (c : ℕ × List ℕ). WsClose c.0 c.1) is_empty es → IsSession (WsAccept subprotocol headers ∷ es)
session_from subprotocol es headers row = record {
  subprotocol = subprotocol;
  headers = headers;
  messages = row.0;
  code = row.1.0;
  reason = row.1.1;
  in_order = ap (λ (r : List Outgoing). WsAccept subprotocol headers ∷ r)
      (row.3 ∙ ap (λ (r : List Outgoing). map WsSend row.0 ++ WsClose row.1.0 row.1.1 ∷ r) (empty_from_test row.2 row.4));
}

rejection_from : (code : ℕ) (reason : List ℕ) (es : List Outgoing) → es ≡ [] → IsRejection (WsClose code reason ∷ es)
rejection_from code reason es none = record { code = code; reason = reason; in_order = ap (λ (r : List Outgoing). WsClose code reason ∷ r) none }

failed_from : (message : List ℕ) (es : List Outgoing) → es ≡ [] → IsFailedStart (StartupFailed message ∷ es)
failed_from message es none = record { message = message; in_order = ap (λ (r : List Outgoing). StartupFailed message ∷ r) none }

-- a test that holds gives the shape
pub word_from_test : (kind : Kind) (es : List Outgoing) → is_word kind es ≡ true → IsWord kind es
word_from_test Http (ResponseStart status headers announced ∷ es) h = response_from status headers announced es (row_from_test _ _ _ _ response_sorts (is_after_content announced) es h)
word_from_test Http _ h = absurd (cc)
word_from_test WebSocket (WsAccept subprotocol headers ∷ es) h = inl (session_from subprotocol es headers (row_from_test _ _ _ _ session_sorts is_empty es h))
word_from_test WebSocket (WsClose code reason ∷ es) h = inr (inl (rejection_from code reason es (empty_from_test es h)))
word_from_test WebSocket (DenialStart status headers ∷ es) h = inr (inr (denial_from status es headers (row_from_test _ _ _ _ denial_sorts is_empty es h)))
word_from_test WebSocket _ h = absurd (cc)
word_from_test Lifespan (StartupComplete state ∷ e ∷ es) h =
    let q = both (is_stop_answer e) (is_empty es) h in
    inl (record { state = state; answer = e; is_answer = stop_answer_of e q.0; in_order = ap (λ (r : List Outgoing). StartupComplete state ∷ e ∷ r) (empty_from_test es q.1) })
word_from_test Lifespan (StartupFailed message ∷ es) h = inr (failed_from message es (empty_from_test es h))
word_from_test Lifespan _ h = absurd (cc)

-- a shape gives the test
response_test : (es : List Outgoing) → IsResponse es → is_word Http es ≡ true
response_test es w =
    rw w.in_order (test_of_row _ _ _ _ response_sorts (is_after_content (is_some w.trailers)) w.parts w.last (trailer_events w.trailers) (test_of_trailers w.trailers))

rejection_test : (es : List Outgoing) → IsRejection es → is_word WebSocket es ≡ true
rejection_test es w = rw w.in_order refl

denial_test : (es : List Outgoing) → IsDenial es → is_word WebSocket es ≡ true
denial_test es w = rw w.in_order (test_of_row _ _ _ _ denial_sorts is_empty w.parts w.last [] refl)

session_test : (es : List Outgoing) → IsSession es → is_word WebSocket es ≡ true
session_test es w = rw w.in_order (test_of_row _ _ _ _ session_sorts is_empty w.messages (w.code, w.reason) [] refl)

service_test : (es : List Outgoing) → IsService es → is_word Lifespan es ≡ true
service_test es w = rw w.in_order (both_true (is_stop_answer w.answer) true (stop_answer_test w.answer w.is_answer) refl)

failed_test : (es : List Outgoing) → IsFailedStart es → is_word Lifespan es ≡ true
failed_test es w = rw w.in_order refl

pub test_of_word : (kind : Kind) (es : List Outgoing) → IsWord kind es → is_word kind es ≡ true
test_of_word Http es w = response_test es w
test_of_word WebSocket es (inl w) = session_test es w
test_of_word WebSocket es (inr (inl w)) = rejection_test es w
test_of_word WebSocket es (inr (inr w)) = denial_test es w
test_of_word Lifespan es (inl w) = service_test es w
test_of_word Lifespan es (inr w) = failed_test es w

-- a beginning of a word passes the test of beginnings
front_of_trailers : (announced : Bool) (es rest : List Outgoing) → is_after_content announced (es ++ rest) ≡ true → begins_after_content announced es ≡ true
front_of_trailers false es rest h = front_empty es rest h
front_of_trailers true es rest h = begins_row-from_row _ _ is_empty is_empty front_empty es rest h

pub begins_from_word : (kind : Kind) (es rest : List Outgoing) → is_word kind (es ++ rest) ≡ true → begins_word kind es ≡ true
begins_from_word kind [] rest h = refl
begins_from_word Http (ResponseStart status headers announced ∷ es) rest h =
    begins_row-from_row _ _ (is_after_content announced) (begins_after_content announced) (front_of_trailers announced) es rest h
begins_from_word Http _ rest h = absurd (cc)
begins_from_word WebSocket (WsAccept subprotocol headers ∷ es) rest h = begins_row-from_row _ _ is_empty is_empty front_empty es rest h
begins_from_word WebSocket (WsClose code reason ∷ es) rest h = front_empty es rest h
begins_from_word WebSocket (DenialStart status headers ∷ es) rest h = begins_row-from_row _ _ is_empty is_empty front_empty es rest h
begins_from_word WebSocket _ rest h = absurd (cc)
begins_from_word Lifespan (StartupComplete state ∷ es) rest h = begins_row-from_row no_event is_stop_answer is_empty is_empty front_empty es rest h
begins_from_word Lifespan (StartupFailed message ∷ es) rest h = front_empty es rest h
begins_from_word Lifespan _ rest h = absurd (cc)

-- and the test gives the rest of a word
trailers_complete : (announced : Bool) → Completes (is_after_content announced) (begins_after_content announced)
trailers_complete false = nothing_completes
trailers_complete true = row_completes _ _ _ _ section_sorts [] is_empty is_empty nothing_completes refl

may_end : (announced : Bool) → begins_after_content announced [] ≡ true
may_end false = refl
may_end true = refl

pub word_from_beginning : (kind : Kind) (es : List Outgoing) → begins_word kind es ≡ true → BeginsWord kind es
word_from_beginning Http [] h = (ResponseStart 200 [] false ∷ ResponseBody [] false ∷ [], record { status = 200; headers = []; parts = []; last = []; trailers = None; in_order = refl })
word_from_beginning Http (ResponseStart status headers announced ∷ es) h =
    let row = row_from_beginning _ _ _ _ response_sorts [] (is_after_content announced) (begins_after_content announced) (trailers_complete announced) (may_end announced) es h in
    (row.0, response_from status headers announced (es ++ row.0) row.1)
word_from_beginning Http _ h = absurd (cc)
word_from_beginning WebSocket [] h = (WsClose 1000 [] ∷ [], inr (inl (record { code = 1000; reason = []; in_order = refl })))
word_from_beginning WebSocket (WsAccept subprotocol headers ∷ es) h =
    let row = row_from_beginning _ _ _ _ session_sorts (1000, []) is_empty is_empty nothing_completes refl es h in (row.0, inl (session_from subprotocol (es ++ row.0) headers row.1))
word_from_beginning WebSocket (WsClose code reason ∷ es) h =
    ([], inr (inl (rejection_from code reason (es ++ []) (ap (λ (r : List Outgoing). r ++ []) (empty_from_test es h)))))
word_from_beginning WebSocket (DenialStart status headers ∷ es) h =
    let row = row_from_beginning _ _ _ _ denial_sorts [] is_empty is_empty nothing_completes refl es h in (row.0, inr (inr (denial_from status (es ++ row.0) headers row.1)))
word_from_beginning WebSocket _ h = absurd (cc)
word_from_beginning Lifespan [] h = (StartupFailed [] ∷ [], inr (record { message = []; in_order = refl }))
word_from_beginning Lifespan (StartupComplete state ∷ []) h =
    (ShutdownComplete ∷ [], inl (record { state = state; answer = ShutdownComplete; is_answer = inl refl; in_order = refl }))
word_from_beginning Lifespan (StartupComplete state ∷ e ∷ es) h =
    let q = both (is_stop_answer e) (is_empty es) h in
    ([], inl (record { state = state; answer = e; is_answer = stop_answer_of e q.0; in_order = ap (λ (r : List Outgoing). StartupComplete state ∷ e ∷ (r ++ [])) (empty_from_test es q.1) }))
word_from_beginning Lifespan (StartupFailed message ∷ es) h =
    ([], inr (failed_from message (es ++ []) (ap (λ (r : List Outgoing). r ++ []) (empty_from_test es h))))
word_from_beginning Lifespan _ h = absurd (cc)

pub test_of_beginning : (kind : Kind) (es : List Outgoing) → BeginsWord kind es → begins_word kind es ≡ true
test_of_beginning kind es b = begins_from_word kind es b.0 (test_of_word kind (es ++ b.0) b.1)
