-- The head of a response, and a trailer section, are read back by the grammar of heads.
use Rattle.std.proofs.Common.{◌≡◌, ℕ, ◌+◌, ◌/◌, ◌%◌, ◌≤◌, ◌<◌, Bool, true, false, List, [], ◌∷◌, ◌++◌, length, map, flat_map, refl, sym, ap, ◌∙◌, subst, append_assoc, arith, All, IsTrue, Some}
use Rattle.std.proofs.lemmas.List.{append-nil}
use Rattle.std.proofs.lemmas.List.Concat.{flat_map-append}
use Rattle.std.proofs.lemmas.List.Elements.{All-nil, All-cons, All-append, All-map, All-filter, All-weaker}
use Rattle.std.proofs.lemmas.Fmt.{decimal_is_IsNumeral, decimal_step, decimal_digit}
use Rattle.std.proofs.lemmas.Bool.Decides.{nat_tests}
use Rattle.std.proofs.lemmas.List.Sums.{AllPass-from_list_all}
use Rattle.std.specs.Prelude.{if◌then◌else◌, ◌==◌, codes}
use Rattle.std.specs.List.{filter, list_all}
use Rattle.std.specs.Fmt.{decimal}
use Rattle.std.specs.Char.{is_ascii_digit}
use Rattle.httparse.specs.Ascii.{space, crlf_bytes}
use Rattle.httparse.specs.Grammar.{AllPass, Field, IsField, ReadsSection, ResponseHead, ReadsResponse, crlf, print_field, print_response, is_token_byte, is_value_byte, trim_ows}
use Rattle.httparse.specs.Spans.{name_and_value}
use Rattle.httparse.proofs.GrammarLemmas.{section_unique, response_unique}
use Rattle.asgi_types.specs.Fields.{HeaderField, IsValidField}
use Rattle.asgi_types.proofs.FieldLemmas.{valid-read}
use Rattle.asgi_response.specs.StatusLine.{reason_phrase, status_line, status_line_with}
use Rattle.asgi_response.specs.Content.{section_text}
use Rattle.asgi_response.specs.Fields.{is_shown, field_line, field_lines, head_text}
use Rattle.asgi_response.specs.ReadBack.{IsSendable, IsReadAs, fields_sent, as_read, HeadIsReadBack}
use Rattle.asgi_response.specs.ReadBackBody.{IsSectionOf}

-- ---- bytes that pass a test

pass-cons : (test : ℕ → Bool) (b : ℕ) (bytes : List ℕ) → test b ≡ true → AllPass test bytes → AllPass test (b ∷ bytes)
pass-cons test b bytes h k = All-cons (λ x. IsTrue (test x)) b bytes h k

pub all_pass : (test : ℕ → Bool) (bytes : List ℕ) → list_all test bytes ≡ true → AllPass test bytes
all_pass test bytes h = AllPass-from_list_all test bytes h

-- ---- the status

three_digits : (n : ℕ) → 100 ≤ n → n ≤ 599 → decimal n ≡ (48 + n / 10 / 10) ∷ (48 + n / 10 % 10) ∷ (48 + n % 10) ∷ []
three_digits n low high =
    decimal_step n (omega (arith, low)) (omega (arith, high))
    ∙ ap (λ (d : List ℕ). d ++ (48 + n % 10) ∷ []) (decimal_step (n / 10) (omega (arith, low)) (omega (arith, high))
    ∙ ap (λ (d : List ℕ). d ++ (48 + n / 10 % 10) ∷ []) (decimal_digit (n / 10 / 10) (omega (arith, high))))

digit_passes : (d : ℕ) → d < 10 → is_ascii_digit (48 + d) ≡ true
digit_passes d h = grind (arith, nat_tests)

status_digits : (n : ℕ) → 100 ≤ n → n ≤ 599 → (length (decimal n) ≡ 3) × AllPass is_ascii_digit (decimal n)
status_digits n low high =
    let P : List ℕ → Type 0 = λ d. (length d ≡ 3) × AllPass is_ascii_digit d in
    subst P (sym (three_digits n low high)) (
      refl,
      pass-cons is_ascii_digit (48 + n / 10 / 10) ((48 + n / 10 % 10) ∷ (48 + n % 10) ∷ []) (digit_passes (n / 10 / 10) (omega (arith, high)))
          (pass-cons is_ascii_digit (48 + n / 10 % 10) ((48 + n % 10) ∷ []) (digit_passes (n / 10 % 10) (omega arith))
          (pass-cons is_ascii_digit (48 + n % 10) [] (digit_passes (n % 10) (omega arith)) (All-nil (λ b. IsTrue (is_ascii_digit b))))),
    )

-- ---- the reason phrase

pick : (b : Bool) (xs ys : List ℕ) → list_all is_value_byte xs ≡ true → list_all is_value_byte ys ≡ true → list_all is_value_byte (if b then xs else ys) ≡ true
pick true xs ys h k = h
pick false xs ys h k = k

reason_passes : (status : ℕ) → list_all is_value_byte (reason_phrase status) ≡ true
reason_passes status =
    (pick (status == 200) (codes "OK") _ refl
    (pick (status == 201) (codes "Created") _ refl
    (pick (status == 202) (codes "Accepted") _ refl
    (pick (status == 204) (codes "No Content") _ refl
    (pick (status == 206) (codes "Partial Content") _ refl
    (pick (status == 301) (codes "Moved Permanently") _ refl
    (pick (status == 302) (codes "Found") _ refl
    (pick (status == 303) (codes "See Other") _ refl
    (pick (status == 304) (codes "Not Modified") _ refl
    (pick (status == 307) (codes "Temporary Redirect") _ refl
    (pick (status == 308) (codes "Permanent Redirect") _ refl
    (pick (status == 400) (codes "Bad Request") _ refl
    (pick (status == 401) (codes "Unauthorized") _ refl
    (pick (status == 403) (codes "Forbidden") _ refl
    (pick (status == 404) (codes "Not Found") _ refl
    (pick (status == 405) (codes "Method Not Allowed") _ refl
    (pick (status == 406) (codes "Not Acceptable") _ refl
    (pick (status == 409) (codes "Conflict") _ refl
    (pick (status == 410) (codes "Gone") _ refl
    (pick (status == 411) (codes "Length Required") _ refl
    (pick (status == 412) (codes "Precondition Failed") _ refl
    (pick (status == 413) (codes "Content Too Large") _ refl
    (pick (status == 415) (codes "Unsupported Media Type") _ refl
    (pick (status == 422) (codes "Unprocessable Content") _ refl
    (pick (status == 426) (codes "Upgrade Required") _ refl
    (pick (status == 429) (codes "Too Many Requests") _ refl
    (pick (status == 431) (codes "Request Header Fields Too Large") _ refl
    (pick (status == 500) (codes "Internal Server Error") _ refl
    (pick (status == 501) (codes "Not Implemented") _ refl
    (pick (status == 502) (codes "Bad Gateway") _ refl
    (pick (status == 503) (codes "Service Unavailable") _ refl
    (pick (status == 504) (codes "Gateway Timeout") _ refl refl))))))))))))))))))))))))))))))))

-- ---- the fields

field_sent : HeaderField → Field
field_sent f = record { name = f.name; raw = space ∷ f.value; end = crlf }

sent-line : (f : HeaderField) → print_field (field_sent f) ≡ field_line f
unfolding field_sent
sent-line f = ap (λ (x : List ℕ). x ++ crlf_bytes) (sym (append_assoc f.name (codes ": ") f.value))

sent-lines : (fs : List HeaderField) → flat_map print_field (map field_sent fs) ≡ flat_map field_line fs
sent-lines [] = refl
sent-lines (f ∷ fs) = ap (λ (x : List ℕ). x ++ flat_map print_field (map field_sent fs)) (sent-line f) ∙ ap (λ (x : List ℕ). field_line f ++ x) (sent-lines fs)

sent-named : (fs : List HeaderField) → map name_and_value (map field_sent fs) ≡ map as_read fs
unfolding field_sent trim_ows
sent-named [] = refl
sent-named (f ∷ fs) = ap (λ (x : List (List ℕ × List ℕ)). as_read f ∷ x) (sent-named fs)

sendable : (f : HeaderField) → IsSendable f → IsField (field_sent f)
unfolding field_sent
sendable f h = record { name = h.name; raw = pass-cons is_value_byte space f.value refl h.value }

-- a field of a `Headers` can be sent
valid_is_sendable : (f : HeaderField) → IsValidField f → IsSendable f
valid_is_sendable f h = let read = valid-read f h in record { name = read.0; value = read.1 }

pub valid_are_sendable : (headers : List HeaderField) → All IsValidField headers → All IsSendable headers
valid_are_sendable headers h = All-weaker IsValidField IsSendable valid_is_sendable headers h

-- ---- a trailer section

are_sendable : (fields : List HeaderField) → All IsSendable fields → All IsField (map field_sent fields)
are_sendable fields clean = All-map IsField field_sent fields (All-weaker IsSendable (λ f. IsField (field_sent f)) sendable fields clean)

-- the lines of fields that can be sent and the empty line are read as exactly these fields
pub section_is_read_back : (fields : List HeaderField) (rest : List ℕ) → All IsSendable fields → IsSectionOf (section_text fields false ++ rest) fields rest
section_is_read_back fields rest clean =
    let text : List ℕ = section_text fields false ++ rest in
    let sent : List Field = map field_sent fields in
    let reads : ReadsSection text sent crlf rest = (are_sendable fields clean, ap (λ (x : List ℕ). (x ++ crlf_bytes) ++ rest) (sym (sent-lines fields))) in
    record {
      fields = sent;
      reads = reads;
      named = sent-named fields;
      only = λ other last after found. let one = section_unique text other sent last crlf after rest found reads in (one.0, one.2);
    }

-- ---- the whole head

server_line : (b : Bool) (f : HeaderField) → flat_map field_line (if b then f ∷ [] else []) ≡ (if b then field_line f else [])
server_line true f = append-nil (field_line f)
server_line false f = refl

lines_sent : (chunked closing : Bool) (status : ℕ) (headers : List HeaderField)
    → flat_map field_line (fields_sent chunked closing status headers)
    ≡ field_lines status headers
    ++ (if chunked then codes "transfer-encoding: chunked" ++ crlf_bytes else [])
    ++ (if closing then codes "connection: close" ++ crlf_bytes else [])
lines_sent chunked closing status headers =
    let shown_fields : List HeaderField = filter (λ f. is_shown status f.name) headers in
    let te : HeaderField = record { name = codes "transfer-encoding"; value = codes "chunked" } in
    let cl : HeaderField = record { name = codes "connection"; value = codes "close" } in
    let own : List HeaderField = (if chunked then te ∷ [] else []) in
    let last : List HeaderField = (if closing then cl ∷ [] else []) in
    flat_map-append field_line (shown_fields ++ own) last
    ∙ ap (λ (x : List ℕ). x ++ flat_map field_line last) (flat_map-append field_line shown_fields own ∙ ap (λ (x : List ℕ). flat_map field_line shown_fields ++ x) (server_line chunked te))
    ∙ ap (λ (x : List ℕ). flat_map field_line shown_fields ++ (if chunked then field_line te else []) ++ x) (server_line closing cl)

sendable_one : (b : Bool) (f : HeaderField) → IsSendable f → All IsSendable (if b then f ∷ [] else [])
sendable_one true f h = All-cons IsSendable f [] h (All-nil IsSendable)
sendable_one false f h = All-nil IsSendable

pub own_sendable : (name value : List ℕ) → 0 < length name → list_all is_token_byte name ≡ true → list_all is_value_byte value ≡ true
    → (let f : HeaderField = record { name = name; value = value } in IsSendable f)
own_sendable name value some token bytes = record { name = (some, all_pass is_token_byte name token); value = all_pass is_value_byte value bytes }

all_sendable : (chunked closing : Bool) (status : ℕ) (headers : List HeaderField) → All IsSendable headers → All IsSendable (fields_sent chunked closing status headers)
unfolding is_token_byte
all_sendable chunked closing status headers h =
    let shown_fields : List HeaderField = filter (λ f. is_shown status f.name) headers in
    let te : HeaderField = record { name = codes "transfer-encoding"; value = codes "chunked" } in
    let cl : HeaderField = record { name = codes "connection"; value = codes "close" } in
    All-append IsSendable (shown_fields ++ (if chunked then te ∷ [] else [])) (if closing then cl ∷ [] else [])
    (All-append IsSendable shown_fields (if chunked then te ∷ [] else []) (All-filter (λ f. is_shown status f.name) IsSendable headers h)
    (sendable_one chunked te (own_sendable (codes "transfer-encoding") (codes "chunked") (omega arith) refl refl)))
    (sendable_one closing cl (own_sendable (codes "connection") (codes "close") (omega arith) refl refl))

head_sent : ℕ → List ℕ → List HeaderField → ResponseHead
head_sent status reason fields = record {
  blank = [];
  minor = 1;
  digits = decimal status;
  reason = Some reason;
  line_end = crlf;
  fields = map field_sent fields;
  last = crlf;
}

-- a status line, lines of fields that can be sent and the empty line are read as this status and exactly these fields
pub fields_are_read_back : (status : ℕ) (reason : List ℕ) (fields : List HeaderField) (rest : List ℕ) → 100 ≤ status → status ≤ 599
    → AllPass is_value_byte reason → All IsSendable fields
    → IsReadAs ((status_line_with status reason ++ (flat_map field_line fields ++ crlf_bytes)) ++ rest) status fields rest
unfolding head_sent print_response
fields_are_read_back status reason fields rest low high phrase clean =
    let text : List ℕ = (status_line_with status reason ++ (flat_map field_line fields ++ crlf_bytes)) ++ rest in
    let reads : ReadsResponse text (head_sent status reason fields) rest = (
      record {
        minor = omega arith;
        digits = status_digits status low high;
        reason = phrase;
        fields = are_sendable fields clean;
      },
      ap (λ (x : List ℕ). (status_line_with status reason ++ (x ++ crlf_bytes)) ++ rest) (sym (sent-lines fields)),
    ) in
    record {
      head = head_sent status reason fields;
      reads = reads;
      code = (decimal_is_IsNumeral status (omega (arith, high))).1;
      named = sent-named fields;
      only = λ other after found. response_unique text other (head_sent status reason fields) after rest found reads;
    }

regroup : (a b c d rest : List ℕ) → (a ++ ((b ++ c ++ d) ++ crlf_bytes)) ++ rest ≡ (a ++ b ++ c ++ d ++ crlf_bytes) ++ rest
regroup a b c d rest = simp append_assoc

pub head_is_read_back : HeadIsReadBack
head_is_read_back headers clean chunked closing status rest low high =
    let te : List ℕ = (if chunked then codes "transfer-encoding: chunked" ++ crlf_bytes else []) in
    let cl : List ℕ = (if closing then codes "connection: close" ++ crlf_bytes else []) in
    let sent : List HeaderField = fields_sent chunked closing status headers in
    let same : (status_line status ++ (flat_map field_line sent ++ crlf_bytes)) ++ rest ≡ head_text chunked closing status headers ++ rest =
    ap (λ (x : List ℕ). (status_line status ++ (x ++ crlf_bytes)) ++ rest) (lines_sent chunked closing status headers)
    ∙ regroup (status_line status) (field_lines status headers) te cl rest in
    subst (λ (text : List ℕ). IsReadAs text status sent rest) same
    (fields_are_read_back status (reason_phrase status) sent rest (omega (arith, low)) high (all_pass is_value_byte (reason_phrase status) (reason_passes status))
    (all_sendable chunked closing status headers clean))
