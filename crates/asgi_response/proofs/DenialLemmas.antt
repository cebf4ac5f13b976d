-- A lawful denial, read as a response after which the connection closes, is lawful too.
use Rattle.std.proofs.Common.{◌≡◌, ℕ, ◌+◌, Bool, true, false, List, [], ◌∷◌, ◌++◌, inl, inr, length, map, Option, None, refl, ap, sym, ◌∙◌, subst}
use Rattle.std.proofs.lemmas.List.{map-append}
use Rattle.std.specs.Prelude.{◌&&◌, not, if◌then◌else◌}
use Rattle.asgi_types.specs.Fields.{HeaderField}
use Rattle.asgi_types.specs.declared.facts.Facts.{Facts}
use Rattle.asgi_types.specs.declared.outgoing.Outgoing.{Outgoing}
use Rattle.asgi_types.specs.declared.outgoing.Outgoing.TheVariants.{ResponseStart, ResponseBody, DenialStart, DenialBody}
use Rattle.asgi_types.specs.declared.scope.Kind.TheVariants.{Http, WebSocket}
use Rattle.asgi_protocol.specs.BytesLeft.{is_above, is_below}
use Rattle.asgi_protocol.specs.Lawful.{IsResponse, IsWord, BeginsWord, IsLawful}
use Rattle.asgi_protocol.specs.Rules.{has_bad_status, has_bad_header, has_bad_code, has_bad_reason, has_bad_subprotocol}
use Rattle.asgi_protocol.specs.Rules.{length_given_by, promised_length, body_bytes, has_too_much_body, has_too_little_body, MeetsRules}
use Rattle.asgi_response.specs.Denial.{closing_facts, as_response, denial_text}
use Rattle.asgi_response.specs.Response.{message_text, continue_text, response_text}
use Rattle.asgi_response.proofs.LawfulLemmas.{lawful_is_accepted}

-- ---- the rules of one event

record IsSame (facts : Facts) (event : Outgoing) : Type 0 where
  pub status : has_bad_status (as_response event) ≡ has_bad_status event
  pub header : has_bad_header (as_response event) ≡ has_bad_header event
  pub code : has_bad_code (as_response event) ≡ has_bad_code event
  pub reason : has_bad_reason (as_response event) ≡ has_bad_reason event
  pub subprotocol : has_bad_subprotocol (closing_facts facts) (as_response event) ≡ has_bad_subprotocol facts event
  pub given : length_given_by (as_response event) ≡ length_given_by event

is_same : (facts : Facts) (event : Outgoing) → IsSame facts event
is_same facts (DenialStart a b) = record { status = refl; header = refl; code = refl; reason = refl; subprotocol = refl; given = refl }
is_same facts _ = record { status = refl; header = refl; code = refl; reason = refl; subprotocol = refl; given = refl }

same_bytes : (before : List Outgoing) → body_bytes (map as_response before) ≡ body_bytes before
same_bytes [] = refl
same_bytes (ResponseBody a b ∷ before) = ap (λ n. length a + n) (same_bytes before)
same_bytes (DenialBody a b ∷ before) = ap (λ n. length a + n) (same_bytes before)
same_bytes (_ ∷ before) = same_bytes before

module _ (facts : Facts) where
  same_promise : (before : List Outgoing) → promised_length (closing_facts facts) (map as_response before) ≡ promised_length facts before
  same_promise [] = refl
  same_promise (start ∷ bodies) = ap (λ n. if facts.head_only then None else n) (let s = is_same facts start in s.given)

  -- `n` bytes against the promised ones, in either words
  same_test : (test : ℕ → Option ℕ → Bool) (before : List Outgoing) (n : ℕ)
      → test (body_bytes (map as_response before) + n) (promised_length (closing_facts facts) (map as_response before)) ≡ test (body_bytes before + n) (promised_length facts before)
  same_test test before n =
      ap (λ bytes. test (bytes + n) (promised_length (closing_facts facts) (map as_response before))) (same_bytes before)
      ∙ ap (test (body_bytes before + n)) (same_promise before)

  same_much : (before : List Outgoing) (event : Outgoing) → has_too_much_body (closing_facts facts) (map as_response before) (as_response event) ≡ has_too_much_body facts before event
  same_much before (ResponseBody a b) = same_test is_above before (length a)
  same_much before (DenialBody a b) = same_test is_above before (length a)
  same_much before _ = refl

  same_little : (before : List Outgoing) (event : Outgoing) → has_too_little_body (closing_facts facts) (map as_response before) (as_response event) ≡ has_too_little_body facts before event
  same_little before (ResponseBody a b) = ap (λ below. not b && below) (same_test is_below before (length a))
  same_little before (DenialBody a b) = ap (λ below. not b && below) (same_test is_below before (length a))
  same_little before _ = refl

  meets : (before : List Outgoing) (event : Outgoing) → MeetsRules facts before event → MeetsRules (closing_facts facts) (map as_response before) (as_response event)
  meets before event m =
      let s = is_same facts event in
      record {
        status = s.status ∙ m.status;
        header = s.header ∙ m.header;
        code = s.code ∙ m.code;
        reason = s.reason ∙ m.reason;
        subprotocol = s.subprotocol ∙ m.subprotocol;
        not_too_much = same_much before event ∙ m.not_too_much;
        not_too_little = same_little before event ∙ m.not_too_little;
      }

-- ---- the words

-- if a list in other words is split, so is the list
record IsSplit (said before : List Outgoing) (event : Outgoing) : Type 0 where
  pub front : List Outgoing
  pub one : Outgoing
  pub later : List Outgoing
  pub said_is : said ≡ front ++ one ∷ later
  pub before_is : map as_response front ≡ before
  pub event_is : as_response one ≡ event

split : (said before after : List Outgoing) (event : Outgoing) → map as_response said ≡ before ++ event ∷ after → IsSplit said before event
split [] [] after event h = absurd (cc (h))
split [] (b ∷ before) after event h = absurd (cc (h))
split (x ∷ said) [] after event h = record { front = []; one = x; later = said; said_is = refl; before_is = refl; event_is = cc (h) }
split (x ∷ said) (b ∷ before) after event h =
    let rest = split said before after event (cc (h)) in
    record {
      front = x ∷ rest.front;
      one = rest.one;
      later = rest.later;
      said_is = ap (λ w. x ∷ w) rest.said_is;
      before_is = cc (h, rest.before_is);
      event_is = rest.event_is;
    }

pub same_parts : (parts : List (List ℕ)) (last : List ℕ)
    → map as_response (map (λ part. DenialBody part true) parts ++ DenialBody last false ∷ []) ≡ map (λ part. ResponseBody part true) parts ++ ResponseBody last false ∷ []
same_parts [] last = refl
same_parts (part ∷ parts) last = ap (λ w. ResponseBody part true ∷ w) (same_parts parts last)

module _ (facts : Facts) (status : ℕ) (headers : List HeaderField) (bodies : List Outgoing) where
  abbrev denial : List Outgoing
  denial = DenialStart status headers ∷ bodies

  begins : BeginsWord WebSocket denial → BeginsWord Http (map as_response denial)
  begins b = (map as_response b.0, by b.1)
    where
      by : IsWord WebSocket (denial ++ b.0) → IsResponse (map as_response denial ++ map as_response b.0)
      by (inl s) = absurd (cc (s.in_order))
      by (inr (inl s)) = absurd (cc (s.in_order))
      by (inr (inr d)) = record {
        status = d.status;
        headers = d.headers;
        parts = d.parts;
        last = d.last;
        trailers = None;
        in_order = sym (map-append as_response denial b.0) ∙ (ap (map as_response) d.in_order ∙ ap (λ w. ResponseStart d.status d.headers false ∷ w) (same_parts d.parts d.last));
      }

  each_meets : IsLawful WebSocket facts denial → (before after : List Outgoing) (event : Outgoing) → map as_response denial ≡ before ++ event ∷ after
      → MeetsRules (closing_facts facts) before event
  each_meets lawful before after event h =
      let s = split denial before after event h in
      let m = meets facts s.front s.one (lawful.each s.front s.later s.one s.said_is) in
      subst (λ e. MeetsRules (closing_facts facts) before e) s.event_is (subst (λ l. MeetsRules (closing_facts facts) l (as_response s.one)) s.before_is m)

  pub is_lawful_response : IsLawful WebSocket facts (DenialStart status headers ∷ bodies) → IsLawful Http (closing_facts facts) (map as_response (DenialStart status headers ∷ bodies))
  is_lawful_response lawful = record { begins = begins lawful.begins; each = each_meets lawful }

  pub is_response_text : IsLawful WebSocket facts (DenialStart status headers ∷ bodies)
      → response_text (closing_facts facts) (map as_response (DenialStart status headers ∷ bodies)) ≡ continue_text facts.expect ++ denial_text facts (DenialStart status headers ∷ bodies)
  is_response_text lawful =
      ap (λ said. continue_text facts.expect ++ message_text (closing_facts facts) said)
      (lawful_is_accepted (closing_facts facts) (map as_response (DenialStart status headers ∷ bodies)) (is_lawful_response lawful))
