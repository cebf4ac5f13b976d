-- A request that waits for `100 Continue` and its body are echoed, and the input ends: a conversation in which `Echo` keeps its
-- promise, with all that can be sent.
use Rattle.std.proofs.Common.{◌≡◌, ℕ, false, List, [], ◌∷◌, ◌++◌, inl, refl, sym, subst, codes, arith, Some, None, All}
use Rattle.std.specs.Fmt.{digits}
use Rattle.std.proofs.lemmas.List.Elements.{All-nil, All-cons}
use Rattle.std.proofs.lemmas.List.Sums.{AllPass-from_list_all}
use Rattle.httparse.specs.Grammar.{is_token_byte}
use Rattle.asgi_types.specs.Scopes.{scope_with}
use Rattle.asgi_types.specs.declared.scope.Scope.{Scope}
use Rattle.asgi_types.specs.declared.end_kind.EndKind.TheVariants.{Returned}
use Rattle.asgi_types.specs.declared.outgoing.Outgoing.{Outgoing}
use Rattle.asgi_types.specs.declared.outgoing.Outgoing.TheVariants.{ResponseBody}
use Rattle.asgi_types.specs.declared.scope.Kind.TheVariants.{Http}
use Rattle.asgi_protocol.specs.Lawful.{IsLawful}
use Rattle.asgi_protocol.proofs.PassingLemmas.{lawful_lists_are_decided}
use Rattle.asgi_request.specs.ChunkedBody.{complete}
use Rattle.asgi_request.specs.Fronts.{unfinished, head_len}
use Rattle.asgi_request.specs.HeadText.{EndsAsHead, is_line_break}
use Rattle.asgi_request.specs.RequestEvents.{last_event}
use Rattle.asgi_request.proofs.HeadExamples.{example_limits, post_text, post_scope, post_facts, post_begins}
use Rattle.asgi_request.proofs.TextLemmas.{tells, head_search_for}
use Rattle.asgi_request.proofs.OpenedLemmas.{http_scope}
use Rattle.asgi_response.specs.ReadBack.{IsSendable}
use Rattle.asgi_response.proofs.ReadBackLemmas.{own_sendable}
use Rattle.asgi_apps.specs.Answers.{start_of}
use Rattle.asgi_apps.specs.Echo.{echo_events}
use Rattle.asgi_conversation.specs.declared.report.Outcome.TheVariants.{Finished}
use Rattle.asgi_conversation.specs.declared.report.Report.{Report}
use Rattle.asgi_conversation.specs.After.{NothingIsDue, IsBlank}
use Rattle.asgi_conversation.specs.Exchanges.{ServesFirst, IsFollowed, answer_texts}
use Rattle.asgi_conversation.specs.ExchangeRecord.{ExchangeRecord}
use Rattle.asgi_conversation.specs.Kinds.{Converses}
use Rattle.asgi_conversation.specs.Promised.{IsPromised}
use Rattle.asgi_conversation.specs.PromisedWhole.{ConversesWith, echo_promise}
use Rattle.asgi_conversation.specs.ReadResponses.{CanBeSent, AllCanBeSent}
use Rattle.asgi_conversation.specs.declared.following.NextStep.TheVariants.{NextRequest}
use Rattle.asgi_conversation.specs.declared.input.InputEnd.TheVariants.{AtEnd}
use Rattle.asgi_conversation.proofs.RequestLemmas.{nothing_due}

-- CR LF
line_end : List ℕ
line_end = 13 ∷ 10 ∷ []

read : List ℕ
read = post_text ++ (codes "abc" ++ [])

posted : ExchangeRecord
posted = record {
  scope = post_scope;
  facts = post_facts;
  heard = last_event (codes "abc") ∷ [];
  said = echo_events (last_event (codes "abc") ∷ []);
  ended = Some Returned;
  input_broke = false;
}

-- RFC 9112, section 7.1: three bytes, and the last chunk
written : List ℕ
written =
    codes "HTTP/1.1 100 Continue" ++ line_end ++ line_end
    ++ (codes "HTTP/1.1 200 OK" ++ line_end ++ codes "content-type: application/octet-stream" ++ line_end ++ codes "transfer-encoding: chunked" ++ line_end ++ line_end
    ++ codes "3" ++ line_end ++ codes "abc" ++ line_end ++ codes "0" ++ line_end ++ line_end)

reported : Report
reported = record { exchanges = 1; faults = 0; turns = 2; idle = 0; outcome = Finished }

is_lawful : IsLawful Http post_facts (echo_events (last_event (codes "abc") ∷ []))
unfolding post_facts
is_lawful = (lawful_lists_are_decided Http post_facts (echo_events (last_event (codes "abc") ∷ []))).0 refl

is_served : ServesFirst example_limits AtEnd false read posted (complete [])
unfolding read posted post_facts example_limits
is_served = record {
  arrived = codes "abc" ++ [];
  events = last_event (codes "abc") ∷ [];
  head = post_begins (codes "abc" ++ []);
  body = (refl, refl);
  hears = record { first = last_event (codes "abc") ∷ []; times = 0; in_order = refl; due = ([], refl); cause = inl refl };
  lawful = is_lawful;
  breaks = λ b. cc b;
}

is_followed : IsFollowed posted (complete []) NextRequest
unfolding posted post_facts
is_followed = (Returned, refl, refl)

texts : written ≡ answer_texts (posted ∷ []) ++ []
unfolding posted post_facts written line_end digits
texts = refl

nothing_more : NothingIsDue example_limits []
unfolding example_limits
nothing_more = nothing_due example_limits [] (tells EndsAsHead head_len head_search_for 256 [] unfinished refl)

blank : IsBlank []
blank = AllPass-from_list_all is_line_break [] refl

is_a_conversation : Converses example_limits AtEnd read (posted ∷ []) written reported
unfolding reported posted
is_a_conversation = record {
  answered = posted ∷ [];
  last = None;
  in_order = refl;
  after = [];
  each = ([], is_served, is_followed, refl);
  text = [];
  ends = (refl, nothing_more, refl, blank);
  written_is = texts;
  counts = record { exchanges_are = refl; faults_are = refl };
}

is_promised : IsPromised echo_promise None None [] posted
unfolding posted
is_promised =
    subst (λ (s : Scope). echo_promise (scope_with s None None []) (last_event (codes "abc") ∷ []) (echo_events (last_event (codes "abc") ∷ [])) (Some Returned)) (sym (http_scope example_limits _ post_scope post_facts [] (post_begins [])))
    (refl, λ e. record { before = []; last = last_event (codes "abc"); in_order = refl; ends = refl })

-- the premises of the laws hold for it
a_body_is_echoed : ConversesWith echo_promise example_limits AtEnd read (posted ∷ []) written reported
unfolding reported
a_body_is_echoed = record {
  converses = is_a_conversation;
  uncut = refl;
  no_faults = refl;
  client = None;
  server = None;
  state = [];
  promised = All-cons (IsPromised echo_promise None None []) posted [] is_promised (All-nil (IsPromised echo_promise None None []));
}

octets : Outgoing
octets = start_of 200 (codes "content-type") (codes "application/octet-stream")

fields_sendable : CanBeSent octets
unfolding octets is_token_byte
fields_sendable = All-cons IsSendable _ [] (own_sendable (codes "content-type") (codes "application/octet-stream") (omega arith) refl refl) (All-nil IsSendable)

it_can_be_sent : AllCanBeSent (posted ∷ [])
unfolding posted octets
it_can_be_sent =
    All-cons (λ (x : ExchangeRecord). All CanBeSent x.said) posted []
    (All-cons CanBeSent octets (ResponseBody (codes "abc") false ∷ []) fields_sendable (All-cons CanBeSent (ResponseBody (codes "abc") false) [] (omega arith) (All-nil CanBeSent)))
    (All-nil (λ (x : ExchangeRecord). All CanBeSent x.said))
