-- Two requests, one after another, and an empty line are a conversation: the first waits for `100 Continue` and has a body,
-- the second has none, each is greeted, and the input ends.
use Rattle.std.proofs.Common.{◌≡◌, ℕ, false, List, [], ◌∷◌, ◌++◌, inl, inr, refl, codes, Some, None}
use Rattle.std.specs.Fmt.{digits}
use Rattle.std.proofs.lemmas.List.Sums.{AllPass-from_list_all}
use Rattle.asgi_types.specs.declared.end_kind.EndKind.TheVariants.{Returned}
use Rattle.asgi_types.specs.declared.incoming.Incoming.TheVariants.{HttpDisconnect}
use Rattle.asgi_types.specs.declared.scope.Kind.TheVariants.{Http}
use Rattle.asgi_types.specs.Fields.{field_of}
use Rattle.asgi_protocol.specs.Lawful.{IsLawful, IsClosed}
use Rattle.asgi_protocol.proofs.PassingLemmas.{lawful_lists_are_decided}
use Rattle.asgi_request.specs.ChunkedBody.{complete}
use Rattle.asgi_request.specs.Fronts.{unfinished, head_len}
use Rattle.asgi_request.specs.HeadText.{EndsAsHead, is_line_break}
use Rattle.asgi_request.specs.RequestEvents.{last_event}
use Rattle.asgi_request.proofs.HeadExamples.{example_limits, post_text, post_scope, post_facts, post_begins, get_text, get_scope, get_facts, get_begins}
use Rattle.asgi_request.proofs.TextLemmas.{tells, head_search_for}
use Rattle.asgi_apps.specs.Answers.{hello_events}
use Rattle.asgi_conversation.specs.declared.report.Outcome.TheVariants.{Finished}
use Rattle.asgi_conversation.specs.declared.report.Report.{Report}
use Rattle.asgi_conversation.specs.After.{NothingIsDue, IsBlank}
use Rattle.asgi_conversation.specs.Exchanges.{ServesFirst, IsFollowed, answer_texts}
use Rattle.asgi_conversation.specs.ExchangeRecord.{ExchangeRecord}
use Rattle.asgi_conversation.specs.Kinds.{Converses}
use Rattle.asgi_conversation.specs.declared.following.NextStep.TheVariants.{NextRequest}
use Rattle.asgi_conversation.specs.declared.input.InputEnd.TheVariants.{AtEnd}
use Rattle.asgi_conversation.proofs.RequestLemmas.{nothing_due}

-- CR LF
empty_line : List ℕ
empty_line = 13 ∷ 10 ∷ []

-- after the body, and all
after_post : List ℕ
after_post = get_text ++ empty_line

read : List ℕ
read = post_text ++ (codes "abc" ++ after_post)

-- the first received its body, and a disconnect after the complete response
posted : ExchangeRecord
posted = record {
  scope = post_scope;
  facts = post_facts;
  heard = last_event (codes "abc") ∷ HttpDisconnect ∷ [];
  said = hello_events;
  ended = Some Returned;
  input_broke = false;
}

-- the second received nothing
got : ExchangeRecord
got = record { scope = get_scope; facts = get_facts; heard = []; said = hello_events; ended = Some Returned; input_broke = false }

-- RFC 9112, section 7.1: six bytes, and the last chunk
greeting : List ℕ
greeting =
    codes "HTTP/1.1 200 OK" ++ empty_line ++ codes "content-type: text/plain" ++ empty_line ++ codes "transfer-encoding: chunked" ++ empty_line ++ empty_line
    ++ codes "6" ++ empty_line ++ codes "hello" ++ 10 ∷ empty_line ++ codes "0" ++ empty_line ++ empty_line

-- RFC 9110, section 10.1.1
told_to_go_on : List ℕ
told_to_go_on = codes "HTTP/1.1 100 Continue" ++ empty_line ++ empty_line

reported : Report
reported = record { exchanges = 2; faults = 0; turns = 2; idle = 0; outcome = Finished }

post_is_lawful : IsLawful Http post_facts hello_events
unfolding post_facts
post_is_lawful = (lawful_lists_are_decided Http post_facts hello_events).0 refl

get_is_lawful : IsLawful Http get_facts hello_events
unfolding get_facts
get_is_lawful = (lawful_lists_are_decided Http get_facts hello_events).0 refl

greeting_is_closed : IsClosed Http hello_events
greeting_is_closed = record {
  status = 200;
  headers = field_of (codes "content-type") (codes "text/plain") ∷ [];
  parts = [];
  last = codes "hello" ++ 10 ∷ [];
  trailers = None;
  in_order = refl;
}

post_is_served : ServesFirst example_limits AtEnd false read posted (complete after_post)
unfolding read posted post_facts after_post example_limits get_text empty_line
post_is_served = record {
  arrived = codes "abc" ++ after_post;
  events = last_event (codes "abc") ∷ [];
  head = post_begins (codes "abc" ++ after_post);
  body = (refl, refl);
  hears = record { first = last_event (codes "abc") ∷ []; times = 1; in_order = refl; due = ([], refl); cause = inr (inl greeting_is_closed) };
  lawful = post_is_lawful;
  breaks = λ b. cc b;
}

get_is_served : ServesFirst example_limits AtEnd false after_post got (complete empty_line)
unfolding got get_facts after_post example_limits empty_line
get_is_served = record {
  arrived = empty_line;
  events = last_event [] ∷ [];
  head = get_begins empty_line;
  body = (refl, refl);
  hears = record { first = []; times = 0; in_order = refl; due = (last_event [] ∷ [], refl); cause = inl refl };
  lawful = get_is_lawful;
  breaks = λ b. cc b;
}

post_is_followed : IsFollowed posted (complete after_post) NextRequest
unfolding posted post_facts
post_is_followed = (Returned, refl, refl)

get_is_followed : IsFollowed got (complete empty_line) NextRequest
unfolding got get_facts
get_is_followed = (Returned, refl, refl)

texts : told_to_go_on ++ greeting ++ greeting ≡ answer_texts (posted ∷ got ∷ []) ++ []
unfolding posted got post_facts get_facts told_to_go_on greeting empty_line digits
texts = refl

nothing_more : NothingIsDue example_limits empty_line
unfolding example_limits empty_line
nothing_more = nothing_due example_limits empty_line (tells EndsAsHead head_len head_search_for 256 empty_line unfinished refl)

blank : IsBlank empty_line
unfolding empty_line
blank = AllPass-from_list_all is_line_break empty_line refl

two_requests_are_a_conversation : Converses example_limits AtEnd read (posted ∷ got ∷ []) (told_to_go_on ++ greeting ++ greeting) reported
unfolding reported posted got
two_requests_are_a_conversation = record {
  answered = posted ∷ got ∷ [];
  last = None;
  in_order = refl;
  after = empty_line;
  each = (after_post, post_is_served, post_is_followed, (empty_line, get_is_served, get_is_followed, refl));
  text = [];
  ends = (refl, nothing_more, refl, blank);
  written_is = texts;
  counts = record { exchanges_are = refl; faults_are = refl };
}
