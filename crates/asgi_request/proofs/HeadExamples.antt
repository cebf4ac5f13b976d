-- Two heads, computed: one that waits for `100 Continue` with a body of three bytes, and one with none after it.
use Rattle.std.proofs.Common.{◌≡◌, ℕ, true, false, List, [], ◌∷◌, ◌++◌, refl, codes, arith}
use Rattle.std.specs.Prelude.{◌<◌, replicate}
use Rattle.std.specs.List.{list_all}
use Rattle.std.specs.Str.{IsUtf8}
use Rattle.std.proofs.lemmas.List.Elements.{All-nil, All-cons}
use Rattle.std.proofs.lemmas.List.Sums.{AllPass-from_list_all}
use Rattle.std.proofs.lemmas.Str.{IsUtf8-from_ascii}
use Rattle.std.proofs.lemmas.Str.Ascii.{IsAscii-from_all}
use Rattle.httparse.specs.Ascii.{crlf_bytes}
use Rattle.httparse.specs.Grammar.{RequestHead, IsRequestHead, Field, IsField, IsToken, crlf, print_request, is_token_byte, is_uri_byte, is_value_byte, trim_ows}
use Rattle.asgi_types.specs.declared.facts.Facts.{Facts}
use Rattle.asgi_types.specs.declared.facts.Framing.TheVariants.{Length}
use Rattle.asgi_types.specs.declared.limits.Limits.{Limits}
use Rattle.asgi_types.specs.declared.outgoing.HttpVersion.TheVariants.{V11}
use Rattle.asgi_types.specs.declared.scope.Scope.{Scope}
use Rattle.asgi_request.specs.Fronts.{found, head_len}
use Rattle.asgi_request.specs.Head.{record_of}
use Rattle.asgi_request.specs.HeadText.{EndsAsHead}
use Rattle.asgi_request.specs.Opened.{BeginsWith}
use Rattle.asgi_request.specs.Scopes.{scope_of}
use Rattle.asgi_request.specs.Texts.{IsFirstWithin}
use Rattle.asgi_request.proofs.TextLemmas.{tells, head_search_for}

unfoldable pub example_limits : Limits
example_limits = record {
  max_head = 256;
  max_headers = 4;
  max_body = 9;
  block = 8;
  ring = 2;
  idle_turns = 1;
  turns = 1;
  head_in_range = (omega arith, omega arith);
  headers_in_range = (omega arith, omega arith);
  body_in_range = omega arith;
  block_in_range = (omega arith, omega arith);
  ring_in_range = (omega arith, omega arith);
  idle_in_range = omega arith;
  turns_in_range = (omega arith, omega arith);
}

field : List ℕ → List ℕ → Field
field name raw = record { name = name; raw = raw; end = crlf }

post : RequestHead
post = record {
  blank = [];
  method = codes "POST";
  target = codes "/";
  minor = 1;
  line_end = crlf;
  fields = field (codes "Host") (codes " a") ∷ field (codes "Expect") (codes " 100-continue") ∷ field (codes "Content-Length") (codes " 3") ∷ [];
  last = crlf;
}

unfoldable pub post_text : List ℕ
post_text =
    codes "POST / HTTP/1.1" ++ crlf_bytes ++ codes "Host: a" ++ crlf_bytes ++ codes "Expect: 100-continue" ++ crlf_bytes ++ codes "Content-Length: 3" ++ crlf_bytes
    ++ crlf_bytes

post_prints : post_text ≡ print_request post ++ []
unfolding post post_text field print_request
post_prints = refl

post_is_first : (rest : List ℕ) → IsFirstWithin EndsAsHead 256 (post_text ++ rest) post_text rest
unfolding post_text
post_is_first rest = tells EndsAsHead head_len head_search_for 256 (post_text ++ rest) (found post_text) refl rest refl

is_field : (f : Field) → IsToken f.name → list_all is_value_byte f.raw ≡ true → IsField f
is_field f name raw = record { name = name; raw = AllPass-from_list_all is_value_byte f.raw raw }

host_is_a_field : IsField (field (codes "Host") (codes " a"))
unfolding field is_token_byte
host_is_a_field = is_field (field (codes "Host") (codes " a")) (omega arith, AllPass-from_list_all is_token_byte (codes "Host") refl) refl

expect_is_a_field : IsField (field (codes "Expect") (codes " 100-continue"))
unfolding field is_token_byte
expect_is_a_field = is_field (field (codes "Expect") (codes " 100-continue")) (omega arith, AllPass-from_list_all is_token_byte (codes "Expect") refl) refl

length_is_a_field : IsField (field (codes "Content-Length") (codes " 3"))
unfolding field is_token_byte
length_is_a_field = is_field (field (codes "Content-Length") (codes " 3")) (omega arith, AllPass-from_list_all is_token_byte (codes "Content-Length") refl) refl

slash_is_text : IsUtf8 (codes "/")
slash_is_text = IsUtf8-from_ascii (codes "/") (IsAscii-from_all (codes "/") (All-cons (λ b. b < 128) 47 [] (omega arith) (All-nil (λ b. b < 128))))

post_is_a_head : IsRequestHead post
unfolding post is_token_byte
post_is_a_head = record {
  method = (omega arith, AllPass-from_list_all is_token_byte (codes "POST") refl);
  target = (omega arith, AllPass-from_list_all is_uri_byte (codes "/") refl);
  target_text = slash_is_text;
  minor = omega arith;
  fields =
      All-cons IsField (field (codes "Host") (codes " a")) (field (codes "Expect") (codes " 100-continue") ∷ field (codes "Content-Length") (codes " 3") ∷ []) host_is_a_field
      (All-cons IsField (field (codes "Expect") (codes " 100-continue")) (field (codes "Content-Length") (codes " 3") ∷ []) expect_is_a_field
      (All-cons IsField (field (codes "Content-Length") (codes " 3")) [] length_is_a_field (All-nil IsField)));
}

unfoldable pub post_facts : Facts
post_facts = record { version = V11; head_only = false; close = false; expect = true; trailers_ok = false; framing = Length 3; key = replicate 24 0; subprotocols = [] }

pub post_scope : Scope
post_scope = scope_of (record_of post) (Length 3)

pub post_begins : (rest : List ℕ) → BeginsWith example_limits (post_text ++ rest) post_scope post_facts rest
unfolding post post_facts post_scope example_limits field trim_ows
post_begins rest = record {
  head = post;
  reads = record {
    text = post_text;
    text_is = post_is_first rest;
    head_is = record { reads = (post_is_a_head, post_prints); few = omega arith };
    framing_is = refl;
  };
  plain = λ e. cc;
  scope_is = refl;
  facts_are = refl;
}

-- ---- the same of a request with no body

get : RequestHead
get = record { blank = []; method = codes "GET"; target = codes "/"; minor = 1; line_end = crlf; fields = field (codes "Host") (codes " a") ∷ []; last = crlf }

unfoldable pub get_text : List ℕ
get_text = codes "GET / HTTP/1.1" ++ crlf_bytes ++ codes "Host: a" ++ crlf_bytes ++ crlf_bytes

get_prints : get_text ≡ print_request get ++ []
unfolding get get_text field print_request
get_prints = refl

get_is_first : (rest : List ℕ) → IsFirstWithin EndsAsHead 256 (get_text ++ rest) get_text rest
unfolding get_text
get_is_first rest = tells EndsAsHead head_len head_search_for 256 (get_text ++ rest) (found get_text) refl rest refl

get_is_a_head : IsRequestHead get
unfolding get is_token_byte
get_is_a_head = record {
  method = (omega arith, AllPass-from_list_all is_token_byte (codes "GET") refl);
  target = (omega arith, AllPass-from_list_all is_uri_byte (codes "/") refl);
  target_text = slash_is_text;
  minor = omega arith;
  fields = All-cons IsField (field (codes "Host") (codes " a")) [] host_is_a_field (All-nil IsField);
}

unfoldable pub get_facts : Facts
get_facts = record { version = V11; head_only = false; close = false; expect = false; trailers_ok = false; framing = Length 0; key = replicate 24 0; subprotocols = [] }

pub get_scope : Scope
get_scope = scope_of (record_of get) (Length 0)

pub get_begins : (rest : List ℕ) → BeginsWith example_limits (get_text ++ rest) get_scope get_facts rest
unfolding get get_facts get_scope example_limits field trim_ows
get_begins rest = record {
  head = get;
  reads = record {
    text = get_text;
    text_is = get_is_first rest;
    head_is = record { reads = (get_is_a_head, get_prints); few = omega arith };
    framing_is = refl;
  };
  plain = λ e. cc;
  scope_is = refl;
  facts_are = refl;
}
