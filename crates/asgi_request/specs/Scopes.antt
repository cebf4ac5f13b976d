-- The scope and the facts of a request (ASGI HTTP and WebSocket message format 2.4, connection scopes).
use Rattle.std.specs.Prelude.{ℕ, Bool, true, false, ◌&&◌, ◌||◌, not, List, [], nat_lt, codes, bytes_eq, replicate, None}
use Rattle.std.specs.Str.Lossy.{utf8_lossy}
use Rattle.percent_encoding.specs.Percent.{percent_decode}
use Rattle.asgi_types.specs.declared.facts.Facts.{Facts}
use Rattle.asgi_types.specs.declared.facts.Framing.{Framing}
use Rattle.asgi_types.specs.declared.facts.Framing.TheVariants.{Length, Chunked, Upgrade}
use Rattle.asgi_types.specs.declared.scope.Kind.TheVariants as kind
use Rattle.asgi_types.specs.declared.scope.Scope.{Scope}
use Rattle.asgi_types.specs.declared.scope.Scope.TheVariants.{Http, WebSocket}
use Rattle.asgi_request.specs.declared.head.HeadRecord.{HeadRecord}
use Rattle.asgi_types.specs.Fields.{HeaderField}
use Rattle.asgi_types.specs.Versions.{is_v11}
use Rattle.asgi_types.specs.Tokens.{has_token}
use Rattle.asgi_request.specs.Target.{path_of, query_of}
use Rattle.asgi_request.specs.Upgrade.{key_of, subprotocols_of}

-- percent-decoded, with U+FFFD for what is not UTF-8
abbrev pub decoded : List ℕ → List ℕ
decoded path = utf8_lossy (percent_decode path)

-- the scope of a request that is no opening handshake; the server can send trailer fields after the content
abbrev pub http_scope_of : HeadRecord → Scope
http_scope_of head = Http (record {
  asgi = kind.Http;
  http_version = head.version;
  method = head.method;
  scheme = codes "http";
  path = decoded (path_of head.target);
  raw_path = path_of head.target;
  query_string = query_of head.target;
  root_path = [];
  headers = head.headers;
  client = None;
  server = None;
  state = [];
  extensions = record { websocket_http_response = false; http_response_trailers = true };
})

-- the scope of an opening handshake: without a method, which is GET, and with the subprotocols; the server can send a response in
-- place of a session
abbrev pub websocket_scope_of : HeadRecord → Scope
websocket_scope_of head = WebSocket (record {
  asgi = kind.WebSocket;
  http_version = head.version;
  scheme = codes "ws";
  path = decoded (path_of head.target);
  raw_path = path_of head.target;
  query_string = query_of head.target;
  root_path = [];
  headers = head.headers;
  client = None;
  server = None;
  subprotocols = subprotocols_of head.headers;
  state = [];
  extensions = record { websocket_http_response = true; http_response_trailers = false };
})

-- the scope, without what the connection knows: the client, the server and the state
abbrev pub scope_of : HeadRecord → Framing → Scope
scope_of head (Length n) = http_scope_of head
scope_of head Chunked = http_scope_of head
scope_of head Upgrade = websocket_scope_of head

-- a body is announced
abbrev pub has_body : Framing → Bool
has_body (Length n) = nat_lt 0 n
has_body Chunked = true
has_body Upgrade = false

-- the client waits for `100 Continue` (RFC 9110, section 10.1.1)
abbrev pub expects : HeadRecord → Framing → Bool
expects head framing = is_v11 head.version && has_body framing && has_token head.headers (codes "expect") (codes "100-continue")

-- the client takes trailer fields (RFC 9110, sections 6.5.1 and 10.1.4)
abbrev pub takes_trailers : HeadRecord → Bool
takes_trailers head = is_v11 head.version && has_token head.headers (codes "te") (codes "trailers")

-- the key of an opening handshake, which has one (RFC 6455, section 4.2.1, item 5); else zero bytes
abbrev pub key_after : List HeaderField → Framing → List ℕ
key_after fields (Length n) = replicate 24 0
key_after fields Chunked = replicate 24 0
key_after fields Upgrade = key_of fields

-- the subprotocols that an opening handshake offers
abbrev pub offers_after : List HeaderField → Framing → List (List ℕ)
offers_after fields (Length n) = []
offers_after fields Chunked = []
offers_after fields Upgrade = subprotocols_of fields

-- the facts, by the head and its framing
abbrev pub facts_of : HeadRecord → Framing → Facts
facts_of head framing = record {
  version = head.version;
  -- RFC 9110, section 9.3.2
  head_only = bytes_eq head.method (codes "HEAD");
  -- RFC 9112, section 9.3; connections of HTTP/1.0 are not kept open
  close = not (is_v11 head.version) || has_token head.headers (codes "connection") (codes "close");
  expect = expects head framing;
  trailers_ok = takes_trailers head;
  framing = framing;
  key = key_after head.headers framing;
  subprotocols = offers_after head.headers framing;
}
