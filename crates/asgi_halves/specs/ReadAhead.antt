-- How much is read ahead of the requests that are answered (RFC 9112, section 9.3.2).
use Rattle.std.specs.Prelude.{◌≡◌, ℕ, ◌+◌, ◌<◌, List, ◌++◌, length}
use mathlib.Core.List.{IsPrefix}
use Rattle.asgi_types.specs.declared.facts.Facts.{Facts}
use Rattle.asgi_types.specs.declared.limits.Limits.{Limits}
use Rattle.asgi_types.specs.declared.scope.Scope.{Scope}
use Rattle.asgi_request.specs.declared.next.Next.{Next}
use Rattle.asgi_request.specs.Results.{GivesResults}
use Rattle.asgi_conversation.specs.Exchanges.{heads_of}
use Rattle.asgi_run.specs.Lines.{piece_size}

-- more is read only while fewer bytes than these are held after a whole request
abbrev pub ahead_limit : ℕ
ahead_limit = 65536

-- Without the last of the bytes read, which are fewer than that and one piece, there was no head but those of these requests.
pub record ReadsAhead (limits : Limits) (read : List ℕ) (requests : List (Scope × Facts)) : Type 0 where
  pub front : List ℕ
  pub ahead : List ℕ
  pub split : read ≡ front ++ ahead
  pub few : length ahead < ahead_limit + piece_size
  -- all the results of the bytes before those
  pub results : List Next
  pub rest : List ℕ
  pub gives : GivesResults limits front results rest
  pub heads : IsPrefix (heads_of results) requests
