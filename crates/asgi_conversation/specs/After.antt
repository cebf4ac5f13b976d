-- The bytes after the requests that were answered (RFC 9112, section 2.2).
use Rattle.std.specs.Prelude.{ℕ, List, [], All, IsTrue}
use Rattle.httparse.specs.Grammar.{RequestHead}
use Rattle.asgi_types.specs.declared.facts.Framing.{Framing}
use Rattle.asgi_types.specs.declared.limits.Limits.{Limits}
use Rattle.asgi_request.specs.HeadText.{is_line_break}
use Rattle.asgi_request.specs.Results.{GivesResults, ReadsHead}

-- nothing is due: the bytes have no result, and a head may still come
abbrev pub NothingIsDue : Limits → List ℕ → Type 0
NothingIsDue limits bytes = (rest : List ℕ) × GivesResults limits bytes [] rest

-- one more request is due: its head has come whole
abbrev pub RequestIsDue : Limits → List ℕ → Type 0
RequestIsDue limits bytes = (head : RequestHead) × (framing : Framing) × (rest : List ℕ) × ReadsHead limits bytes head framing rest

-- only CR and LF
abbrev pub IsBlank : List ℕ → Type 0
IsBlank bytes = All (λ b. IsTrue (is_line_break b)) bytes
